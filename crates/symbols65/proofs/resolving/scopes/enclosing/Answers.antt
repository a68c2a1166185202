use Rattle.std.proofs.Common.{◌∙◌, sym}
use Rattle.symbols65.specs.Views.{table_of}
use Rattle.symbols65.proofs.Scopes.{enclosing_before, enclosing_after}
use Rattle.symbols65.proofs.resolving.scopes.enclosing.Goals as goal

pub returns-then-scope-opened : goal.returns-then-scope-opened
returns-then-scope-opened c = c.enclosing.ensures ∙ sym (enclosing_before (table_of c.args.symbols.now).scopes c.args.opened c.args.scope c.if-scope-opened.true)

pub returns-else-scope-opened : goal.returns-else-scope-opened
returns-else-scope-opened c = sym (enclosing_after (table_of c.args.symbols.now).scopes c.args.opened c.args.scope c.if-scope-opened.false)
