use Rattle.std.proofs.Common.{◌∙◌, sym}
use Rattle.symbols65.specs.Views.{table_of}
use Rattle.symbols65.proofs.Scopes.{no_scope, scope_before, scope_after}
use Rattle.symbols65.proofs.resolving.scopes.scope_in.Goals as goal

pub returns-in-Some : goal.returns-in-Some
returns-in-Some c = sym (scope_before (table_of c.args.symbols.now).scopes c.args.opened c.args.within c.args.name.now c.in-Some.scope (sym c.scope_in.ensures ∙ c.in-Some.is) c.if-scope-opened.true)

pub returns-in_default : goal.returns-in_default
returns-in_default c = sym (scope_after (table_of c.args.symbols.now).scopes c.args.opened c.args.within c.args.name.now c.in-Some.scope (sym c.scope_in.ensures ∙ c.in-Some.is) c.if-scope-opened.false)

pub returns-in_default-2 : goal.returns-in_default-2
returns-in_default-2 c = sym (no_scope (table_of c.args.symbols.now).scopes c.args.opened c.args.within c.args.name.now (sym c.scope_in.ensures ∙ c.in_default.is))
