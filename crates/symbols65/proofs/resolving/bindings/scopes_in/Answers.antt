use Rattle.std.proofs.Common.{ap, ◌∙◌, sym}
use Rattle.semantics65.specs.Symbols.{scope_path}
use Rattle.symbols65.proofs.Scopes.{scopes_before}
use Rattle.symbols65.proofs.resolving.bindings.scopes_in.Goals as goal

pub returns-in-Some : goal.returns-in-Some
returns-in-Some c = sym (ap scope_path c.in-Some.ensures.cases.0 ∙ scopes_before c.in-Some.scopes.now c.in-Some.field-0-0.now)
