use Rattle.std.proofs.Common.{ap, ◌∙◌, sym}
use Rattle.semantics65.specs.Symbols.{last_of}
use Rattle.symbols65.proofs.Scopes.{last_after}
use Rattle.symbols65.proofs.resolving.bindings.last_in.Goals as goal

pub returns-in-Some : goal.returns-in-Some
returns-in-Some c = c.as_slice.ensures ∙ sym (ap last_of c.in-Some.ensures.cases.0 ∙ last_after c.in-Some.field-0-1.now c.in-Some.last.now)
