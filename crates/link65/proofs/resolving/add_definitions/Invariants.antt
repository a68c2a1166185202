use Rattle.link65.specs.declared.parts.ScriptSymbol.{ScriptSymbol}
use Rattle.link65.specs.Placed.{definition_at, provider_found}
use Rattle.link65.proofs.ListLemmas.{AreKnown}
use Rattle.link65.proofs.resolving.add_definitions.Given as goal

abbrev pub invariant-loop-i : goal.invariant-loop-i
invariant-loop-i l = AreKnown (λ (x : ScriptSymbol). x.name) (definition_at l.definitions) l.definitions l.i (provider_found l.fn.providers) l.providers
