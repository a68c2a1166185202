use Rattle.link65.specs.Placed.{ExportStatesInvariant}
use Rattle.link65.specs.Values.{linkage}
use Rattle.link65.proofs.FinishLemmas.{FoundBelow}
use Rattle.link65.proofs.evaluation.evaluate_exports.Given as goal

abbrev pub invariant-loop-root : goal.invariant-loop-root
invariant-loop-root l = record {
  settled : ExportStatesInvariant (linkage l.modules l.exports) l.states.items;
  below : FoundBelow l.root l.states.items;
}
