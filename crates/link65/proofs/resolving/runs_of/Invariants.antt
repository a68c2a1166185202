use Rattle.std.proofs.Common.{ℕ, List, None, Some}
use Rattle.script65.specs.declared.script.SegmentRow.{SegmentRow}
use Rattle.link65.specs.Values.{run_at}
use Rattle.link65.proofs.ListLemmas.{AreKnown}
use Rattle.link65.proofs.resolving.runs_of.Given as goal

abbrev pub invariant-loop-i : goal.invariant-loop-i
invariant-loop-i l = AreKnown (λ (r : SegmentRow). r.name) (λ i. run_at l.placements (Some i)) l.rows l.i (λ (name : List ℕ). None) l.runs
