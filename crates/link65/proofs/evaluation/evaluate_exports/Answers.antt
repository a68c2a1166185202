use Rattle.std.proofs.Common.{arith, ℕ, ◌≡◌, ◌∙◌, ◌++◌, List, length, take, drop, sym, append-nil}
use Rattle.std.proofs.lemmas.Grind.{common_steps}
use Rattle.std.proofs.lemmas.List.{drop_all}
use Rattle.link65.specs.declared.evaluation.ExportState.{ExportState}
use Rattle.link65.specs.declared.evaluation.ExportState.TheVariants.{Untouched}
use Rattle.link65.specs.Values.{linkage}
use Rattle.link65.proofs.FinishLemmas.{below_kept, below_next, touched_found}
use Rattle.link65.proofs.EvaluationSteps.{get_or_some}
use Rattle.link65.proofs.evaluation.evaluate_exports.Goals as goal
use Rattle.link65.proofs.evaluation.evaluate_exports.Goals.{in-Untouched+in_ok-evaluate_export, in_default}

-- a list of `n` states replaces one of the same length
all_new : (old new : List ExportState) (n : ℕ) → n ≡ length old → length new ≡ length old → take n (new ++ drop (length new) old) ≡ new
all_new old new n all same = grind (arith, common_steps, drop_all, append-nil)

pub loop-root-preserved : goal.loop-root-preserved
loop-root-preserved c =
    let inv = c.loop-root.invariant in
    let exports = linkage c.args.modules.now c.args.exports.now in
    let old = c.loop-root.states.items in
    let root = c.loop-root.root in
    elim c.match-index.branch [
      | in-Untouched+in_ok-evaluate_export w ↦
          let new = w.evaluate_export.new.states in
          let settled = w.in_ok-evaluate_export.ensures in
          rw (w.states-is, all_new old new c.loop-root.states.len c.loop-root.states.ok.0 (settled.invariant.long ∙ sym inv.settled.long)) (record {
            settled = settled.invariant;
            below = below_next root new (below_kept root old new (rw w.as_mut_slice.ensures.value at settled.kept) inv.below) settled.found;
          })
      | in_default w ↦
          rw w.states-is (record {
            settled = inv.settled;
            below = below_next root old inv.below (touched_found exports old root inv.settled (omega (arith, c.loop-root-test.true, c.len-root-end.ensures, c.in_ok-states.ensures.len, inv.settled.long)) (λ e. w.in_default.not-Untouched (c.index.ensures ∙ get_or_some old root Untouched c.index.result.now e)));
          })
    ]
