use Rattle.std.proofs.Common.{◌≡◌, ◌∙◌, refl, arith, slice_get}
use Rattle.std.proofs.lemmas.Grind.{common_steps}
use Rattle.std.proofs.lemmas.Option.{gets}
use Rattle.link65.proofs.FileLemmas.{collects_none, collects_more, collects_past, collects_all, taken_bytes}
use Rattle.link65.proofs.files.loads_of.Goals as goal
use Rattle.link65.proofs.files.loads_of.Goals.{in-Some+in_ok-add_row-in-Some, in-None}

pub loop-i-init : goal.loop-i-init
loop-i-init c = record {
  rest = λ j le. refl;
  each = λ bytes are k lt. collects_none bytes k c.args.rows.now c.args.placements.now _ (c.in_ok-loads.ensures k lt);
}

pub loop-i-preserved : goal.loop-i-preserved
loop-i-preserved c = record {
  rest = λ j le. c.move_out-bytes.ensures.others j (omega arith) ∙ c.loop-i.invariant.rest j (omega arith);
  each = λ bytes are k lt.
      let rows = c.args.rows.now in
      let placements = c.args.placements.now in
      let own = taken_bytes bytes rows c.args.contents.items c.loop-i.i c.index-rows-i.result c.move_out-bytes.result are c.loop-i-test.true c.index-rows-i.is (λ x e. c.move_out-bytes.ensures.accepted x (c.loop-i.invariant.rest c.loop-i.i (omega arith) ∙ e)) in
      let there : slice_get placements c.loop-i.i ≡ c.copied.result = grind (arith, common_steps, gets) in
      elim c.match-copied.branch [
        | in-Some+in_ok-add_row-in-Some w ↦ rw w.loads-is (collects_more bytes k rows placements c.loop-i.i _ _ _ c.loop-i-test.true c.index-rows-i.is (there ∙ w.in-Some.is) own (w.in_ok-add_row-in-Some.ensures k) (c.loop-i.invariant.each bytes are k lt))
        | in-None w ↦ rw w.loads-is (collects_past bytes k rows placements c.loop-i.i _ (there ∙ w.in-None.is) (c.loop-i.invariant.each bytes are k lt))
      ];
}

pub returns : goal.returns
returns c = λ bytes are k lt. collects_all bytes k c.args.rows.now c.args.placements.now c.loop-i.i _ c.loop-i-test.false (c.loop-i.invariant.each bytes are k lt)
