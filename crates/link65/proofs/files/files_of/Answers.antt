use Rattle.std.proofs.Common.{◌≡◌, ◌∙◌, ◌<◌, [], ℕ, List, drop, ap, arith, length, map, rules, sym, subst, slice_get}
use Rattle.script65.specs.declared.placement.RowPlacement.{RowPlacement}
use Rattle.script65.specs.declared.script.MemoryArea.{MemoryArea}
use Rattle.script65.specs.declared.script.SegmentRow.{SegmentRow}
use Rattle.base65.specs.declared.output.OutputFile.{OutputFile}
use Rattle.link65.specs.Files.{AddsAreas, IsAreaFile, RowBytes, written_row_bytes}
use Rattle.link65.specs.Internal.Loads.{HasRowImages, view}
use Rattle.link65.proofs.FileLemmas.{next_area, no_area}
use Rattle.link65.proofs.files.files_of.Goals as goal

pub loop-k-init : goal.loop-k-init
loop-k-init c =
    let Holds : List SegmentRow → List RowPlacement → Type 0 = λ rows placements.
    (bytes : RowBytes) → c.args.contents.items ≡ map (written_row_bytes bytes) rows → (k : ℕ) → k < length c.as_slice-areas.result.now → HasRowImages bytes k rows placements (slice_get c.in_ok-loads.loads.items k) in
    let rows = subst (λ (rs : List SegmentRow). Holds rs c.as_slice.result.now) c.as_slice-rows.ensures c.in_ok-loads.ensures in
    let all = subst (λ (ps : List RowPlacement). Holds c.args.script.now.rows ps) c.as_slice.ensures rows in
    record {
      named = search rules;
      loads = λ bytes are j le lt. all bytes are j (omega arith);
      rest = search rules;
    }

pub loop-k-preserved : goal.loop-k-preserved
loop-k-preserved c =
    let k = c.loop-k.k in
    record {
      named = c.in_ok-add_area.ensures.named;
      loads = λ bytes are j le lt.
          subst (λ o. HasRowImages bytes j c.args.script.now.rows c.args.placement.now.rows o) (sym (c.move_out.ensures.others j (omega arith))) (c.loop-k.invariant.loads bytes are j (omega arith) lt);
      rest = λ bytes are after h.
          let held = c.loop-k.invariant.loads bytes are k (omega arith) c.loop-k-test.true in
          c.loop-k.invariant.rest bytes are after
          (next_area c.args.output.now bytes c.args.script.now.rows c.args.placement.now c.as_slice-areas.result.now k c.index-areas-k.result c.file_name-name.result.now c.area_at.result (map view c.move_out.result) _ _ after c.loop-k-test.true c.index-areas-k.is c.file_name-name.ensures c.area_at.ensures
          (ap (map view) (c.move_out.ensures.accepted held.0 held.1) ∙ held.2)
          c.in_ok-add_area.ensures.files h);
    }

pub returns : goal.returns
returns c = λ bytes are.
    let Adds : List MemoryArea → Type 0 = λ as'. AddsAreas c.args.output.now (IsAreaFile c.args.script.now.rows c.args.placement.now bytes) 0 as' [] c.from_vec.result in
    subst Adds c.as_slice-areas.ensures
    (c.loop-k.invariant.rest bytes are c.from_vec.result (let P = λ (fs : List OutputFile). AddsAreas c.args.output.now (IsAreaFile c.args.script.now.rows c.args.placement.now bytes) c.loop-k.k (drop c.loop-k.k c.as_slice-areas.result.now) fs c.from_vec.result in
    subst P c.from_vec.ensures (no_area c.args.output.now bytes c.args.script.now.rows c.args.placement.now c.as_slice-areas.result.now c.loop-k.k c.from_vec.result c.loop-k-test.false)))
