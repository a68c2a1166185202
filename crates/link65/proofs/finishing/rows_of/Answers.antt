use Rattle.std.proofs.lemmas.Grind.{common_steps}
use Rattle.std.proofs.Common.{arith, List}
use Rattle.std.proofs.lemmas.Result.{err_from_is_err_and}
use Rattle.link65.specs.Files.{written_row_bytes}
use Rattle.script65.specs.declared.script.SegmentRow.{SegmentRow}
use Rattle.link65.specs.declared.parts.ValueFixup.{ValueFixup}
use Rattle.link65.specs.Links.{check_each, fixups_by_row, fixups_of}
use Rattle.link65.specs.Placed.{bytes_in, check_in, segments_in}
use Rattle.link65.specs.Programs.{segment_of}
use Rattle.link65.proofs.Checks.{flat_next, flat_stops, next_mapped}
use Rattle.link65.proofs.finishing.rows_of.Goals as goal

pub returns-in_err-bytes_of_row-clause-checked : goal.returns-in_err-bytes_of_row-clause-checked
returns-in_err-bytes_of_row-clause-checked c =
    let p = err_from_is_err_and c.from_residual-in_err-bytes_of_row.result c.from_residual-in_err-bytes_of_row.ensures.1 in
    let check = check_in c.args.program.now in
    let segments = segments_in c.args.program.now in
    let fixup : SegmentRow → List ValueFixup = λ r. fixups_of (segment_of segments r.name) in
    rw (p.1, p.2) (flat_stops check fixup c.args.rows.now c.loop-row.row-index c.row-item.result (check_each check (fixups_by_row c.args.rows.now segments)) c.in_err-bytes_of_row.field-0.0 c.loop-row-test.true c.row-item.is c.loop-row.invariant.checked c.in_err-bytes_of_row.ensures.checked)

pub loop-row-preserved : goal.loop-row-preserved
loop-row-preserved c =
    let program = c.args.program.now in
    let check = check_in program in
    let segments = segments_in program in
    let fixup : SegmentRow → List ValueFixup = λ r. fixups_of (segment_of segments r.name) in
    record {
      checked = flat_next check fixup c.args.rows.now c.loop-row.row-index c.row-item.result tt (check_each check (fixups_by_row c.args.rows.now segments)) c.loop-row-test.true c.row-item.is c.in_ok-bytes_of_row.ensures.checked c.loop-row.invariant.checked;
      bytes = next_mapped (written_row_bytes (bytes_in program)) c.args.rows.now c.loop-row.row-index c.row-item.result _ c.loop-row.all.items _ _ c.loop-row-test.true c.row-item.is c.in_ok-push.ensures.items c.in_ok-bytes_of_row.ensures.bytes c.loop-row.invariant.bytes;
    }

pub returns-clause-bytes : goal.returns-clause-bytes
returns-clause-bytes c = grind (arith, common_steps)

pub returns-clause-checked : goal.returns-clause-checked
returns-clause-checked c = grind (arith, common_steps)
