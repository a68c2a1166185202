use Rattle.std.proofs.Common.{◌≡◌, ◌∙◌, ◌++◌, [], ap, sym, subst, List, Result, drop, append-nil, if◌then◌else◌}
use Rattle.std.proofs.lemmas.List.{drop_all}
use Rattle.std.proofs.lemmas.Result.{err_from_is_err_and}
use Rattle.std.specs.List.{flat_map}
use Rattle.base65.specs.Outcome.{RefinesErr}
use Rattle.link65.specs.declared.fault.LinkFault.{LinkFault}
use Rattle.link65.specs.declared.parts.SegmentPiece.{SegmentPiece}
use Rattle.link65.specs.Links.{check_each}
use Rattle.link65.specs.Faults.{is_memory}
use Rattle.link65.specs.CodeInvariants.{cells_of, piece_fixups}
use Rattle.link65.specs.Placed.{bytes_in, cell_in, check_in, exports_in, linkage_in, segments_in}
use Rattle.link65.specs.Values.{segment_bytes}
use Rattle.link65.specs.Programs.{segment_of}
use Rattle.link65.proofs.Checks.{content_waits, flat_next, flat_stops, next_piece}
use Rattle.link65.proofs.finishing.bytes_of_row.Goals as goal

pub returns-in_err-check_pieces-clause-checked : goal.returns-in_err-check_pieces-clause-checked
returns-in_err-check_pieces-clause-checked c =
    let p = err_from_is_err_and c.from_residual.result c.from_residual.ensures.1 in
    let program = c.args.program.now in
    let there = c.in-Some.ensures ∙ ap (segment_of (segments_in program)) c.as_slice.ensures in
    rw (p.1, p.2) (subst (λ (r : Result (Unit {0}) LinkFault). RefinesErr is_memory c.in_err-check_pieces.field-0.0 r) (sym (content_waits (check_in program) _ c.in-Some.content.now c.as_slice-pieces.result.now there c.as_slice-pieces.ensures)) c.in_err-check_pieces.ensures)

pub returns-then-not-is_written-clause-checked : goal.returns-then-not-is_written-clause-checked
returns-then-not-is_written-clause-checked c =
    let program = c.args.program.now in
    let there = c.in-Some.ensures ∙ ap (segment_of (segments_in program)) c.as_slice.ensures in
    content_waits (check_in program) _ c.in-Some.content.now c.as_slice-pieces.result.now there c.as_slice-pieces.ensures ∙ c.in_ok-check_pieces.ensures

pub returns-in_err-add_piece-clause-checked : goal.returns-in_err-add_piece-clause-checked
returns-in_err-add_piece-clause-checked c =
    let p = err_from_is_err_and c.from_residual-in_err-add_piece.result c.from_residual-in_err-add_piece.ensures.1 in
    let program = c.args.program.now in
    let check = check_in program in
    let pieces = c.as_slice-pieces.result.now in
    let there = c.in-Some.ensures ∙ ap (segment_of (segments_in program)) c.as_slice.ensures in
    let whole = c.loop-piece.invariant.checked ∙ sym (content_waits check _ c.in-Some.content.now pieces there c.as_slice-pieces.ensures) in
    rw (p.1, p.2) (flat_stops check piece_fixups pieces c.loop-piece.piece-index c.piece-item.result _ c.in_err-add_piece.field-0.0 c.loop-piece-test.true c.piece-item.is whole c.in_err-add_piece.ensures.checked)

pub loop-piece-preserved : goal.loop-piece-preserved
loop-piece-preserved c =
    let program = c.args.program.now in
    let check = check_in program in
    let pieces = c.as_slice-pieces.result.now in
    let i = c.loop-piece.piece-index in
    record {
      checked = flat_next check piece_fixups pieces i c.piece-item.result tt (check_each check (flat_map piece_fixups pieces)) c.loop-piece-test.true c.piece-item.is c.in_ok-add_piece.ensures.checked c.loop-piece.invariant.checked;
      bytes = next_piece (linkage_in program) (exports_in program) c.args.row.now.fill_value pieces i c.piece-item.result c.loop-piece.bytes.items c.add_piece.new.bytes.items _ c.loop-piece-test.true c.piece-item.is c.in_ok-add_piece.ensures.bytes c.loop-piece.invariant.bytes;
    }

pub returns : goal.returns
returns c =
    let program = c.args.program.now in
    let check = check_in program in
    let row = c.args.row.now in
    let pieces = c.as_slice-pieces.result.now in
    let cell = cell_in program row.fill_value in
    let there = c.in-Some.ensures ∙ ap (segment_of (segments_in program)) c.as_slice.ensures in
    let end : drop c.loop-piece.piece-index pieces ≡ [] = drop_all c.loop-piece.piece-index pieces c.loop-piece-test.false in
    record {
      checked = content_waits check _ c.in-Some.content.now pieces there c.as_slice-pieces.ensures ∙ sym c.loop-piece.invariant.checked ∙ ap (λ (ps : List SegmentPiece). check_each check (flat_map piece_fixups ps)) end;
      bytes =
          c.from_vec.ensures
          ∙ sym (append-nil c.loop-piece.bytes.items)
          ∙ ap (λ (ps : List SegmentPiece). c.loop-piece.bytes.items ++ flat_map cell (cells_of ps)) (sym end)
          ∙ c.loop-piece.invariant.bytes
          ∙ ap (λ (ps : List SegmentPiece). flat_map cell (cells_of ps)) c.as_slice-pieces.ensures
          ∙ ap (segment_bytes (linkage_in program) (exports_in program) row.fill_value) there
          ∙ sym (ap (λ b. if b then bytes_in program row else []) (sym c.is_written.ensures ∙ c.if-not-is_written.false));
    }
