use Rattle.std.proofs.Common.{◌≡◌, Ok, Result, ap, refl}
use Rattle.std.specs.List.{flat_map}
use Rattle.base65.specs.Outcome.{◌>>=◌}
use Rattle.link65.specs.declared.fault.LinkFault.{LinkFault}
use Rattle.link65.specs.declared.parts.ValueFixup.{ValueFixup}
use Rattle.link65.specs.declared.parts.SegmentPiece.{SegmentPiece}
use Rattle.link65.specs.declared.parts.SegmentPiece.TheVariants.{Known, Filled, Deferred}
use Rattle.link65.specs.Links.{check_each}
use Rattle.link65.specs.CodeInvariants.{piece_fixups}
use Rattle.link65.specs.Placed.{check_in}
use Rattle.link65.proofs.Checks.{Check, filled_passes, flat_next, known_passes}
use Rattle.link65.proofs.finishing.check_pieces.Goals as goal
use Rattle.link65.proofs.finishing.check_pieces.Goals.{in-Deferred+in_ok-datum_value, in_default}

waits_passes : (check : Check ValueFixup) (p : SegmentPiece) (w : ValueFixup) → p ≡ Deferred w → check w ≡ Ok tt → check_each check (piece_fixups p) ≡ Ok tt
waits_passes check p w is e = rw is (ap (λ (r : Result (Unit {0}) LinkFault). r >>= (λ u. Ok tt)) e)

others_pass : (check : Check ValueFixup) (p : SegmentPiece) → ((w : ValueFixup) → p ≡ Deferred w → ⊥) → check_each check (piece_fixups p) ≡ Ok tt
others_pass check (Known bytes) never = known_passes check (Known bytes) bytes refl
others_pass check (Filled n) never = filled_passes check (Filled n) n refl
others_pass check (Deferred w) never = absurd (never w refl)

pub loop-piece-preserved : goal.loop-piece-preserved
loop-piece-preserved c =
    let check = check_in c.args.program.now in
    let piece = c.piece-item.result in
    let passes : check_each check (piece_fixups piece) ≡ Ok tt = elim c.match-piece.branch [
      | in-Deferred+in_ok-datum_value w ↦ waits_passes check piece w.in-Deferred.fixup w.in-Deferred.is w.in_ok-datum_value.ensures.checked
      | in_default w ↦ others_pass check piece w.in_default.not-Deferred
    ] in
    flat_next check piece_fixups c.args.pieces.now c.loop-piece.piece-index piece tt (check_each check (flat_map piece_fixups c.args.pieces.now)) c.loop-piece-test.true c.piece-item.is passes c.loop-piece.invariant
