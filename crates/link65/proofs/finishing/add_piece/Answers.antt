use Rattle.std.proofs.Common.{◌≡◌, ◌∙◌, ◌++◌, ap, arith}
use Rattle.std.proofs.lemmas.Grind.{common_steps}
use Rattle.std.specs.Prelude.{replicate}
use Rattle.link65.specs.Placed.{check_in, exports_in, linkage_in}
use Rattle.link65.proofs.Checks.{filled_passes, known_passes, filled_piece, known_piece}
use Rattle.link65.proofs.finishing.add_piece.Goals as goal

pub returns-in_ok-extend_from_slice-in-Known-clause-checked : goal.returns-in_ok-extend_from_slice-in-Known-clause-checked
returns-in_ok-extend_from_slice-in-Known-clause-checked c = known_passes (check_in c.args.program.now) c.args.piece.now _ c.in-Known.is

pub returns-in_ok-extend_from_slice-in-Known-clause-bytes : goal.returns-in_ok-extend_from_slice-in-Known-clause-bytes
returns-in_ok-extend_from_slice-in-Known-clause-bytes c =
    let p = c.args.program.now in
    c.in_ok-extend_from_slice-in-Known.ensures.items
    ∙ ap (λ b. c.args.bytes.now.items ++ b) (c.as_slice.ensures ∙ known_piece (linkage_in p) (exports_in p) c.args.fill c.args.piece.now c.in-Known.known c.in-Known.is)

pub returns-in_ok-resize-in-Some-clause-checked : goal.returns-in_ok-resize-in-Some-clause-checked
returns-in_ok-resize-in-Some-clause-checked c = filled_passes (check_in c.args.program.now) c.args.piece.now _ c.in-Filled.is

pub returns-in_ok-resize-in-Some-clause-bytes : goal.returns-in_ok-resize-in-Some-clause-bytes
returns-in_ok-resize-in-Some-clause-bytes c =
    let p = c.args.program.now in
    let added : c.resize.new.self.items ≡ c.args.bytes.now.items ++ replicate c.in-Filled.count c.args.fill = grind (arith, common_steps) in
    added
    ∙ ap (λ b. c.args.bytes.now.items ++ b) (filled_piece (linkage_in p) (exports_in p) c.args.fill c.args.piece.now c.in-Filled.count c.in-Filled.is)
