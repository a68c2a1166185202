use Rattle.std.proofs.Common.{◌≡◌, ◌∙◌, ap, subst, Option, Some}
use Rattle.std.specs.Prelude.{IfOk}
use Rattle.link65.specs.CodeInvariants.{segment_from}
use Rattle.link65.specs.Placed.{segments_in}
use Rattle.link65.specs.Programs.{Segment, segment_of}
use Rattle.link65.specs.Texts.{row_warnings}
use Rattle.link65.proofs.texts.warnings_of_row.Goals as goal

pub returns-in-None : goal.returns-in-None
returns-in-None c =
    let there = c.in-None.ensures ∙ ap (segment_of (segments_in c.args.program.now)) c.as_slice.ensures in
    subst (λ (o : Option Segment). IfOk c.absence_warning.result (λ text. text ≡ row_warnings c.args.row.now o)) there c.absence_warning.ensures

pub returns-in_ok-extend_from_slice-in-Some : goal.returns-in_ok-extend_from_slice-in-Some
returns-in_ok-extend_from_slice-in-Some c =
    let there : Some (segment_from c.in-Some.content.now) ≡ segment_of (segments_in c.args.program.now) c.args.row.now.name = c.in-Some.ensures ∙ ap (segment_of (segments_in c.args.program.now)) c.as_slice.ensures in
    rw (← there) (cc (c.in_ok-extend_from_slice-in-Some.ensures.ok, c.in_ok-text-in-Some.ensures, c.as_slice-in-Some.ensures, c.in_ok-data_warning-in-Some.ensures))
