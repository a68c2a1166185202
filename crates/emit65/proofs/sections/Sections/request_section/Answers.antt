use Rattle.std.proofs.Common.{◌∙◌, Some, ap, refl}
use Rattle.emit65.proofs.RepresentedSlots.{stands_again, stands_asked}
use Rattle.emit65.proofs.sections.Sections.request_section.Goals as goal

pub returns : goal.returns
returns c = λ xs h. stands_asked c.args.self.now _ c.args.segment xs c.in_ok-insert.ensures.keys refl refl refl h

pub returns-then-latest-segment : goal.returns-then-latest-segment
returns-then-latest-segment c = λ xs h. stands_again c.args.self.now c.args.segment xs (c.in-Some.is ∙ ap Some c.if-latest-segment.true) h
