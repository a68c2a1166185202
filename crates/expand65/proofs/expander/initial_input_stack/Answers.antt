use Rattle.std.proofs.Common.{◌∙◌, None, refl, sym}
use Rattle.syntax65.specs.declared.source_location.SourceLocation.{SourceLocation}
use Rattle.expand65.specs.declared.input.LineSource.TheVariants as source
use Rattle.expand65.specs.declared.input_stack.InputStack.{InputStack}
use Rattle.expand65.proofs.FilePositions.{opened_at, source_placed}
use Rattle.expand65.proofs.expander.initial_input_stack.Goals as goal

pub returns-clause-stack_position : goal.returns-clause-stack_position
returns-clause-stack_position c = λ m.
    (let location : SourceLocation = record { file = c.in_ok-copy_of-2.field-0; line = 0 } in
    let stack : InputStack = record { top = record { source = source.File c.new.result; conditions = 0; return_location = None }; outer = c.new-2.result; budget = 1048576; location = location } in
    source_placed m stack c.new.result refl refl c.new-2.ensures.items (opened_at m c.new.result location (c.new.ensures.name ∙ c.in_ok-copy_of.ensures ∙ sym c.in_ok-copy_of-2.ensures) c.new.ensures.line refl (c.new.ensures.following m)))
