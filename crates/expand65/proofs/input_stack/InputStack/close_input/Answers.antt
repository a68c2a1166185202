use Rattle.std.proofs.Common.{◌∙◌, ap}
use Rattle.expand65.specs.Representation.{outer_items}
use Rattle.expand65.specs.Lines.{restored_location}
use Rattle.expand65.proofs.Inputs.{closes, not_closed, same_items}
use Rattle.expand65.proofs.FilePositions.{goes_back, placed_in}
use Rattle.expand65.proofs.input_stack.InputStack.close_input.Goals as goal

pub returns-then-self-conditions-clause-closed : goal.returns-then-self-conditions-clause-closed
returns-then-self-conditions-clause-closed c = λ m e. not_closed m c.args.self.now c.args.conditions e c.if-self-conditions.true

pub returns-clause-closed : goal.returns-clause-closed
returns-clause-closed c =
    let old = c.args.self.now in
    let mid = c.pop_input-more.new.self in
    let new = c.restore_location.new.self in
    let more = c.pop_input-more.result in
    λ m e. closes m old new c.args.conditions more e c.if-self-conditions.false (same_items m mid new more (outer_items m old.outer.items) c.restore_location.ensures.top c.restore_location.ensures.outer (c.pop_input-more.ensures.closed m)) (c.restore_location.ensures.location ∙ ap (λ p. restored_location p c.pop_input-more.new.return_location) c.pop_input-more.ensures.location ∙ c.pop_input-more.ensures.back old.location)

pub returns-clause-stack_position : goal.returns-clause-stack_position
returns-clause-stack_position c = λ m h.
    (let old = c.args.self.now in
    let mid = c.pop_input-more.new.self in
    let return_location = c.pop_input-more.new.return_location in
    goes_back m mid c.restore_location.new.self (restored_location old.location return_location) c.restore_location.ensures.top c.restore_location.ensures.outer (c.restore_location.ensures.location ∙ ap (λ p. restored_location p return_location) c.pop_input-more.ensures.location) (c.pop_input-more.ensures.stack_position m old.location (placed_in m old h)))
