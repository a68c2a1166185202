use Rattle.std.proofs.Common.{◌≡◌, ◌∙◌, [], Bool, ap, refl, sym, subst, arith}
use Rattle.std.specs.Prelude.{if◌then◌else◌}
use Rattle.expand65.specs.Lines.{after_innermost_macro, restored_location}
use Rattle.expand65.specs.Representation.{remaining_of, outer_items, AreInputsAt, open_inputs}
use Rattle.expand65.proofs.Inputs.{goes_out, is_out, none_out, same_items}
use Rattle.syntax65.specs.declared.source_location.SourceLocation.{SourceLocation}
use Rattle.expand65.proofs.FilePositions.{goes_back, placed_in}
use Rattle.expand65.proofs.input_stack.InputStack.close_macro_call.Goals as goal

pub returns-then-not-more-clause-closed : goal.returns-then-not-more-clause-closed
returns-then-not-more-clause-closed c =
    let old = c.inputs.self in
    let new = c.pop_input-more.new.self in
    λ m. let P : Bool → Type 0 = λ b. (if b then (remaining_of m new).items else []) ≡ outer_items m old.outer.items in
    none_out m old (restored_location old.location c.inputs.return_location) (after_innermost_macro (remaining_of m c.args.self.now).items c.args.self.now.location) (sym c.is_call-is_call.ensures ∙ c.if-is_call.false) (subst P c.if-not-more.true (c.pop_input-more.ensures.closed m)) (c.inputs.invariant.so_far m)

pub inputs-init : goal.inputs-init
inputs-init c = record {
  so_far = λ m. refl;
  stands = λ m h. placed_in m c.args.self.now h;
  location = refl;
  budget = refl;
  fewer = omega arith;
}

pub inputs-preserved : goal.inputs-preserved
inputs-preserved c =
    let old = c.inputs.self in
    let new = c.pop_input-more.new.self in
    let return_location = c.pop_input-more.new.return_location in
    record {
      so_far = λ m. let P : Bool → Type 0 = λ b. (if b then (remaining_of m new).items else []) ≡ outer_items m old.outer.items in
          goes_out m old new (restored_location old.location c.inputs.return_location) (restored_location new.location return_location) (after_innermost_macro (remaining_of m c.args.self.now).items c.args.self.now.location) (sym c.is_call-is_call.ensures ∙ c.if-is_call.false) (subst P c.if-not-more.false (c.pop_input-more.ensures.closed m)) (ap (λ p. restored_location p return_location) c.pop_input-more.ensures.location ∙ c.pop_input-more.ensures.back old.location) (c.inputs.invariant.so_far m);
      stands = λ m h. subst (λ (q : SourceLocation). AreInputsAt m (open_inputs new) (restored_location q return_location)) (sym c.pop_input-more.ensures.location) (c.pop_input-more.ensures.stack_position m old.location (c.inputs.invariant.stands m h));
      location = c.pop_input-more.ensures.location ∙ c.inputs.invariant.location;
      budget = c.pop_input-more.ensures.budget ∙ c.inputs.invariant.budget;
      fewer = omega (arith, c.pop_input-more.ensures.fewer, c.inputs.invariant.fewer);
    }

pub returns-then-is_call-clause-closed : goal.returns-then-is_call-clause-closed
returns-then-is_call-clause-closed c =
    let old = c.inputs.self in
    let mid = c.pop_input-more.new.self in
    let new = c.restore_location.new.self in
    let return_location = c.pop_input-more.new.return_location in
    let more = c.pop_input-more.result in
    λ m. is_out m old new (restored_location old.location c.inputs.return_location) (after_innermost_macro (remaining_of m c.args.self.now).items c.args.self.now.location) more (sym c.is_call-is_call.ensures ∙ c.if-is_call.true) (same_items m mid new more (outer_items m old.outer.items) c.restore_location.ensures.top c.restore_location.ensures.outer (c.pop_input-more.ensures.closed m)) (c.restore_location.ensures.location ∙ ap (λ p. restored_location p return_location) c.pop_input-more.ensures.location ∙ c.pop_input-more.ensures.back old.location) (c.inputs.invariant.so_far m)

pub returns-then-is_call-clause-stack_position : goal.returns-then-is_call-clause-stack_position
returns-then-is_call-clause-stack_position c = λ m h.
    (let old = c.inputs.self in
    let mid = c.pop_input-more.new.self in
    let return_location = c.pop_input-more.new.return_location in
    goes_back m mid c.restore_location.new.self (restored_location old.location return_location) c.restore_location.ensures.top c.restore_location.ensures.outer (c.restore_location.ensures.location ∙ ap (λ p. restored_location p return_location) c.pop_input-more.ensures.location) (c.pop_input-more.ensures.stack_position m old.location (c.inputs.invariant.stands m h)))
