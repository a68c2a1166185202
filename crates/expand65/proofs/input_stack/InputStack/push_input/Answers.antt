use Rattle.std.proofs.Common.{◌∙◌, ◌<◌, ◌≤◌, ◌++◌, ◌∷◌, [], ap, refl, arith, length, reverse, subst, sym}
use Rattle.expand65.specs.Representation.{AreInputsAt}
use Rattle.expand65.proofs.FilePositions.{enters}
use Rattle.expand65.specs.declared.input_stack.InputStack.{InputStack}
use Rattle.expand65.proofs.Inputs.{entered_one, entered_none}
use Rattle.expand65.proofs.input_stack.InputStack.push_input.Goals as goal

pub returns-then-len-ge-MAX_NESTING-clause-entered : goal.returns-then-len-ge-MAX_NESTING-clause-entered
returns-then-len-ge-MAX_NESTING-clause-entered c =
    let many : 256 ≤ length c.args.self.now.outer.items = omega (arith, c.len.ensures, c.if-len-ge-MAX_NESTING.true) in
    λ m. entered_none m c.args.self.now c.args.input many

pub returns-clause-entered : goal.returns-clause-entered
returns-clause-entered c =
    let old = c.args.self.now in
    let few : length c.args.self.now.outer.items < 256 = omega (arith, c.len.ensures, c.if-len-ge-MAX_NESTING.false) in
    let new : InputStack = record { top = c.replace-outer.new.dest; outer = c.push.new.self; budget = old.budget; location = old.location } in
    λ m. entered_one m old new c.args.input few c.replace-outer.ensures.after (c.in_ok-push.ensures.items ∙ ap (λ i. old.outer.items ++ i ∷ []) c.replace-outer.ensures.value) refl refl

pub returns-clause-stack_position : goal.returns-clause-stack_position
returns-clause-stack_position c = λ m p s k b h.
    (let old = c.args.self.now in
    let items = c.push.new.self.items in
    subst (λ i. AreInputsAt m (i ∷ reverse items) p) (sym c.replace-outer.ensures.after) (enters m old items c.args.input p (c.in_ok-push.ensures.items ∙ ap (λ i. old.outer.items ++ i ∷ []) c.replace-outer.ensures.value) s k b h))
