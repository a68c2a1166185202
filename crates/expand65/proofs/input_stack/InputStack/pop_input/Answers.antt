use Rattle.std.proofs.Common.{◌≡◌, ◌∙◌, ◌++◌, ◌∷◌, [], ap, sym, refl, rules}
use Rattle.expand65.specs.Lines.{restored_location}
use Rattle.expand65.specs.declared.input_stack.Input.{Input}
use Rattle.expand65.proofs.FilePositions.{drops, stays}
use Rattle.expand65.proofs.Inputs.{dropped}
use Rattle.expand65.proofs.input_stack.InputStack.pop_input.Goals as goal

pub returns-in-Some-clause-closed : goal.returns-in-Some-clause-closed
returns-in-Some-clause-closed c = λ m. dropped m c.args.self.now.outer.items c.pop.new.self.items c.in-Some.outer c.replace-inner.new.dest c.in-Some.ensures.items c.replace-inner.ensures.after

pub returns-in-Some-clause-stack_position : goal.returns-in-Some-clause-stack_position
returns-in-Some-clause-stack_position c = λ m p h.
    (let old = c.args.self.now in
    let rest = c.pop.new.self.items in
    let p0 = restored_location p c.args.return_location.now in
    drops m old.top old.outer.items rest c.replace-inner.new.dest p0 (restored_location p c.replace_if_some-in-Some.new.return_location) (c.in-Some.ensures.items ∙ ap (λ i. rest ++ i ∷ []) (sym c.replace-inner.ensures.after)) (c.replace_if_some-in-Some.ensures p ∙ ap (λ (i : Input). restored_location p0 i.return_location) c.replace-inner.ensures.value) h)

pub returns-in-None-clause-stack_position : goal.returns-in-None-clause-stack_position
returns-in-None-clause-stack_position c = λ m p h.
    (let old = c.args.self.now in
    let new : Input = record { source = old.top.source; conditions = old.top.conditions; return_location = c.take.new.self } in
    let p0 = restored_location p c.args.return_location.now in
    let none : old.outer.items ≡ [] = search rules in
    let left : c.pop.new.self.items ≡ [] = search rules in
    stays m old.top new old.outer.items c.pop.new.self.items p0 (restored_location p c.replace_if_some.new.return_location) none left refl c.take.ensures.after (c.replace_if_some.ensures p ∙ ap (restored_location p0) c.take.ensures.value) h)
