use Rattle.std.proofs.Common.{◌≡◌, ◌≤◌, ◌∙◌, true, sym}
use Rattle.std.specs.List.{AllByRecursion}
use Rattle.object65.specs.Objects.{is_well_formed_object, section_len, section_limit}
use Rattle.object65.specs.Internal.Sound.{state_in, state_of}
use Rattle.object65.specs.Scanning.{object_from}
use Rattle.object65.proofs.ItemLimits.{reached_good, good_sized, if_given}
use Rattle.object65.proofs.builder.Builder.finish.Goals as goal

pub returns-clause-good : goal.returns-clause-good
returns-clause-good c =
    let b = c.self.inside in
    let whole = c.self.invariant c.if-self.false in
    if_given c.finish_object.result (object_from (state_of b.parts)) (λ o. is_well_formed_object o ≡ true) c.finish_object.ensures
    (reached_good (state_in b.parts b.scan) whole.reached whole.texts (sym c.is_ended.ensures ∙ c.if-not-is_ended.false))

pub returns-clause-sized : goal.returns-clause-sized
returns-clause-sized c =
    let b = c.self.inside in
    let whole = c.self.invariant c.if-self.false in
    if_given c.finish_object.result (object_from (state_of b.parts)) (λ o. AllByRecursion (λ s. section_len s ≤ section_limit) o.sections) c.finish_object.ensures
    (good_sized (object_from (state_of b.parts)) (reached_good (state_in b.parts b.scan) whole.reached whole.texts (sym c.is_ended.ensures ∙ c.if-not-is_ended.false)))
