use Rattle.std.proofs.Common.{rules, ◌≡◌, ◌<◌, ◌++◌, [], ◌∷◌, length}
use Rattle.std.specs.Prelude.{slice_set}
use Rattle.link65.specs.declared.evaluation.ExportState.TheVariants.{Found}
use Rattle.std.proofs.lemmas.List.{nil_from_length}
use Rattle.link65.specs.Values.{linkage}
use Rattle.link65.proofs.EvaluationSteps.{Ends, next_inside, walk_down, walk_ends, walk_up, work_down, work_up}
use Rattle.link65.proofs.evaluation.evaluate_export.Goals as goal

pub offset_bounds-states-next : goal.offset_bounds-states-next
offset_bounds-states-next c =
    let h : c.in-Needs.next < length c.walk.states = next_inside (linkage c.args.modules.now c.args.exports.now) c.args.states.now c.walk.states c.walk.stack.items c.args.root c.walk.top c.in-Needs.next c.walk.invariant c.in-Needs.ensures in
    search rules

pub bounds-states-next : goal.bounds-states-next
bounds-states-next c = next_inside (linkage c.args.modules.now c.args.exports.now) c.args.states.now c.walk.states c.walk.stack.items c.args.root c.walk.top c.in-Needs.next c.walk.invariant c.in-Needs.ensures

pub walk-smaller-in-Needs : goal.walk-smaller-in-Needs
walk-smaller-in-Needs c =
    let less = work_down (linkage c.args.modules.now c.args.exports.now) c.args.states.now c.walk.states c.walk.stack.items c.args.root c.walk.top c.in-Needs.next c.walk.invariant c.in-Needs.ensures in
    let pushed : c.push.new.self.items ≡ c.walk.stack.items ++ c.walk.top ∷ [] = c.in_ok-push-in-Needs.ensures.items in
    rw pushed less

pub walk-preserved-in-Needs : goal.walk-preserved-in-Needs
walk-preserved-in-Needs c =
    let down = walk_down (linkage c.args.modules.now c.args.exports.now) c.args.states.now c.walk.states c.walk.stack.items c.args.root c.walk.top c.in-Needs.next c.walk.invariant c.in-Needs.ensures in
    let pushed : c.push.new.self.items ≡ c.walk.stack.items ++ c.walk.top ∷ [] = c.in_ok-push-in-Needs.ensures.items in
    rw pushed down

ends : (c : goal.After-drop-stack-in-None) → Ends (linkage c.args.modules.now c.args.exports.now) c.args.states.now (slice_set c.walk.states c.walk.top (Found c.in-Completed.outcome)) c.args.root
ends c =
    let zero : length c.walk.stack.items ≡ 0 = search (rules, c.in-None.ensures.cases) in
    let none : c.walk.stack.items ≡ [] = nil_from_length c.walk.stack.items zero in
    walk_ends (linkage c.args.modules.now c.args.exports.now) c.args.states.now c.walk.states c.walk.stack.items c.args.root c.walk.top c.in-Completed.outcome c.walk.invariant none c.in-Completed.ensures

pub returns-in-None-clause-invariant : goal.returns-in-None-clause-invariant
returns-in-None-clause-invariant c = (ends c).settled

pub returns-in-None-clause-found : goal.returns-in-None-clause-found
returns-in-None-clause-found c = (ends c).found

pub returns-in-None-clause-kept : goal.returns-in-None-clause-kept
returns-in-None-clause-kept c = (ends c).kept

pub walk-smaller : goal.walk-smaller
walk-smaller c = work_up c.walk.states c.walk.stack.items c.pop.new.self.items c.walk.top c.in-Some.below c.in-Completed.outcome c.walk.invariant.top_inside c.in-Some.ensures.items

pub walk-preserved : goal.walk-preserved
walk-preserved c = walk_up (linkage c.args.modules.now c.args.exports.now) c.args.states.now c.walk.states c.walk.stack.items c.pop.new.self.items c.args.root c.walk.top c.in-Some.below c.in-Completed.outcome c.walk.invariant c.in-Some.ensures.items c.in-Completed.ensures
