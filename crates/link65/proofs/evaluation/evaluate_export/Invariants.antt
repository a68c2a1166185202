use Rattle.link65.specs.Values.{linkage}
use Rattle.link65.proofs.EvaluationSteps.{IsWalk, work}
use Rattle.link65.proofs.evaluation.evaluate_export.Given as goal

abbrev pub invariant-walk : goal.invariant-walk
invariant-walk l = IsWalk (linkage l.modules l.exports) l.fn.states l.states l.stack.items l.root l.top

abbrev pub decreases-walk : goal.decreases-walk
decreases-walk l = work l.states l.stack.items
