use Rattle.std.proofs.Common.{◌≡◌, ◌≤◌}
use Rattle.base65.specs.Store.{Files}
use Rattle.expand65.specs.Representation.{remaining_of, end_mark_of, IsStackPositioned}
use Rattle.expand65.specs.Replay.{SkipsPlainLines}
use Rattle.expand65.proofs.input_stack.InputStack.skip_plain_lines.Given as goal

abbrev pub invariant-lines : goal.invariant-lines
invariant-lines l = record {
  outer : l.self.outer ≡ l.fn.self.outer;
  mark : end_mark_of l.self.top ≡ end_mark_of l.fn.self.top;
  budget : l.self.budget ≤ l.fn.self.budget;
  stands : (m : Files) → IsStackPositioned m l.fn.self → IsStackPositioned m l.self;
  so_far : (m : Files) → SkipsPlainLines (remaining_of m l.fn.self) (remaining_of m l.self);
}

abbrev pub decreases-lines : goal.decreases-lines
decreases-lines l = l.self.budget
