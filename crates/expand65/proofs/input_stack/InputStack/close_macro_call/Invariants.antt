use Rattle.std.proofs.Common.{◌≡◌, ◌≤◌, length}
use Rattle.base65.specs.Store.{Files}
use Rattle.expand65.specs.Representation.{remaining_of, AreInputsAt, IsStackPositioned, open_inputs}
use Rattle.expand65.specs.Lines.{after_innermost_macro, restored_location}
use Rattle.expand65.proofs.input_stack.InputStack.close_macro_call.Given as goal

abbrev pub invariant-inputs : goal.invariant-inputs
invariant-inputs l = record {
  so_far : (m : Files) → after_innermost_macro (remaining_of m l.self).items (restored_location l.self.location l.return_location) ≡ after_innermost_macro (remaining_of m l.fn.self).items l.fn.self.location;
  stands : (m : Files) → IsStackPositioned m l.fn.self → AreInputsAt m (open_inputs l.self) (restored_location l.self.location l.return_location);
  location : l.self.location ≡ l.fn.self.location;
  budget : l.self.budget ≡ l.fn.self.budget;
  fewer : length l.self.outer.items ≤ length l.fn.self.outer.items;
}

abbrev pub decreases-inputs : goal.decreases-inputs
decreases-inputs l = length l.self.outer.items
