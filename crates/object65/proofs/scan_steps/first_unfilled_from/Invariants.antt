use Rattle.std.proofs.Common.{length, ◌-◌, ◌≤◌}
use Rattle.std.specs.List.{prefix_len}
use Rattle.object65.specs.Scanning.{is_filled}
use Rattle.object65.proofs.scan_steps.first_unfilled_from.Given as goal

abbrev pub invariant-loop-at : goal.invariant-loop-at
invariant-loop-at l = l.at ≤ prefix_len is_filled l.fills

abbrev pub decreases-loop-at : goal.decreases-loop-at
decreases-loop-at l = length l.fills - l.at
