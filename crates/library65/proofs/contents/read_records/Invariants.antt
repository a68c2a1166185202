use Rattle.std.proofs.Common.{◌≤◌, ◌-◌, length}
use Rattle.library65.proofs.Members.{IsTaken}
use Rattle.library65.proofs.contents.read_records.Given as goal

abbrev pub invariant-records : goal.invariant-records
invariant-records l = record {
  within : l.next ≤ length l.bytes;
  taken : IsTaken l.version l.bytes l.at l.next l.scan l.contents;
}

abbrev pub decreases-records : goal.decreases-records
decreases-records l = length l.bytes - l.next
