use Rattle.std.proofs.Common.{◌≤◌, ◌-◌, length}
use Rattle.std.specs.Prelude.{Result}
use Rattle.script65.specs.declared.fault.FaultAt.{FaultAt}
use Rattle.script65.specs.Entries.{Entries}
use Rattle.script65.specs.Internal.Reading.{IsFresh}
use Rattle.script65.proofs.TokenByToken.{Reads, ReadsText}
use Rattle.script65.proofs.reading.grammar.read_entries.Given as goal

abbrev pub invariant-tokens : goal.invariant-tokens
invariant-tokens l = record {
  inside : l.at ≤ length l.bytes;
  new : IsFresh l.entries l.state;
  so_far : (r : Result Entries FaultAt) → Reads l.bytes l.entries l.state l.at r → ReadsText l.bytes r;
}

abbrev pub decreases-tokens : goal.decreases-tokens
decreases-tokens l = length l.bytes - l.at
