use Rattle.std.proofs.Common.{◌≡◌, ◌++◌, length}
use Rattle.std.specs.List.{flat_map}
use Rattle.object65.specs.Spelling.{literal_records, record_bytes}
use Rattle.object65.proofs.writing.encode_literal.Given as goal

abbrev pub invariant-loop-rest : goal.invariant-loop-rest
invariant-loop-rest l = l.out.items ++ flat_map record_bytes (literal_records l.rest) ≡ l.fn.out.items ++ flat_map record_bytes (literal_records l.bytes)

abbrev pub decreases-loop-rest : goal.decreases-loop-rest
decreases-loop-rest l = length l.rest
