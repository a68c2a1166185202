use Rattle.std.proofs.Common.{◌≡◌, ◌++◌, take, map}
use Rattle.std.specs.List.{flat_map}
use Rattle.object65.specs.Spelling.{assert_record, record_bytes}
use Rattle.object65.proofs.writing.encode_asserts.Given as goal

abbrev pub invariant-loop-assert : goal.invariant-loop-assert
invariant-loop-assert l = l.out.items ≡ l.fn.out.items ++ flat_map record_bytes (map assert_record (take l.assert-index l.asserts))
