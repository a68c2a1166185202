use Rattle.std.proofs.Common.{◌≡◌, ◌++◌, take}
use Rattle.std.specs.List.{flat_map}
use Rattle.object65.specs.Spelling.{fragment_records, record_bytes}
use Rattle.object65.proofs.writing.encode_fragments.Given as goal

abbrev pub invariant-loop-fragment : goal.invariant-loop-fragment
invariant-loop-fragment l = l.out.items ≡ l.fn.out.items ++ flat_map record_bytes (flat_map fragment_records (take l.fragment-index l.fragments))
