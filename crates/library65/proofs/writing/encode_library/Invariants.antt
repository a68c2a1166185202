use Rattle.std.proofs.Common.{◌≡◌, ◌++◌}
use Rattle.std.specs.List.{flat_map}
use Rattle.library65.specs.Libraries.{library_bytes, members_of}
use Rattle.library65.proofs.writing.encode_library.Given as goal

abbrev pub invariant-loop-stored : goal.invariant-loop-stored
invariant-loop-stored l = l.out.items ++ flat_map (λ s. s.bytes.items) l.stored-iterator ≡ l.fn.out.items ++ library_bytes (members_of l.members)
