use Rattle.std.proofs.Common.{◌≡◌, ◌≤◌, ◌+◌, ◌++◌, true, map, length}
use Rattle.std.specs.List.{AllByRecursion, flat_map}
use Rattle.library65.specs.Libraries.{member_entry_bytes, member_names, HasMatchingContents, member_of, members_of}
use Rattle.library65.specs.Spelling.{are_member_names}
use Rattle.library65.proofs.writing.encode_entries.Given as goal

abbrev pub invariant-loop-name : goal.invariant-loop-name
invariant-loop-name l = record {
  names : are_member_names (member_names (map member_of l.name-iterator)) ≡ true;
  stored : AllByRecursion HasMatchingContents l.name-iterator;
  out : l.out.items ++ flat_map member_entry_bytes (map member_of l.name-iterator) ≡ l.fn.out.items ++ flat_map member_entry_bytes (members_of l.members);
  size : length (flat_map member_entry_bytes (map member_of l.name-iterator)) + length (flat_map (λ m. m.1) (map member_of l.name-iterator)) ≤ length (flat_map member_entry_bytes (members_of l.members)) + length (flat_map (λ m. m.1) (members_of l.members));
}
