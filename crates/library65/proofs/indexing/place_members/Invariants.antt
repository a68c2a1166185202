use Rattle.std.proofs.Common.{◌≡◌, ◌≤◌, ◌+◌, []}
use Rattle.std.specs.List.{AllByRecursion}
use Rattle.std.specs.Vec.Iter.{into_iter_items}
use Rattle.object65.specs.Reading.{file_limit}
use Rattle.library65.specs.Reading.{members_with_offsets}
use Rattle.library65.proofs.indexing.place_members.Given as goal

abbrev pub invariant-loop-member : goal.invariant-loop-member
invariant-loop-member l = record {
  limit : l.end ≤ file_limit;
  later : l.at ≤ l.end;
  within : AllByRecursion (λ e. e.place + e.size ≤ file_limit) l.entries.items;
  placed : members_with_offsets l.entries.items l.end (into_iter_items l.member-iterator) ≡ members_with_offsets [] l.fn.at l.fn.members.items;
}
