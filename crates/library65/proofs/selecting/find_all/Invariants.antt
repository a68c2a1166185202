use Rattle.std.proofs.Common.{◌≤◌, ◌-◌, length, map}
use Rattle.library65.specs.Internal.Searching.{IsSearchState, SearchInvariant}
use Rattle.library65.proofs.selecting.find_all.Given as goal

abbrev pub invariant-loop-next : goal.invariant-loop-next
invariant-loop-next l = record {
  stands : SearchInvariant l.exporters l.found;
  within : l.next ≤ length l.found.indices.items;
  found : IsSearchState l.exporters.entries.now (map (λ n. n.items) l.wanted.keys) (map (λ n. n.items) l.defined.keys) l.found.indices.items l.next;
}

abbrev pub decreases-loop-next : goal.decreases-loop-next
decreases-loop-next l = length l.exporters.entries.now - l.next
