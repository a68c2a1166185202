use Rattle.std.proofs.Common.{◌≡◌, ◌<◌, ◌≤◌, ◌-◌, map}
use Rattle.object65.specs.Reading.{file_limit}
use Rattle.library65.specs.Reading.{member_entries_at, unplaced_entries_at}
use Rattle.library65.proofs.Steps.{Leads}
use Rattle.library65.proofs.indexing.read_entries.Given as goal

abbrev pub invariant-loop : goal.invariant-loop
invariant-loop g l = record {
  files : g.S.Store.files l.store ≡ g.S.Store.files l.fn.store;
  count : g.S.Store.failures l.store ≡ g.S.Store.failures l.fn.store;
  limit : l.end ≤ file_limit;
  some : 0 < l.end;
  names : map (λ n. n.items) l.names.keys ≡ map (λ m. m.name) l.members.items;
  read : Leads (g.S.Store.files l.fn.store) l.file (unplaced_entries_at (l.count - l.counter) l.members.items l.end) member_entries_at;
}
