use Rattle.std.proofs.Common.{◌≡◌, ◌<◌, ◌≤◌, ◌-◌}
use Rattle.object65.specs.Reading.{file_limit}
use Rattle.library65.specs.Reading.{counted_names_at, symbols_at}
use Rattle.library65.proofs.Steps.{Leads}
use Rattle.library65.proofs.indexing.read_symbols.Given as goal

abbrev pub invariant-loop : goal.invariant-loop
invariant-loop g l = record {
  files : g.S.Store.files l.store ≡ g.S.Store.files l.fn.store;
  count : g.S.Store.failures l.store ≡ g.S.Store.failures l.fn.store;
  limit : l.end ≤ file_limit;
  later : l.at < l.end;
  read : Leads (g.S.Store.files l.fn.store) l.file (symbols_at (l.count - l.counter) l.names l.end) (counted_names_at l.at);
}
