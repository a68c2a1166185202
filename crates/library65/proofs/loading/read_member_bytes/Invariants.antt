use Rattle.std.proofs.Common.{◌≡◌, ◌≤◌, ◌-◌, length}
use Rattle.std.specs.Prelude.{IfSome}
use Rattle.std.specs.FinMap as map
use Rattle.library65.proofs.Steps.{IsPieceFront}
use Rattle.library65.proofs.loading.read_member_bytes.Given as goal

abbrev pub invariant-reading : goal.invariant-reading
invariant-reading g l = record {
  within : length l.bytes.items ≤ l.size;
  files : g.S.Store.files l.store ≡ g.S.Store.files l.fn.store;
  count : g.S.Store.failures l.store ≡ g.S.Store.failures l.fn.store;
  read : IfSome (g.S.Store.files l.fn.store) (λ m. IsPieceFront (map.get m l.file) l.entry.place l.bytes.items);
}

abbrev pub decreases-reading : goal.decreases-reading
decreases-reading g l = l.size - length l.bytes.items
