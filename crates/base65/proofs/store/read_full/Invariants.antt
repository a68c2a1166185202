use Rattle.std.proofs.Common.{length, ◌-◌, ◌≡◌, ◌≤◌}
use Rattle.std.specs.Prelude.{IfSome}
use Rattle.std.specs.FinMap as map
use Rattle.base65.specs.Store.{FilledTo}
use Rattle.base65.proofs.store.read_full.Given as goal

abbrev pub invariant-fill : goal.invariant-fill
invariant-fill g l = record {
  bound : l.done ≤ length l.buf - 1;
  files : g.S.Store.files l.store ≡ g.S.Store.files l.fn.store;
  count : g.S.Store.failures l.store ≡ g.S.Store.failures l.fn.store;
  read : IfSome (g.S.Store.files l.fn.store) (λ m. FilledTo (map.get m l.name) l.at l.done l.buf);
}

abbrev pub decreases-fill : goal.decreases-fill
decreases-fill g l = length l.initial.buf - l.done
