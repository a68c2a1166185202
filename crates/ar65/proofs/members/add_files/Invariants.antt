use Rattle.std.proofs.Common.{◌≡◌, map}
use Rattle.ar65.proofs.Additions.{HaveLeft, IsLeft}
use Rattle.ar65.proofs.members.add_files.Given as goal

abbrev pub invariant-loop-index : goal.invariant-loop-index
invariant-loop-index g l = record {
  files : g.S.Store.files l.store ≡ g.S.Store.files l.fn.store;
  left : IsLeft (g.S.Store.files l.fn.store) l.fn.library (map (λ s. s.now) l.files) l.library l.index;
  bytes : HaveLeft (g.S.Store.files l.fn.store) (map (λ s. s.now) l.files) l.index;
  count : g.S.Store.failures l.store ≡ g.S.Store.failures l.fn.store;
}
