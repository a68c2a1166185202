use Rattle.std.proofs.Common.{◌≡◌, drop, map, IfSome}
use Rattle.expand65.specs.Expansion.{first_file, path_in}
use Rattle.expand65.proofs.includes.find_in_folders.Given as goal

abbrev pub invariant-loop-folder : goal.invariant-loop-folder
invariant-loop-folder g l = record {
  files : g.S.Store.files l.store ≡ g.S.Store.files l.fn.store;
  count : g.S.Store.failures l.store ≡ g.S.Store.failures l.fn.store;
  so_far : IfSome (g.S.Store.files l.fn.store) (λ m. first_file m (map (path_in l.name) (drop l.folder-index l.folders)) ≡ first_file m (map (path_in l.name) l.folders));
}
