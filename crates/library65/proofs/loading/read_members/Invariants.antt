use Rattle.std.proofs.Common.{◌≡◌, drop}
use Rattle.library65.specs.Libraries.{with_library_entries, library_at, LibraryInvariant, members_of}
use Rattle.library65.proofs.Steps.{Leads}
use Rattle.library65.proofs.loading.read_members.Given as goal

abbrev pub invariant-loop-entry : goal.invariant-loop-entry
invariant-loop-entry g l = record {
  files : g.S.Store.files l.store ≡ g.S.Store.files l.fn.store;
  count : g.S.Store.failures l.store ≡ g.S.Store.failures l.fn.store;
  sound : LibraryInvariant l.loader.members;
  read : Leads (g.S.Store.files l.fn.store) l.file (with_library_entries (members_of l.loader.members) (drop l.entry-index l.entry-items)) library_at;
}
