use Rattle.std.proofs.Common.{drop, Ok}
use Rattle.ld65.specs.Internal.AddedModules.{AddModulesFrame}
use Rattle.ld65.specs.Linkage.{selected_entries}
use Rattle.ld65.specs.Naming.{IsLibraryFailure, NamesFailure}
use Rattle.ld65.proofs.NeededMembers.{IsAfter}
use Rattle.ld65.proofs.FailureOrder.{IsTurn}
use Rattle.ld65.proofs.members.add_library.Given as goal

abbrev pub invariant-loop-entry_index : goal.invariant-loop-entry_index
invariant-loop-entry_index g l = record {
  kept : AddModulesFrame g.S.Store.files g.S.Store.failures g.S.Store.last_failure (λ before b. NamesFailure (IsLibraryFailure (g.S.Store.files l.fn.store) l.fn.linker.script before b l.input.input_index l.input.name.now)) l.fn.store l.store l.fn.linker l.linker (Ok tt);
  stands : IsAfter (g.S.Store.files l.fn.store) l.input.name.now (selected_entries l.entries l.entry_index-items) (selected_entries l.entries (drop l.entry_index-index l.entry_index-items)) l.fn.linker l.linker;
  turned : IsTurn (g.S.Store.files l.fn.store) l.input.name.now l.entries l.entry_index-items l.entry_index-index l.fn.linker l.linker;
}
