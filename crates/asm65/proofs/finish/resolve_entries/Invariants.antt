use Rattle.std.proofs.Common.{List, ℕ, drop, map, string_bytes, take, Global}
use Rattle.symbols65.specs.Views.{table_of}
use Rattle.emit65.specs.SectionContents.{slot_of}
use Rattle.asm65.specs.Internal.RunState.{AreInitialEntries, IsResolveState}
use Rattle.asm65.proofs.SlotResolution.{SoFar}
use Rattle.asm65.proofs.finish.resolve_entries.Given as goal

abbrev pub invariant-loop-entry : goal.invariant-loop-entry
invariant-loop-entry l =
    let files : List (List ℕ) = map (string_bytes {Z = Global}) l.tables.files.now in
    record {
      known : IsResolveState (table_of l.tables.symbols.now) l.resolve_state;
      resolved : AreInitialEntries files l.fn.entries.items → SoFar (table_of l.tables.symbols.now) files (map (slot_of files) l.fn.entries.items) (take l.entry-index l.entry-items) (drop l.entry-index l.entry-items) l.fn.resolve_state l.resolve_state;
    }
