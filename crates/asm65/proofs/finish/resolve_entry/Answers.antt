use Rattle.std.proofs.Common.{List, ℕ, [], ◌∷◌, map, string_bytes, Global}
use Rattle.symbols65.specs.Views.{table_of}
use Rattle.asm65.specs.Internal.RunState.{AreInitialEntries}
use Rattle.asm65.proofs.SlotResolution.{known_settled}
use Rattle.asm65.proofs.finish.resolve_entry.Goals as goal

pub returns-in_default : goal.returns-in_default
returns-in_default c =
    let files : List (List ℕ) = map (string_bytes {Z = Global}) c.args.tables.files.now in
    let e = c.args.entry.now in
    record {
      resolved = λ (h : AreInitialEntries files (e ∷ [])). known_settled (table_of c.args.tables.symbols.now) files e c.args.resolve_state.now c.in_default.not-FixupEntry h;
      found = c.requires;
      no_failure = tt;
    }
