use Rattle.std.proofs.Common.{◌≡◌, ◌+◌, drop}
use Rattle.std.specs.Option.{option_map}
use Rattle.base65.specs.MemStore.{file_index}
use Rattle.base65.proofs.mem_store.file_index.Given as goal

abbrev pub invariant-loop-i : goal.invariant-loop-i
invariant-loop-i l = file_index l.name l.files ≡ option_map (λ k. l.i + k) (file_index l.name (drop l.i l.files))
