use Rattle.std.proofs.Common.{◌≡◌, ◌<◌, ◌≤◌, ℕ, map, slice_get}
use Rattle.link65.specs.Files.{RowBytes, written_row_bytes}
use Rattle.link65.proofs.FileLemmas.{Collects}
use Rattle.link65.proofs.files.loads_of.Given as goal

abbrev pub invariant-loop-i : goal.invariant-loop-i
invariant-loop-i l = record {
  rest : (j : ℕ) → l.i ≤ j → slice_get l.contents.items j ≡ slice_get l.fn.contents.items j;
  each : (bytes : RowBytes) → l.fn.contents.items ≡ map (written_row_bytes bytes) l.rows → (k : ℕ) → k < l.areas → Collects bytes k l.rows l.placements l.i (slice_get l.loads.items k);
}
