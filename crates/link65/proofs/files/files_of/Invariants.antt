use Rattle.std.proofs.Common.{◌≡◌, ◌<◌, ◌≤◌, ℕ, List, [], drop, length, map, slice_get}
use Rattle.link65.specs.Files.{AddsAreas, IsAreaFile, RowBytes, written_row_bytes}
use Rattle.link65.specs.Internal.Loads.{AreFileNames, HasRowImages}
use Rattle.base65.specs.declared.output.OutputFile.{OutputFile}
use Rattle.link65.proofs.files.files_of.Given as goal

abbrev pub invariant-loop-k : goal.invariant-loop-k
invariant-loop-k l = record {
  named : AreFileNames l.files;
  loads : (bytes : RowBytes) → l.fn.contents.items ≡ map (written_row_bytes bytes) l.script.rows → (j : ℕ) → l.k ≤ j → j < length l.areas → HasRowImages bytes j l.script.rows l.placement.rows (slice_get l.loads.items j);
  rest : (bytes : RowBytes) → l.fn.contents.items ≡ map (written_row_bytes bytes) l.script.rows → (after : List OutputFile) → AddsAreas l.output (IsAreaFile l.script.rows l.placement bytes) l.k (drop l.k l.areas) l.files.outputs.items after → AddsAreas l.output (IsAreaFile l.script.rows l.placement bytes) 0 l.areas [] after;
}
