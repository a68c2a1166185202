use Rattle.std.proofs.Common.{◌≡◌, ◌≤◌, take}
use Rattle.expand65.specs.Expansion.{folder_of}
use Rattle.expand65.proofs.includes.folder_of.Given as goal

abbrev pub invariant-loop-offset : goal.invariant-loop-offset
invariant-loop-offset l = record {
  so_far : folder_of (take l.offset l.file) ≡ take l.len l.file;
  within : l.len ≤ l.offset;
}
