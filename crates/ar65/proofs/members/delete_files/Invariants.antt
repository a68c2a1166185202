use Rattle.std.proofs.Common.{◌≡◌, drop, map}
use Rattle.ar65.specs.Librarian.{without_files}
use Rattle.ar65.proofs.members.delete_files.Given as goal

abbrev pub invariant-loop-file : goal.invariant-loop-file
invariant-loop-file l = without_files l.library (drop l.file-index (map (λ s. s.now) l.files)) ≡ without_files l.fn.library (map (λ s. s.now) l.files)
