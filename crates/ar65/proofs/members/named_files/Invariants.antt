use Rattle.std.proofs.Common.{◌≡◌, drop, map}
use Rattle.ar65.specs.Librarian.{files_of, member_name}
use Rattle.ar65.proofs.LoopSteps.{ahead}
use Rattle.ar65.proofs.members.named_files.Given as goal

abbrev pub invariant-loop-file : goal.invariant-loop-file
invariant-loop-file l = ahead l.found (files_of l.library (drop l.file-index (map member_name (map (λ s. s.now) l.files)))) ≡ files_of l.library (map member_name (map (λ s. s.now) l.files))
