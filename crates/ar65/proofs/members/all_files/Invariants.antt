use Rattle.std.proofs.Common.{◌≡◌}
use Rattle.library65.specs.Libraries.{member_names}
use Rattle.ar65.specs.Librarian.{AreUtf8, files_of}
use Rattle.ar65.proofs.LoopSteps.{ahead}
use Rattle.ar65.proofs.members.all_files.Given as goal

abbrev pub invariant-loop-name : goal.invariant-loop-name
invariant-loop-name l = record {
  texts : AreUtf8 (member_names l.library) → AreUtf8 l.name-iterator;
  files : AreUtf8 (member_names l.library) → ahead l.found (files_of l.library l.name-iterator) ≡ files_of l.library (member_names l.library);
}
