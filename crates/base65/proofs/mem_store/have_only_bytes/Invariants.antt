use Rattle.base65.proofs.FileBytes.{AreHeld}
use Rattle.base65.proofs.mem_store.have_only_bytes.Given as goal

abbrev pub invariant-loop-file : goal.invariant-loop-file
invariant-loop-file l = AreHeld l.files l.file-index
