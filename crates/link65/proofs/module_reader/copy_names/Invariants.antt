use Rattle.std.proofs.Common.{◌≡◌, take}
use Rattle.link65.proofs.module_reader.copy_names.Given as goal

abbrev pub invariant-loop-name : goal.invariant-loop-name
invariant-loop-name l = l.all ≡ take l.name-index l.names
