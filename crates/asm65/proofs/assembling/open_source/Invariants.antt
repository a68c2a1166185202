use Rattle.std.proofs.Common.{◌≡◌, take}
use Rattle.asm65.proofs.assembling.open_source.Given as goal

abbrev pub invariant-loop-folder : goal.invariant-loop-folder
invariant-loop-folder g l = l.include ≡ take l.folder-index l.job.include.now
