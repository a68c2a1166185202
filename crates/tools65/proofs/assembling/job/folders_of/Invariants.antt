use Rattle.std.proofs.Common.{◌≡◌, map, take}
use Rattle.tools65.proofs.assembling.job.folders_of.Given as goal

abbrev pub invariant-loop-folder : goal.invariant-loop-folder
invariant-loop-folder l = l.folders.items ≡ map (λ s. s.now) (take l.folder-index l.include)
