use Rattle.std.proofs.Common.{◌≡◌, ◌++◌, map}
use Rattle.std.specs.Vec.Iter.{into_iter_items}
use Rattle.tools65.specs.Archives.{output_of}
use Rattle.tools65.proofs.archiving.member_outputs.Given as goal

abbrev pub invariant-loop-file : goal.invariant-loop-file
invariant-loop-file l = l.outputs ++ map output_of (into_iter_items l.file-iterator) ≡ map output_of l.fn.files
