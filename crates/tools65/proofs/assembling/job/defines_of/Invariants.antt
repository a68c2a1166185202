use Rattle.std.proofs.Common.{◌≡◌, map, take}
use Rattle.asm65.specs.Assembly.{define_of}
use Rattle.cli65.specs.Defining.{define_view}
use Rattle.tools65.specs.Assembling.{define_in}
use Rattle.tools65.proofs.assembling.job.defines_of.Given as goal

abbrev pub invariant-loop-define : goal.invariant-loop-define
invariant-loop-define l = map define_of l.found.items ≡ map define_in (map define_view (take l.define-index l.defines))
