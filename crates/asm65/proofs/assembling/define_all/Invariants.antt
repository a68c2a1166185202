use Rattle.std.proofs.Common.{map, drop}
use Rattle.sources65.specs.Reading.{no_line}
use Rattle.asm65.specs.Assembly.{define_of}
use Rattle.asm65.proofs.CommandLineConstants.{SoFar}
use Rattle.asm65.proofs.assembling.define_all.Given as goal

abbrev pub invariant-loop-one : goal.invariant-loop-one
invariant-loop-one l = SoFar (no_line l.job.source.now) (map define_of l.job.defines.now) (map define_of (drop l.one-index l.job.defines.now)) l.assembler
