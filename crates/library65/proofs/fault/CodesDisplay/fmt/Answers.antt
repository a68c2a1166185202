use Rattle.std.proofs.Common.{rules}
use Rattle.std.proofs.Output.{has_written_append, has_written_of_eq}
use Rattle.library65.proofs.DisplayNames.{encode-more}
use Rattle.library65.proofs.fault.CodesDisplay.fmt.Goals as goal

pub loop-byte-preserved : goal.loop-byte-preserved
loop-byte-preserved g c = λ p. has_written_of_eq _ _ _ _ _ (encode-more c.args.self.now.0.now c.loop-byte.byte-index c.from.result c.loop-byte-test.true c.from.ensures) (has_written_append _ _ _ _ _ _ (c.loop-byte.invariant p) (search rules))
