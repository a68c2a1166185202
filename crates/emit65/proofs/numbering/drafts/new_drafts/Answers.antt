use Rattle.std.proofs.lemmas.Grind.{common_steps}
use Rattle.std.proofs.Common.{arith}
use Rattle.emit65.proofs.numbering.drafts.new_drafts.Goals as goal

pub loop-key-preserved : goal.loop-key-preserved
loop-key-preserved c = grind (arith, common_steps)
