use Rattle.expand65.proofs.LineCounts.{opens_after}
use Rattle.expand65.proofs.LineReads.{opens}
use Rattle.expand65.proofs.file.OpenFile.new.Goals as goal

pub returns-clause-lines : goal.returns-clause-lines
returns-clause-lines c = λ m h. opens m c.args.name c.new.result.items c.new.ensures.items h

pub returns-clause-following : goal.returns-clause-following
returns-clause-following c = λ m. opens_after m c.args.name c.new.result.items c.new.ensures.items
