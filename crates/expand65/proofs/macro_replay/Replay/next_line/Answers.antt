use Rattle.expand65.proofs.Iterations.{body_begins}
use Rattle.expand65.proofs.macro_replay.Replay.next_line.Goals as goal

pub returns-then-has_line-clause-next_item : goal.returns-then-has_line-clause-next_item
returns-then-has_line-clause-next_item c = body_begins c.args.self.now (c.has_line.ensures.more c.if-has_line.true)
