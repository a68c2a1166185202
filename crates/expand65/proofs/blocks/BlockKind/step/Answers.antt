use Rattle.expand65.specs.Replay.{tokens_in}
use Rattle.expand65.proofs.PlainLines.{plain_judged}
use Rattle.expand65.proofs.blocks.BlockKind.step.Goals as goal

pub returns-then-is_plain-clause-step : goal.returns-then-is_plain-clause-step
returns-then-is_plain-clause-step c = plain_judged c.args.self c.args.depth (tokens_in c.args.line.now) (c.is_plain.ensures c.if-is_plain.true)
