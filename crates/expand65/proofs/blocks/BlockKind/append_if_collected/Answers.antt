use Rattle.std.proofs.lemmas.Grind.{common_steps}
use Rattle.std.proofs.Common.{arith, ◌∙◌, map, sym}
use Rattle.expand65.specs.Replay.{tokens_in}
use Rattle.expand65.proofs.PlainLines.{unkept}
use Rattle.expand65.proofs.blocks.BlockKind.append_if_collected.Goals as goal

pub returns-else-is_collected : goal.returns-else-is_collected
returns-else-is_collected c = sym (unkept c.args.self (map tokens_in c.args.lines.now) (tokens_in c.args.line) (sym c.is_collected.ensures ∙ c.if-is_collected.false))

pub returns-in_ok-push : goal.returns-in_ok-push
returns-in_ok-push c = grind (arith, common_steps)
