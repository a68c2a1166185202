use Rattle.std.proofs.Common.{arith}
use Rattle.ast65.proofs.CommaLists.{last_part, one_part}
use Rattle.ast65.proofs.reading.operands.split_at_comma.Goals as goal

pub returns-then-len-tokens-clause-parts : goal.returns-then-len-tokens-clause-parts
returns-then-len-tokens-clause-parts c = one_part c.args.tokens.now c.len_before_comma-len.result c.len_before_comma-len.ensures c.if-len-tokens.true

pub returns-else-len-tokens-clause-parts : goal.returns-else-len-tokens-clause-parts
returns-else-len-tokens-clause-parts c = last_part c.args.tokens.now c.len_before_comma-len.result c.len_before_comma-len.ensures (let h = c.if-len-tokens.false in omega arith)
