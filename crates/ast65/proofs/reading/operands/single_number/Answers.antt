use Rattle.ast65.proofs.SingleNumber.{alone_if}
use Rattle.ast65.proofs.reading.operands.single_number.Goals as goal

pub returns-then-end_expression-clause-read : goal.returns-then-end_expression-clause-read
returns-then-end_expression-clause-read c = alone_if c.number_in.result c.args.tokens.now c.in-Some.following.now c.in-Some.first.now c.in-Some.ensures.cases.0 c.number_in.ensures.number (c.end_expression.ensures c.if-end_expression.true)
