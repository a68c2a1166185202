use Rattle.ast65.proofs.SingleNumber.{number_item}
use Rattle.ast65.proofs.reading.directives.first_number.Goals as goal

pub returns-in-None-clause-item : goal.returns-in-None-clause-item
returns-in-None-clause-item c = number_item c.args.tokens.now c.in_ok-first.following.now c.in_ok-first.first.now c.in_ok-number.number c.in_ok-first.ensures.cases.0 c.in_ok-number.ensures.number c.in_ok-number.ensures.text

pub returns-then-is_comma-clause-item : goal.returns-then-is_comma-clause-item
returns-then-is_comma-clause-item c = number_item c.args.tokens.now c.in_ok-first.following.now c.in_ok-first.first.now c.in_ok-number.number c.in_ok-first.ensures.cases.0 c.in_ok-number.ensures.number c.in_ok-number.ensures.text
