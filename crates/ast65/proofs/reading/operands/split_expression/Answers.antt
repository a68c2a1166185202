use Rattle.ast65.proofs.CommaLists.{is_front}
use Rattle.ast65.proofs.reading.operands.split_expression.Goals as goal

pub returns : goal.returns
returns c = record {
  value = is_front c.args.tokens.now c.in_ok-value.value c.in_ok-value.count c.in_ok-value.ensures.read;
  inside = tt;
}
