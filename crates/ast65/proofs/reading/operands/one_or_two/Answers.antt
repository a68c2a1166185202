use Rattle.std.proofs.Common.{refl}
use Rattle.syntax65.specs.Tokens.{lexemes}
use Rattle.ast65.proofs.PartByPart.{three_parts}
use Rattle.ast65.proofs.reading.operands.one_or_two.Goals as goal

pub returns-in-Some-following : goal.returns-in-Some-following
returns-in-Some-following c = record {
  value = three_parts (lexemes c.args.tokens.now) (lexemes c.split_at_comma.result.0.now) (lexemes c.split_at_comma-2.result.0.now) c.split_at_comma.result.1 c.split_at_comma-2.result.1 c.in-Some.following c.in-Some-following.field-0 c.split_at_comma.ensures.parts c.in-Some.is c.split_at_comma-2.ensures.parts c.in-Some-following.is;
  inside = refl;
}
