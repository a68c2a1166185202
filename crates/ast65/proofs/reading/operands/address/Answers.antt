use Rattle.syntax65.specs.Tokens.{lexemes}
use Rattle.ast65.specs.Parsing.{index_of}
use Rattle.ast65.specs.declared.language.Operand.TheVariants.{Address}
use Rattle.ast65.proofs.CommaLists.{end_fault, front_fault, is_ended, index_inside}
use Rattle.ast65.proofs.reading.operands.address.Goals as goal

pub returns-in_err-value : goal.returns-in_err-value
returns-in_err-value c = front_fault index_of (Address c.args.prefix) (lexemes c.args.tokens.now) _ c.from_residual.result c.in_err-value.field-0.0 c.from_residual.ensures.1 c.in_err-value.ensures.inside c.in_err-value.ensures.value

pub returns-in_err-index : goal.returns-in_err-index
returns-in_err-index c =
    end_fault index_of (Address c.args.prefix) (lexemes c.args.tokens.now) _ c.from_residual-in_err-index.result (c.in_ok-value.value, lexemes c.in_ok-value.following.now) c.in_err-index.field-0.0
    c.from_residual-in_err-index.ensures.1 c.in_ok-value.ensures.value (index_inside (lexemes c.in_ok-value.following.now)) c.in_err-index.ensures

pub returns : goal.returns
returns c = record {
  value = is_ended index_of (Address c.args.prefix) (lexemes c.args.tokens.now) (c.in_ok-value.value, lexemes c.in_ok-value.following.now) c.in_ok-index.index c.in_ok-value.ensures.value c.in_ok-index.ensures;
  inside = tt;
}
