use Rattle.ast65.proofs.PartByPart.{some_range}
use Rattle.ast65.proofs.CommaLists.{then_fault, parses_fault}
use Rattle.ast65.proofs.reading.directives.range.Goals as goal

pub returns-in_err-start : goal.returns-in_err-start
returns-in_err-start c =
    some_range c.args.following c.in-Some.following c.from_residual.result c.in-Some.is
    (parses_fault _ _ c.from_residual.result c.in_err-start.field-0.0 c.from_residual.ensures.1 c.in_err-start.ensures.inside
    (then_fault _ _ _ c.from_residual.result c.in_err-start.field-0.0 c.from_residual.ensures.1 c.in_err-start.ensures.value))
