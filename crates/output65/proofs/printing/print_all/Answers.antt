use Rattle.output65.proofs.Texts.{stops_within}
use Rattle.output65.proofs.printing.print_all.Goals as goal

pub returns-then-not-print-clause-printed : goal.returns-then-not-print-clause-printed
returns-then-not-print-clause-printed g c =
    stops_within (λ p. p.now) _ _ _ c.args.parts.now c.loop-part.part-index _ c.loop-part-test.true c.loop-part.invariant.printed
    (rw c.if-not-print.true at c.print.ensures.printed)
