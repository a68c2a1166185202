use Rattle.std.proofs.Common.{rules}
use Rattle.link65.specs.Placed.{value_line}
use Rattle.link65.proofs.ListLemmas.{pair_end, pair_next}
use Rattle.link65.proofs.mapping.export_lines.Goals as goal

pub loop-export-preserved : goal.loop-export-preserved
loop-export-preserved c = let s = c.in-Some.ensures.steps in pair_next value_line _ _ _ _ _ _ c.loop-export.text _ _ s.0 s.1 (search rules) c.loop-export.invariant

pub returns : goal.returns
returns c = pair_end value_line _ _ c.loop-export.text _ c.in-None.ensures.steps (λ p. p.1.0) (λ p. p.1.0) c.loop-export.invariant
