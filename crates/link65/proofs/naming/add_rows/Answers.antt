use Rattle.std.proofs.Common.{arith}
use Rattle.std.proofs.lemmas.Grind.{common_steps}
use Rattle.link65.specs.Names.{row_definitions}
use Rattle.link65.proofs.ListLemmas.{pair_end, pair_next}
use Rattle.link65.proofs.naming.add_rows.Goals as goal

pub loop-row-preserved : goal.loop-row-preserved
loop-row-preserved c = let s = c.in-Some.ensures.steps in pair_next row_definitions _ _ _ _ _ _ c.loop-row.definitions _ _ s.0 s.1 (grind (arith, common_steps)) c.loop-row.invariant

pub returns : goal.returns
returns c = pair_end row_definitions _ _ c.loop-row.definitions _ c.in-None.ensures.steps (λ p. p.1.0) (λ p. p.1.0) c.loop-row.invariant

pub loop-row-preserved-in_ok-push-3 : goal.loop-row-preserved-in_ok-push-3
loop-row-preserved-in_ok-push-3 c = grind (arith, common_steps)
