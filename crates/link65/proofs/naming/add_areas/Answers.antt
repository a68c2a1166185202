use Rattle.std.proofs.Common.{arith}
use Rattle.std.proofs.lemmas.Grind.{common_steps}
use Rattle.link65.specs.Names.{area_definitions}
use Rattle.link65.proofs.ListLemmas.{pair_end, pair_next}
use Rattle.link65.proofs.naming.add_areas.Goals as goal

pub loop-area-preserved : goal.loop-area-preserved
loop-area-preserved c = let s = c.in-Some.ensures.steps in pair_next area_definitions _ _ _ _ _ _ c.loop-area.definitions _ _ s.0 s.1 (grind (arith, common_steps)) c.loop-area.invariant

pub returns : goal.returns
returns c = pair_end area_definitions _ _ c.loop-area.definitions _ c.in-None.ensures.steps (λ p. p.1.0) (λ p. p.1.0) c.loop-area.invariant

pub loop-area-preserved-in_ok-push-3 : goal.loop-area-preserved-in_ok-push-3
loop-area-preserved-in_ok-push-3 c = grind (arith, common_steps)
