use Rattle.script65.proofs.Members.{collects_none, collects_more, collects_all}
use Rattle.script65.proofs.placing.areas.members_of.Goals as goal

pub loop-index-init : goal.loop-index-init
loop-index-init c = λ k lt. collects_none k c.args.rows.now _ (c.in_ok-members.ensures k lt)

pub loop-index-preserved : goal.loop-index-preserved
loop-index-preserved c = λ k lt. collects_more k c.args.rows.now c.loop-index.index c.index-rows-index.result _ _ c.loop-index-test.true c.index-rows-index.is (c.in_ok-add_row.ensures k) (c.loop-index.invariant k lt)

pub returns : goal.returns
returns c = λ k lt. collects_all k c.args.rows.now c.loop-index.index _ c.loop-index-test.false (c.loop-index.invariant k lt)
