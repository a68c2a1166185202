use Rattle.library65.proofs.Tables.{export_more}
use Rattle.library65.proofs.selecting.add_exports.Goals as goal

pub loop-name-preserved : goal.loop-name-preserved
loop-name-preserved c = λ name.
    export_more c.args.names.now c.loop-name.name-index c.name-item.result c.as_slice.result.now name c.args.index _ _ _ c.loop-name-test.true c.name-item.is c.as_slice.ensures
    (c.in_ok-insert.ensures.updates.0 (record { ref_ptr = (0, 0); now = name }))
    (c.loop-name.invariant name)
