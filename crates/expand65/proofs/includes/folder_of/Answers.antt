use Rattle.expand65.proofs.FileSearch.{folder_next}
use Rattle.expand65.proofs.includes.folder_of.Goals as goal

pub loop-offset-preserved : goal.loop-offset-preserved
loop-offset-preserved c =
    let h = folder_next c.args.file.now c.loop-offset.offset c.loop-offset.len c.folder_len-len.result _ c.loop-offset-test.true c.loop-offset.invariant.so_far c.loop-offset.invariant.within c.folder_len-len.ensures in
    record { so_far = h.0; within = h.1 }
