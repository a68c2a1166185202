use Rattle.std.proofs.Common.{arith, subst}
use Rattle.base65.specs.Store.{IsBytes}
use Rattle.base65.proofs.FileBytes.{all_held, one_more}
use Rattle.base65.proofs.mem_store.have_only_bytes.Goals as goal

pub loop-file-init : goal.loop-file-init
loop-file-init c k d less = absurd (omega arith)

pub loop-file-preserved : goal.loop-file-preserved
loop-file-preserved c = one_more c.args.files.now c.loop-file.file-index c.file-item.result c.loop-file-test.true c.file-item.is (subst IsBytes c.as_slice.ensures.value c.are_bytes.ensures) c.loop-file.invariant

pub returns : goal.returns
returns c = all_held c.args.files.now c.loop-file.file-index (omega arith) c.loop-file.invariant
