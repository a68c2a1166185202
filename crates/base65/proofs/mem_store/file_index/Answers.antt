use Rattle.std.proofs.Common.{◌≡◌, ◌∙◌, Some, true, false, add-zero, ap, refl, sym}
use Rattle.base65.specs.MemStore.{is_named}
use Rattle.base65.proofs.FileIndex.{found_here, found_later, found_nowhere}
use Rattle.base65.proofs.mem_store.file_index.Goals as goal

pub returns-then-eq-clause-index : goal.returns-then-eq-clause-index
returns-then-eq-clause-index c =
    let named : is_named c.args.name.now c.index-files-i.result ≡ true = cc in
    let here = found_here c.args.files.now c.loop-i.i c.index-files-i.result c.args.name.now c.loop-i-test.true c.index-files-i.is named in
    sym (c.loop-i.invariant ∙ rw here (ap Some (add-zero c.loop-i.i)))

pub loop-i-preserved : goal.loop-i-preserved
loop-i-preserved c =
    let named : is_named c.args.name.now c.index-files-i.result ≡ false = cc in
    c.loop-i.invariant ∙ found_later c.args.files.now c.loop-i.i c.index-files-i.result c.args.name.now c.loop-i-test.true c.index-files-i.is named

pub returns-clause-index : goal.returns-clause-index
returns-clause-index c = sym (c.loop-i.invariant ∙ rw (found_nowhere c.args.files.now c.loop-i.i c.args.name.now c.loop-i-test.false) refl)
