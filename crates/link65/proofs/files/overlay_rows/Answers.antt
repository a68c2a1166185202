use Rattle.link65.proofs.FileLemmas.{next_row, no_row}
use Rattle.link65.proofs.files.overlay_rows.Goals as goal

pub loop-load-preserved : goal.loop-load-preserved
loop-load-preserved c = λ new h.
    c.loop-load.invariant new
    (next_row c.args.start c.saturating_sub-offset.result c.args.loads.now c.loop-load.load-index c.load-item.result c.as_slice.result.now _ _ new c.loop-load-test.true c.load-item.is
    c.saturating_sub-offset.ensures
    c.as_slice.ensures
    c.overlay.ensures
    h)

pub returns : goal.returns
returns c = c.loop-load.invariant _ (no_row c.args.start c.args.loads.now c.loop-load.load-index _ c.loop-load-test.false)
