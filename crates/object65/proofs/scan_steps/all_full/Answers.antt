use Rattle.object65.specs.Scanning.{is_filled}
use Rattle.object65.proofs.ScanInvariants.{front-all}
use Rattle.object65.proofs.scan_steps.all_full.Goals as goal

pub returns-clause-full : goal.returns-clause-full
returns-clause-full c =
    let fills = c.args.scan_state.now.fills in
    rw (c.first_unfilled.ensures.index, c.len.ensures, c.first_unfilled.ensures.fills, fills.ok.0) (front-all is_filled fills.items)
