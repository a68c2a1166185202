use Rattle.object65.specs.Scanning.{is_filled}
use Rattle.object65.proofs.ScanInvariants.{front-set}
use Rattle.object65.proofs.scan_steps.replace_fill.Goals as goal

pub returns-clause-sound : goal.returns-clause-sound
returns-clause-sound c =
    let k = c.args.scan_state.now in
    record { search_start = rw c.requires.filling (front-set is_filled k.fills.items c.args.at c.args.fill (rw c.requires.filling at c.requires.sound.search_start)) }
