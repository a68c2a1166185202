use Rattle.std.proofs.Common.{◌∷◌, []}
use Rattle.object65.specs.Scanning.{empty_fill, is_filled}
use Rattle.object65.proofs.ScanInvariants.{front-push}
use Rattle.object65.proofs.scan_steps.add_section.Goals as goal

pub returns-clause-sound : goal.returns-clause-sound
returns-clause-sound c =
    let k = c.args.scan_state.now in
    record { search_start = rw c.in_ok-push.ensures.items (front-push is_filled k.fills.items (empty_fill c.args.size ∷ []) k.search_start c.requires.sound.search_start) }
