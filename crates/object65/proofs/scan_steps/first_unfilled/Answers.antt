use Rattle.std.proofs.lemmas.List.Sums.{prefix_len-le-length}
use Rattle.object65.specs.Scanning.{is_filled}
use Rattle.object65.proofs.scan_steps.first_unfilled.Goals as goal

pub returns-clause-within : goal.returns-clause-within
returns-clause-within c = rw (c.first_unfilled_from-at.ensures, c.deref.ensures.value) (prefix_len-le-length is_filled c.args.scan_state.now.fills.items)
