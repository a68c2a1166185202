use Rattle.link65.proofs.OutcomeLemmas.{unused_weak_links, unused_weak_same}
use Rattle.link65.proofs.laws.unused_weak_name_preserves_images.Goals as goal

pub returns-clause-same : goal.returns-clause-same
returns-clause-same c = unused_weak_same

pub returns-clause-links : goal.returns-clause-links
returns-clause-links c = unused_weak_links
