use Rattle.link65.proofs.ListLemmas.{copied}
use Rattle.link65.proofs.name_checks.copy_of.Goals as goal

pub returns : goal.returns
returns c = copied (λ s. s.keys) c.args.provided.now.names.keys c.clone.result _ c.clone.ensures.cases
