use Rattle.std.proofs.Common.{◌∙◌}
use Rattle.link65.proofs.DefinedNameLemmas.{among_keys}
use Rattle.link65.proofs.name_checks.has.Goals as goal

pub returns : goal.returns
returns c = c.contains.ensures ∙ among_keys (λ n. n.items) c.args.names.now.keys c.args.name.now
