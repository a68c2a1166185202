use Rattle.std.proofs.Common.{◌∙◌, sym, nat_eq}
use Rattle.std.specs.Cmp.Lexicographic.{pointwise}
use Rattle.object65.proofs.Names.{list_any-map}
use Rattle.object65.proofs.scan_steps.has_name.Goals as goal

pub returns : goal.returns
returns c = c.contains.ensures ∙ sym (list_any-map (pointwise nat_eq c.args.name.now) (λ n. n.items) c.args.names.now.keys)
