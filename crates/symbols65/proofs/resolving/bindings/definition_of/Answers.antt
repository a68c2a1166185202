use Rattle.std.proofs.Common.{ap, sym, ◌∙◌}
use Rattle.std.specs.Prelude.{option_map}
use Rattle.symbols65.specs.Views.{table_of}
use Rattle.symbols65.proofs.Scopes.{defined_outward_at}
use Rattle.symbols65.proofs.resolving.bindings.definition_of.Goals as goal

pub returns-in-Some : goal.returns-in-Some
returns-in-Some c =
    let name = c.args.name.now in
    c.defined_outward.ensures ∙ defined_outward_at (table_of c.args.symbols.now) c.args.context name.is_global name.parts c.in-Some.part.now (sym c.plain_part.ensures ∙ ap (option_map (λ n. n.now)) c.in-Some.is)
