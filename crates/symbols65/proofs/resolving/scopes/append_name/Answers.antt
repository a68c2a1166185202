use Rattle.std.proofs.lemmas.Grind.{common_steps}
use Rattle.std.proofs.Common.{ap, ◌∙◌, sym, ◌++◌, arith}
use Rattle.std.proofs.lemmas.List.{append_assoc}
use Rattle.semantics65.specs.Symbols.{qualified_name}
use Rattle.symbols65.proofs.Scopes.{joined_after, joined_first}
use Rattle.symbols65.proofs.resolving.scopes.append_name.Goals as goal

pub loop-part-init : goal.loop-part-init
loop-part-init c =
    let following = joined_after c.in-Some.following.now in
    ap (λ l. l ++ following) (c.in_ok-extend_from_slice.ensures.ok ∙ ap (λ l. c.args.text.now ++ l) c.as_slice.ensures)
    ∙ append_assoc c.args.text.now c.in-Some.first.now following
    ∙ ap (λ l. c.args.text.now ++ l) (sym (ap qualified_name c.in-Some.ensures.cases.0 ∙ joined_first c.in-Some.first.now c.in-Some.following.now))

pub returns : goal.returns
returns c = grind (arith, common_steps)

pub loop-part-preserved : goal.loop-part-preserved
loop-part-preserved c = grind (arith, common_steps)
