use Rattle.std.proofs.lemmas.Grind.{common_steps}
use Rattle.std.proofs.Common.{arith, ◌∙◌, ◌+◌, ◌++◌, [], List, ℕ, drop, map, sym, ap}
use Rattle.std.specs.List.{flat_map}
use Rattle.script65.proofs.ListLemmas.{drop_item}
use Rattle.link65.specs.declared.parts.LinkedModule.{LinkedModule}
use Rattle.link65.specs.Internal.Fields.{missing_after}
use Rattle.link65.specs.Names.{symbol_imports}
use Rattle.link65.specs.Representation.{names_in}
use Rattle.link65.proofs.DefinedNameLemmas.{missing_append}
use Rattle.link65.proofs.name_checks.missing_names.Goals as goal

pub loop-member-init : goal.loop-member-init
loop-member-init c =
    let provided = names_in c.args.provided.now in
    let imports : List LinkedModule → List (List ℕ) = λ ms. flat_map (λ m. m.imports) ms in
    ap (λ ns. missing_after provided ns (imports c.args.members.now)) (c.in_ok-add_symbols.ensures ∙ ap (λ ks. missing_after provided (map (λ n. n.items) ks) (symbol_imports c.args.symbols.now)) c.new-missing.ensures.empty)
    ∙ missing_append provided (symbol_imports c.args.symbols.now) [] (imports c.args.members.now)

pub loop-member-preserved : goal.loop-member-preserved
loop-member-preserved c =
    let provided = names_in c.args.provided.now in
    let old = map (λ n. n.items) c.loop-member.missing.keys in
    let imports : LinkedModule → List (List ℕ) = λ m. m.imports in
    let rest = flat_map imports (drop (c.loop-member.member-index + 1) c.args.members.now) in
    ap (λ ns. missing_after provided ns rest) c.in_ok-add_imports.ensures
    ∙ missing_append provided c.as_slice.result.now old rest
    ∙ ap (λ names. missing_after provided old (names ++ rest)) c.as_slice.ensures
    ∙ sym (ap (λ ms. missing_after provided old (flat_map imports ms)) (drop_item c.args.members.now c.loop-member.member-index c.member-item.result c.loop-member-test.true c.member-item.is))
    ∙ c.loop-member.invariant

pub returns : goal.returns
returns c = grind (arith, common_steps)
