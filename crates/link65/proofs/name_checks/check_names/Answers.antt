use Rattle.std.proofs.Common.{◌≡◌, ◌∙◌, [], List, ℕ, arith, length, map, sym, ap, Result, Err}
use Rattle.std.proofs.lemmas.List.{length-map}
use Rattle.script65.specs.declared.script.Symbol.{Symbol}
use Rattle.link65.specs.declared.fault.LinkFault.{LinkFault}
use Rattle.link65.specs.declared.fault.LinkFault.TheVariants.{Unresolved}
use Rattle.link65.specs.Internal.Fields.{missing_after}
use Rattle.link65.specs.Links.{none_unresolved}
use Rattle.link65.specs.Names.{distinct_names, unresolved_names, weak_symbols}
use Rattle.link65.specs.Representation.{names_in}
use Rattle.link65.proofs.DefinedNameLemmas.{left_none, left_some, none_gives, wanted}
use Rattle.link65.proofs.name_checks.check_names.Goals as goal

pub returns-then-len-eq0-clause-provided : goal.returns-then-len-eq0-clause-provided
returns-then-len-eq0-clause-provided c = λ p is are.
    let provided = names_in c.args.provided in
    let members = c.args.members.now in
    let left = map (λ n. n.items) c.in_ok-names.names.keys in
    let same : left ≡ unresolved_names c.args.script.now p =
    c.in_ok-names.ensures
    ∙ ap (λ g. missing_after g [] (wanted c.as_slice-symbols.result.now members)) c.in_ok-add_weak.ensures
    ∙ ap (λ (ss : List Symbol). missing_after (distinct_names provided (map (λ d. d.name) (weak_symbols ss))) [] (wanted ss members)) c.as_slice-symbols.ensures
    ∙ none_gives c.args.script.now p provided members is are in
    let zero : length left ≡ 0 = simp length-map (omega arith) in
    ap none_unresolved (sym same) ∙ left_none left zero

pub returns-clause-provided : goal.returns-clause-provided
returns-clause-provided c = λ p is are.
    let provided = names_in c.args.provided in
    let members = c.args.members.now in
    let left = map (λ n. n.items) c.in_ok-names.names.keys in
    let same : left ≡ unresolved_names c.args.script.now p =
    c.in_ok-names.ensures
    ∙ ap (λ g. missing_after g [] (wanted c.as_slice-symbols.result.now members)) c.in_ok-add_weak.ensures
    ∙ ap (λ (ss : List Symbol). missing_after (distinct_names provided (map (λ d. d.name) (weak_symbols ss))) [] (wanted ss members)) c.as_slice-symbols.ensures
    ∙ none_gives c.args.script.now p provided members is are in
    let some : length left ≡ 0 → ⊥ = λ h. (let none : length c.in_ok-names.names.keys ≡ 0 = simp length-map at h in omega arith) in
    let told : c.in_ok-copy_names.field-0 ≡ left = c.in_ok-copy_names.ensures ∙ ap (map (λ n. n.items)) c.as_slice.ensures.keys in
    let made : List (List ℕ) → Result (Unit {0}) LinkFault = λ ns. Err (Unresolved ns) in
    ap none_unresolved (sym same) ∙ left_some left some ∙ ap made (sym told)
