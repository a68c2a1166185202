use Rattle.std.proofs.Common.{arith, ◌≡◌, ◌∙◌, ap, drop, map, refl, sym, subst, OnOk, Ok, Err, Result, List, ℕ, Bool, true, false, ◌||◌, ◌++◌, Option, Some, None}
use Rattle.link65.specs.declared.fault.LinkFault.{LinkFault}
use Rattle.link65.specs.declared.parts.ModuleExport.{ModuleExport}
use Rattle.link65.specs.declared.fault.LinkFault.TheVariants.{DuplicateExport}
use Rattle.link65.specs.Faults.{is_memory, is_end_fault}
use Rattle.link65.specs.Links.{none_duplicate}
use Rattle.link65.specs.Names.{first_duplicate}
use Rattle.base65.specs.Outcome.{◌>>=◌, RefinesErr, Unless}
use Rattle.link65.specs.Representation.{names_or_duplicate, names_in, with_new_names}
use Rattle.std.proofs.lemmas.Grind.{common_steps}
use Rattle.link65.specs.declared.building.ProgramBuilder.{ProgramBuilder}
use Rattle.link65.specs.Growing.{PartialProgram, without_open_module, closed_program}
use Rattle.link65.specs.CodeInvariants.{RepresentsPartialProgram, partial_program_in}
use Rattle.link65.specs.Internal.Fields.{are_listed, exports_from}
use Rattle.link65.proofs.DefinedNameLemmas.{each_once_all}
use Rattle.link65.proofs.LinkerStates.{closed_whole, cut_short, disagrees, given_twice}
use Rattle.link65.proofs.module_reader.close_module.Goals as goal

pub returns-then-not-is_ended-clause-ended : goal.returns-then-not-is_ended-clause-ended
returns-then-not-is_ended-clause-ended c = λ p s comes.
    let old = partial_program_in c.args.program_builder.now in
    let m = c.args.opened.now in
    cut_short m.listed old.imports (names_in c.args.provided.now) (exports_from m.first_export old) p s old m.scan comes c.from.result (sym c.is_ended.ensures ∙ c.if-not-is_ended.true) c.from.ensures

pub returns-then-not-are_listed-clause-ended : goal.returns-then-not-are_listed-clause-ended
returns-then-not-are_listed-clause-ended c = λ p s comes.
    let old = partial_program_in c.args.program_builder.now in
    let m = c.args.opened.now in
    let same = ap (map (λ (e : ModuleExport). e.name)) (c.exports_from_index-exports.ensures ∙ ap (drop m.first_export) c.as_slice.ensures) in
    let differ = ap (λ ns. are_listed m.listed ns old.imports) (sym same) ∙ ap (are_listed m.listed _) (sym c.as_slice-imports.ensures) ∙ sym c.are_listed.ensures ∙ c.if-not-are_listed.true in
    disagrees m.listed old.imports (names_in c.args.provided.now) (exports_from m.first_export old) p s old m.scan comes _ (sym c.is_ended.ensures ∙ c.if-not-is_ended.false) differ refl

grown_then : (r : Result (Unit {0}) LinkFault) (g : ProgramBuilder) (new : PartialProgram) → OnOk r (RepresentsPartialProgram g new) → OnOk r (partial_program_in g ≡ new)
grown_then x g new h = grind (arith, common_steps)

pub returns-in-Ok-clause-ended : goal.returns-in-Ok-clause-ended
returns-in-Ok-clause-ended c = λ p s comes.
    let old = partial_program_in c.args.program_builder.now in
    let m = c.args.opened.now in
    let before = names_in c.args.provided.now in
    let provided = names_in c.add_exports.new.self in
    let same = ap (map (λ (e : ModuleExport). e.name)) (c.exports_from_index-exports.ensures ∙ ap (drop m.first_export) c.as_slice.ensures) in
    let listed = ap (λ ns. are_listed m.listed ns old.imports) (sym same) ∙ ap (are_listed m.listed _) (sym c.as_slice-imports.ensures) ∙ sym c.are_listed.ensures ∙ c.if-not-are_listed.false in
    let once = subst (λ ns. names_or_duplicate before ns ≡ Ok provided) same (sym (each_once_all _ before) ∙ c.in-Ok.ensures) in
    let named = subst (λ n. OnOk c.end_module.result (partial_program_in c.end_module.new.program_builder ≡ without_open_module (closed_program old n))) c.replace-name.ensures.value (grown_then c.end_module.result _ _ c.end_module.ensures.ended) in
    closed_whole m.listed old.imports before (exports_from m.first_export old) p s old m.scan comes (partial_program_in c.end_module.new.program_builder) m.name provided c.end_module.result (sym c.is_ended.ensures ∙ c.if-not-is_ended.false) listed once named c.end_module.ensures.memory

pub returns-in-Err-clause-ended : goal.returns-in-Err-clause-ended
returns-in-Err-clause-ended c = λ p s comes.
    let old = partial_program_in c.args.program_builder.now in
    let m = c.args.opened.now in
    let before = names_in c.args.provided.now in
    let same = ap (map (λ (e : ModuleExport). e.name)) (c.exports_from_index-exports.ensures ∙ ap (drop m.first_export) c.as_slice.ensures) in
    let listed = ap (λ ns. are_listed m.listed ns old.imports) (sym same) ∙ ap (are_listed m.listed _) (sym c.as_slice-imports.ensures) ∙ sym c.are_listed.ensures ∙ c.if-not-are_listed.false in
    given_twice m.listed old.imports before (exports_from m.first_export old) p s old m.scan comes c.in-Err.e (sym c.is_ended.ensures ∙ c.if-not-is_ended.false) listed (subst (λ ns. RefinesErr is_memory c.in-Err.e (names_or_duplicate before ns)) same (subst (λ (r : Result (List (List ℕ)) LinkFault). RefinesErr is_memory c.in-Err.e r) (each_once_all _ before) c.in-Err.ensures))

again_fault : (o : Option (List ℕ)) (names : List (List ℕ)) (e : LinkFault) → (none_duplicate o >>= (λ u. Ok names)) ≡ Err e → is_end_fault e ≡ true
again_fault None names e h = absurd cc
again_fault (Some name) names e h = let same : DuplicateExport name ≡ e = cc in sym (ap is_end_fault same)

-- an error of adding the exports' names is *out of memory* or an error of the module's end
given_again : (names before : List (List ℕ)) (e : LinkFault) → RefinesErr is_memory e (with_new_names before names) → (is_memory e || is_end_fault e) ≡ true
given_again names before e h = go (is_memory e) h
  where
    go : (b : Bool) → Unless b (with_new_names before names ≡ Err e) → (b || is_end_fault e) ≡ true
    go true u = refl
    go false u = again_fault (first_duplicate before names) (before ++ names) e (sym (each_once_all names before) ∙ u)

pub returns-in-Err-clause-faults : goal.returns-in-Err-clause-faults
returns-in-Err-clause-faults c = given_again (map (λ (e : ModuleExport). e.name) c.exports_from_index-exports.result.now) (names_in c.args.provided.now) c.in-Err.e c.in-Err.ensures
