use Rattle.std.proofs.lemmas.Grind.{common_steps}
use Rattle.std.proofs.Common.{◌≡◌, ◌∙◌, ℕ, List, true, false, Result, Ok, Err, subst, ap, arith}
use Rattle.std.proofs.lemmas.Result.{err_from_is_err_and}
use Rattle.std.specs.FinMap as fmap
use Rattle.base65.specs.Outcome.{Unless}
use Rattle.syntax65.specs.Faults.{is_system_error}
use Rattle.expand65.specs.Expansion.{file_named, found_or}
use Rattle.expand65.specs.Macros.{file_of, file_exists}
use Rattle.syntax65.specs.declared.fault.ExpandFault.{ExpandFault}
use Rattle.expand65.proofs.StepSequences.{where_known}
use Rattle.expand65.proofs.FileSearch.{is_found, is_missing, is_refused}
use Rattle.expand65.proofs.includes.existing_file.Goals as goal

abbrev pub Found : Type 0
Found = Result (List ℕ × List ℕ) ExpandFault

pub returns-in_err-exists-clause-tries : goal.returns-in_err-exists-clause-tries
returns-in_err-exists-clause-tries g c =
    let p = err_from_is_err_and c.from_residual.result c.from_residual.ensures.1 in
    let name = c.args.name.now in
    let f = c.in_err-exists.field-0.0 in
    rw (p.1, p.2) (where_known (g.S.Store.files c.args.store.now) (λ m. Unless (is_system_error f) (file_exists (fmap.get m c.in-Some.text.now) ≡ Err f)) (λ m. (others : Found) → Unless (is_system_error f) (found_or name (file_named m name) others ≡ Err f)) (λ m h others. let P : List ℕ → Type 0 = λ t. Unless (is_system_error f) (file_exists (fmap.get m t) ≡ Err f) in is_refused m name others f c.in-Some.ensures.text.1 (subst P c.in-Some.ensures.text.0 h)) c.in_err-exists.ensures.there)

pub returns-in_ok-copy_of-clause-tries : goal.returns-in_ok-copy_of-clause-tries
returns-in_ok-copy_of-clause-tries g c =
    let name = c.args.name.now in
    let exists = c.in_ok-exists.exists in
    where_known (g.S.Store.files c.args.store.now) (λ m. file_exists (fmap.get m c.in-Some.text.now) ≡ Ok exists) (λ m. (others : Found) → found_or name (file_named m name) others ≡ Ok (file_of m c.in_ok-copy_of.field-0)) (λ m h others. let P : List ℕ → Type 0 = λ t. file_exists (fmap.get m t) ≡ Ok true in is_found m name c.in_ok-copy_of.field-0 others c.in-Some.ensures.text.1 (subst P c.in-Some.ensures.text.0 (h ∙ ap Ok c.if-exists.true)) (c.in_ok-copy_of.ensures ∙ c.in-Some.ensures.text.0)) c.in_ok-exists.ensures.there

pub returns-else-exists-clause-tries : goal.returns-else-exists-clause-tries
returns-else-exists-clause-tries g c =
    let name = c.args.name.now in
    let exists = c.in_ok-exists.exists in
    where_known (g.S.Store.files c.args.store.now) (λ m. file_exists (fmap.get m c.in-Some.text.now) ≡ Ok exists) (λ m. (others : Found) → found_or name (file_named m name) others ≡ others) (λ m h others. let P : List ℕ → Type 0 = λ t. file_exists (fmap.get m t) ≡ Ok false in is_missing m name others c.in-Some.ensures.text.1 (subst P c.in-Some.ensures.text.0 (h ∙ ap Ok c.if-exists.false))) c.in_ok-exists.ensures.there

pub returns-in_ok-copy_of-clause-frame : goal.returns-in_ok-copy_of-clause-frame
returns-in_ok-copy_of-clause-frame g c = grind (arith, common_steps)
