use Rattle.std.proofs.lemmas.Grind.{common_steps}
use Rattle.std.proofs.Common.{◌≡◌, ◌∙◌, ℕ, Bor, List, Err, Ok, ap, refl, subst, sym, arith}
use Rattle.std.specs.Option.{option_map}
use Rattle.std.proofs.lemmas.Result.{err_from_is_err_and}
use Rattle.syntax65.specs.Tokens.{lexemes}
use Rattle.expand65.specs.LineStart.{string_of, ok_or_not_understood}
use Rattle.expand65.specs.Failures.{StepFails, FailedOnOneOf}
use Rattle.expand65.specs.State.{and_then_step}
use Rattle.expand65.specs.declared.preprocessor.LineOutcome.{LineOutcome}
use Rattle.expand65.specs.Expansion.{StepReaches, first_file, include_file, file_step, candidate_names}
use Rattle.expand65.specs.Representation.{RefinesLineOutcome, state_of}
use Rattle.expand65.specs.Macros.{file_of}
use Rattle.expand65.proofs.StepSequences.{include_found, include_is, turns_by, turns_so, where_known}
use Rattle.expand65.proofs.FileSearch.{found_fits}
use Rattle.expand65.proofs.ExpansionFailures.{only_error, stood, stops_by}
use Rattle.expand65.proofs.preprocessor.Preprocessor.include.Goals as goal

pub returns-clause-outcome : goal.returns-clause-outcome
returns-clause-outcome g c =
    let o = g.S.Store.files c.args.store.now in
    let old = c.args.self.now in
    let ts = lexemes c.args.tokens.now in
    let name = c.in-Some.name.now in
    let includer = c.as_str-includer.result.now in
    let folders = c.as_slice.result.now in
    let file = c.in_ok-file.file in
    let r = c.enter_file.result in
    let new = c.enter_file.new.self in
    let text = sym c.string_of.ensures ∙ ap (option_map (λ (s : Bor (List ℕ)). s.now)) c.in-Some.is in
    turns_by o r new (λ m. include_file (state_of m old) name) (λ m. and_then_step (state_of m old) (ok_or_not_understood (string_of ts)) (include_file (state_of m old))) (λ m. include_is (state_of m old) ts name text) (where_known o (λ m. first_file m (candidate_names includer folders name) ≡ Ok (file_of m file)) (λ m. RefinesLineOutcome r (state_of m new) (StepReaches m (include_file (state_of m old) name))) (λ m h. turns_so r (state_of m new) (λ x. x ≡ file_step (state_of m old) (file_of m file)) (StepReaches m (include_file (state_of m old) name)) (λ x e. include_found m (state_of m old) name includer file folders x c.as_str-includer.ensures c.as_slice.ensures h e) (c.enter_file.ensures.outcome m (found_fits m (candidate_names includer folders name) file h))) c.in_ok-file.ensures.found)

pub returns-in_err-file-clause-stopped : goal.returns-in_err-file-clause-stopped
returns-in_err-file-clause-stopped g c = λ names.
    (let p = err_from_is_err_and c.from_residual.result c.from_residual.ensures.1 in
    let o = g.S.Store.files c.args.store.now in
    let old = c.args.self.now in
    let ts = lexemes c.args.tokens.now in
    let name = c.in-Some.name.now in
    let f = c.in_err-file.field-0.0 in
    let last_failure = g.S.Store.last_failure c.find_file.new.store in
    let text = sym c.string_of.ensures ∙ ap (option_map (λ (s : Bor (List ℕ)). s.now)) c.in-Some.is in
    let P : List ℕ → List (List ℕ) → Type 0 = λ includer folders. FailedOnOneOf last_failure (candidate_names includer folders name) in
    rw (p.1, p.2) (stops_by {A = LineOutcome} o last_failure (λ m. include_file (state_of m old) name) (λ m. and_then_step (state_of m old) (ok_or_not_understood (string_of ts)) (include_file (state_of m old))) old.stack old.stack (Err f) (λ m. include_is (state_of m old) ts name text) (stood LineOutcome o (λ m. StepFails m last_failure (include_file (state_of m old) name)) old.stack f (λ m failed. (refl, subst (P old.stack.location.file) c.as_slice.ensures (subst (λ b. P b c.as_slice.result.now) c.as_str-includer.ensures (c.in_err-file.ensures.last_failure (ap Err (only_error f failed)))))))))

pub returns-clause-frame : goal.returns-clause-frame
returns-clause-frame g c = grind (arith, common_steps)
