-- Runs in which a call of the store fails.
use Rattle.std.proofs.Common.{◌≡◌, ◌⊎◌, inl, inr, ℕ, ◌<◌, ◌≤◌, List, [], Bool, true, false, not, Option, Some, None, Result, Ok, Err, refl, sym, ap, subst, arith, nat_eq}
use Rattle.std.proofs.Math.Nat.{eq-or-lt_of_le}
use Rattle.std.specs.Prelude.{IfSome}
use Rattle.base65.specs.Outcome.{RefinesErr}
use Rattle.base65.specs.Store.{Files, HasFailed, max_failures, LastFailure}
use Rattle.cli65.specs.Line.{CommandView, line_of}
use Rattle.cli65.specs.Messages.{arguments_memory_message, arguments_error_message}
use Rattle.cli65.specs.declared.fault.LineFault.{LineFault}
use Rattle.cli65.specs.declared.fault.LineFault.TheVariants.{BadArguments, OutOfMemory}
use Rattle.tools65.specs.Command.{command_memory_message}
use Rattle.tools65.specs.Failures.{RunFails, ParsedRunFails, CommandRunFails, ArgsRunFails, ReportsFailureOrMemory}
use Rattle.tools65.specs.ObjectFits.{IsFittingOutcome}
use Rattle.output65.specs.RunEffects.{CommitsOutcome, PrintsText, Streams, streams}
use Rattle.output65.specs.WriteFailures.{HasWriteFailure}
use Rattle.output65.specs.Outputs.{error_outcome}
use Rattle.output65.specs.declared.outcome.Outcome.{Outcome}
use Rattle.output65.specs.declared.outcome.Status.{Status}
use Rattle.output65.specs.declared.outcome.Status.TheVariants.{Failure}
use Rattle.cli65.specs.LineFaults.{is_system_error as is_line_system_error}
use Rattle.std.proofs.lemmas.Bool.Decides.{nat_tests}
use Rattle.tools65.proofs.Runs.{says}
use Rattle.tools65.specs.Internal.ComputedOutcomes.{ComputesOutcome}

is_equal : (a b : ℕ) → nat_eq a b ≡ true → a ≡ b
is_equal a b h = grind (arith, nat_tests)

not_failed : (fo fm : ℕ) → fm ≡ fo → nat_eq fo max_failures ≡ false → HasFailed fo fm → ⊥
not_failed fo fm same other (inl h) = absurd (omega (arith, h, same))
not_failed fo fm same other (inr h) = absurd (let P : ℕ → Type 0 = λ n. nat_eq n max_failures ≡ false in let no : nat_eq max_failures max_failures ≡ false = subst P h other in cc)

-- ---- A command line.

-- memory ran out before there was an outcome
pub only_memory_fails : (known new : Option Files) (line : CommandView) (last_failure : LastFailure) (out err_old err_new : Option (List ℕ)) (out_refused err_refused : Bool) (status : Status) (Q : Type 0) → new ≡ known → status ≡ Failure → out_refused ≡ false → PrintsText err_old err_new (command_memory_message line) (not err_refused) → IfSome known (λ m. Q → CommandRunFails line m new last_failure (streams out out out_refused err_old err_new err_refused) status)
unfolding CommandRunFails
only_memory_fails None new line last_failure out err_old err_new out_refused err_refused status Q same e quiet p = tt
only_memory_fails (Some m) new line last_failure out err_old err_new out_refused err_refused status Q same e quiet p = λ _.
    inl (record { out = []; err = command_memory_message line; reason = inr (refl, refl); performed = says m new out err_old err_new (command_memory_message line) out_refused err_refused status same e quiet p })

-- a computed outcome is committed, and a call failed: while files were read, or while the outcome's files were written
pub line_fails : (known mid new : Option Files) (fo fm fn : ℕ) (line : CommandView) (o : Outcome) (asked last_failure : LastFailure) (io : Streams) (status : Status) → mid ≡ known → fo ≤ fm → IfSome known (λ m. ComputesOutcome line m asked fo fm o) → (o.outputs ≡ [] → IfSome mid (λ m. CommitsOutcome o m new io status)) → (o.outputs ≡ [] → last_failure ≡ asked) → IfSome mid (λ m. fm < fn → HasWriteFailure o m new last_failure io status) → IfSome known (λ m. HasFailed fo fn → CommandRunFails line m new last_failure io status)
unfolding CommandRunFails
line_fails None mid new fo fm fn line o asked last_failure io status same early computes performs kept stops = tt
line_fails (Some m) mid new fo fm fn line o asked last_failure io status same early computes performs kept stops = λ some. by_last some (nat_eq fo max_failures) refl
  where
    while_reading : HasFailed fo fm → RunFails (IsFittingOutcome line) (ReportsFailureOrMemory line) m new last_failure io status
    while_reading h =
        let why = computes.failed h in
        let none : o.outputs ≡ [] = ap (λ (x : Outcome). x.outputs) why.3 in
        let W : LastFailure → Type 0 = λ b. ReportsFailureOrMemory line m b why.0 why.1 in
        inl (record {
          out = why.0;
          err = why.1;
          reason = subst W (sym (kept none)) why.2;
          performed = subst (λ (x : Outcome). CommitsOutcome x m new io status) why.3 (rw same at performs none);
        })

    while_writing : IsFittingOutcome line m o ⊎ (o ≡ error_outcome (command_memory_message line)) → HasWriteFailure o m new last_failure io status → RunFails (IsFittingOutcome line) (ReportsFailureOrMemory line) m new last_failure io status
    while_writing (inl IsOutcomeOf) s = inr (o, IsOutcomeOf, s)
    while_writing (inr is) s =
        let none : o.outputs ≡ [] = ap (λ (x : Outcome). x.outputs) is in
        let empty : None ≡ Some s.output = rw none at s.at in
        cc

    by_moment : nat_eq fo max_failures ≡ false → fo < fn → (fo ≡ fm) ⊎ (fo < fm) → RunFails (IsFittingOutcome line) (ReportsFailureOrMemory line) m new last_failure io status
    by_moment other later (inr rose) = while_reading (inl rose)
    by_moment other later (inl e) = while_writing (computes.done (not_failed fo fm (sym e) other)) ((rw same at stops) (omega (arith, e, later)))

    by_last : HasFailed fo fn → (b : Bool) → nat_eq fo max_failures ≡ b → RunFails (IsFittingOutcome line) (ReportsFailureOrMemory line) m new last_failure io status
    by_last some true at = while_reading (inr (is_equal fo max_failures at))
    by_last (inl later) false other = by_moment other later (eq-or-lt_of_le early)
    by_last (inr at) false other = while_reading (inr at)

-- a run in which a call failed returns `Failure`
pub line_failed : (fo fm fn : ℕ) (o : Outcome) (status : Status) → fo ≤ fm → (HasFailed fo fm → o.status ≡ Failure) → (fm < fn → status ≡ Failure) → (o.status ≡ Failure → status ≡ Failure) → HasFailed fo fn → status ≡ Failure
line_failed fo fm fn o status early fails rose failing_so = by
  where
    by_moment : fo < fn → (fo ≡ fm) ⊎ (fo < fm) → status ≡ Failure
    by_moment later (inr h) = failing_so (fails (inl h))
    by_moment later (inl e) = rose (omega (arith, e, later))

    by : HasFailed fo fn → status ≡ Failure
    by (inl later) = by_moment later (eq-or-lt_of_le early)
    by (inr at) = failing_so (fails (inr at))

-- ---- Arguments.

pub failed_words : (known new : Option Files) (fo fn : ℕ) (args : List (List ℕ)) (line : CommandView) (last_failure : LastFailure) (io : Streams) (status : Status) → line_of args ≡ Ok line → IfSome known (λ m. HasFailed fo fn → CommandRunFails line m new last_failure io status) → IfSome known (λ m. HasFailed fo fn → ArgsRunFails fo args m new last_failure io status)
unfolding ArgsRunFails
failed_words None new fo fn args line last_failure io status e h = tt
failed_words (Some m) new fo fn args line last_failure io status e h = λ some. rw e (inl (h some))

-- arguments that aren't a command line, or memory ran out while they were parsed
pub refused_fails : (known new : Option Files) (count : ℕ) (args : List (List ℕ)) (e : LineFault) (last_failure : LastFailure) (out err_old err_new : Option (List ℕ)) (out_refused err_refused : Bool) (status : Status) → new ≡ known → status ≡ Failure → RefinesErr is_line_system_error e (line_of args) → out_refused ≡ false → PrintsText err_old err_new (arguments_error_message e) (not err_refused) → IfSome known (λ m. HasFailed count count → ArgsRunFails count args m new last_failure (streams out out out_refused err_old err_new err_refused) status)
unfolding ArgsRunFails
refused_fails None new count args e last_failure out err_old err_new out_refused err_refused status same f h quiet p = tt
refused_fails (Some m) new count args BadArguments last_failure out err_old err_new out_refused err_refused status same f h quiet p =
    λ _. rw h (error_outcome (arguments_error_message BadArguments), inl refl, inl (says m new out err_old err_new (arguments_error_message BadArguments) out_refused err_refused status same f quiet p))
refused_fails (Some m) new count args OutOfMemory last_failure out err_old err_new out_refused err_refused status same f h quiet p = λ some. either (line_of args) (at_last some)
  where
    printed : CommitsOutcome (error_outcome arguments_memory_message) m new (streams out out out_refused err_old err_new err_refused) status
    printed = says m new out err_old err_new arguments_memory_message out_refused err_refused status same f quiet p

    at_last : HasFailed count count → count ≡ max_failures
    at_last (inl less) = absurd (omega arith)
    at_last (inr last) = last

    either : (r : Result CommandView LineFault) → count ≡ max_failures → ParsedRunFails count r m new last_failure (streams out out out_refused err_old err_new err_refused) status
    either (Ok line) last = inr (last, printed)
    either (Err e) last = (error_outcome arguments_memory_message, inr refl, inl printed)
