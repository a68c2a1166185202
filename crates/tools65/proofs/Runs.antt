-- The effects of a whole run, from the effects of its parts.
use Rattle.std.proofs.Common.{◌≡◌, ◌⊎◌, inl, inr, ℕ, ◌<◌, ◌≤◌, List, [], Bool, true, false, Option, Some, None, Result, Ok, Err, refl, sym, not, arith, append-nil}
use Rattle.std.specs.Prelude.{IfSome, ◌||◌}
use Rattle.base65.specs.Outcome.{RefinesErr}
use Rattle.base65.specs.Store.{LastFailure, Files, NoneFailed, HasFailed, max_failures}
use Rattle.output65.specs.declared.outcome.Outcome.{Outcome}
use Rattle.output65.specs.declared.outcome.Status.{Status}
use Rattle.output65.specs.declared.outcome.Status.TheVariants.{Failure}
use Rattle.output65.specs.Outputs.{error_outcome}
use Rattle.tools65.specs.Internal.ComputedOutcomes.{ComputesOutcome}
use Rattle.tools65.specs.ObjectFits.{IsFittingOutcome}
use Rattle.tools65.specs.Command.{IsOutcomeOfCommand, RunsCommand, RunHasOutcome, ArgsRunHasOutcome, command_memory_message}
use Rattle.output65.specs.RunEffects.{ForStreamsOverWriters, PrintsText, PrintsBothTexts, FilesAfterRun, CommitsOutcome, HasMemoryFailure, Streams, streams}
use Rattle.cli65.specs.Line.{CommandView, line_of}
use Rattle.cli65.specs.LineFaults.{is_system_error as is_line_system_error}
use Rattle.cli65.specs.declared.fault.LineFault.{LineFault}
use Rattle.cli65.specs.declared.fault.LineFault.TheVariants.{OutOfMemory, BadArguments}
use Rattle.cli65.specs.Messages.{arguments_error_message, arguments_memory_message}

no_text : (out : Option (List ℕ)) → PrintsText out out [] true
no_text None = tt
no_text (Some xs) = sym (append-nil xs)

-- nothing is printed to standard output
only_errors : (out err_old err_new : Option (List ℕ)) (text : List ℕ) (out_refused err_refused : Bool) → out_refused ≡ false → PrintsText err_old err_new text (not err_refused) → PrintsBothTexts (streams out out out_refused err_old err_new err_refused) [] text
only_errors out err_old err_new text true err_refused quiet p = absurd cc
only_errors out err_old err_new text false err_refused quiet p = (no_text out, p)

nothing_written : (text : List ℕ) (m : Files) (new : Option Files) (status : Status) (whole : Bool) → new ≡ Some m → status ≡ Failure → FilesAfterRun (error_outcome text) m new status whole
nothing_written text m new status true e f = (e, f)
nothing_written text m new status false e f = (e, f)

-- a run that only prints a message and fails commits `error_outcome`
pub says : (m : Files) (new : Option Files) (out err_old err_new : Option (List ℕ)) (text : List ℕ) (out_refused err_refused : Bool) (status : Status) → new ≡ Some m → status ≡ Failure → out_refused ≡ false → PrintsText err_old err_new text (not err_refused) → CommitsOutcome (error_outcome text) m new (streams out out out_refused err_old err_new err_refused) status
says m new out err_old err_new text out_refused err_refused status same e quiet p =
    record { printed = only_errors out err_old err_new text out_refused err_refused quiet p; file_effects = nothing_written text m new status (not (out_refused || err_refused)) same e }

-- memory ran out before there was an outcome
pub only_memory : (known new : Option Files) (IsOutcomeOf : Files → Outcome → Type 0) (out err_old err_new : Option (List ℕ)) (memory : List ℕ) (out_refused err_refused : Bool) (status : Status) (Q : Type 0) → new ≡ known → status ≡ Failure → out_refused ≡ false → PrintsText err_old err_new memory (not err_refused) → IfSome known (λ m. Q → RunHasOutcome IsOutcomeOf memory m new (streams out out out_refused err_old err_new err_refused) status)
only_memory None new IsOutcomeOf out err_old err_new memory out_refused err_refused status Q same e quiet p = tt
only_memory (Some m) new IsOutcomeOf out err_old err_new memory out_refused err_refused status Q same e quiet p = λ _. (error_outcome memory, inr refl, inl (says m new out err_old err_new memory out_refused err_refused status same e quiet p))

-- if no call failed from `fo` to `fn`, none failed from `fo` to `fm` or from `fm` to `fn`
pub none_before : (fo fm fn : ℕ) → fo ≤ fm → fm ≤ fn → NoneFailed fo fn → (fm ≡ fo) × NoneFailed fm fn
none_before fo fm fn a b h =
    let same : fm ≡ fo = omega (arith, h.same) in
    (same, record { same = omega (arith, h.same); before = omega (arith, h.before, same) })

pub did_not_fail : (fo fm : ℕ) → fm ≡ fo → fo < max_failures → HasFailed fo fm → ⊥
did_not_fail fo fm same before (inl h) = absurd (omega arith)
did_not_fail fo fm same before (inr h) = absurd (omega arith)

-- a computed outcome is committed
pub line_done : (known mid new : Option Files) (fo fm fn : ℕ) (line : CommandView) (last_failure : LastFailure) (o : Outcome) (io : Streams) (status : Status) → mid ≡ known → fo ≤ fm → fm ≤ fn → IfSome known (λ m. ComputesOutcome line m last_failure fo fm o) → IfSome mid (λ m. NoneFailed fm fn → CommitsOutcome o m new io status ⊎ HasMemoryFailure o (command_memory_message line) m new io status) → IfSome known (λ m. NoneFailed fo fn → RunHasOutcome (IsOutcomeOfCommand line) (command_memory_message line) m new io status)
line_done None mid new fo fm fn line last_failure o io status same early later computes performs = tt
line_done (Some m) mid new fo fm fn line last_failure o io status same early later computes performs = λ none.
    let between = none_before fo fm fn early later none in
    (o, by (computes.done (did_not_fail fo fm between.0 none.before)), (rw same at performs) between.1)
  where
    by : IsFittingOutcome line m o ⊎ (o ≡ error_outcome (command_memory_message line)) → IsOutcomeOfCommand line m o ⊎ (o ≡ error_outcome (command_memory_message line))
    by (inl (IsOutcomeOf, fits)) = inl IsOutcomeOf
    by (inr memory) = inr memory

-- a command line that was run
pub line_run : (known new : Option Files) (fo fn : ℕ) (args : List (List ℕ)) (line : CommandView) (io : Streams) (status : Status) → line_of args ≡ Ok line → IfSome known (λ m. NoneFailed fo fn → RunHasOutcome (IsOutcomeOfCommand line) (command_memory_message line) m new io status) → IfSome known (λ m. NoneFailed fo fn → RunsCommand args m new io status)
line_run None new fo fn args line io status e h = tt
line_run (Some m) new fo fn args line io status e h = λ none. rw e (inl (h none))

-- arguments that aren't a command line, or memory ran out while they were parsed
pub refused_words : (known new : Option Files) (args : List (List ℕ)) (e : LineFault) (out err_old err_new : Option (List ℕ)) (out_refused err_refused : Bool) (status : Status) (Q : Type 0) → new ≡ known → status ≡ Failure → RefinesErr is_line_system_error e (line_of args) → out_refused ≡ false → PrintsText err_old err_new (arguments_error_message e) (not err_refused) → IfSome known (λ m. Q → RunsCommand args m new (streams out out out_refused err_old err_new err_refused) status)
refused_words None new args e out err_old err_new out_refused err_refused status Q same f h quiet p = tt
refused_words (Some m) new args BadArguments out err_old err_new out_refused err_refused status Q same f h quiet p =
    λ _. rw h (error_outcome (arguments_error_message BadArguments), inl refl, inl (says m new out err_old err_new (arguments_error_message BadArguments) out_refused err_refused status same f quiet p))
refused_words (Some m) new args OutOfMemory out err_old err_new out_refused err_refused status Q same f h quiet p = λ _. either (line_of args)
  where
    printed : CommitsOutcome (error_outcome arguments_memory_message) m new (streams out out out_refused err_old err_new err_refused) status
    printed = says m new out err_old err_new arguments_memory_message out_refused err_refused status same f quiet p

    either : (r : Result CommandView LineFault) → ArgsRunHasOutcome r m new (streams out out out_refused err_old err_new err_refused) status
    either (Ok line) = inr printed
    either (Err e) = (error_outcome arguments_memory_message, inr refl, inl printed)

-- a property of these two streams, as a property of streams over writers
pub over_writers : (known : Option Files) (Q : Type 0) (out_old out_new err_old err_new : Option (List ℕ)) (out_refused err_refused : Bool) (IsSo : Files → Streams → Type 0) → IfSome known (λ m. Q → IsSo m (streams out_old out_new out_refused err_old err_new err_refused)) → IfSome known (λ m. Q → ForStreamsOverWriters out_old out_new err_old err_new (IsSo m))
over_writers None Q out_old out_new err_old err_new out_refused err_refused IsSo h = tt
over_writers (Some m) Q out_old out_new err_old err_new out_refused err_refused IsSo h = λ q. (out_refused, err_refused, h q)
