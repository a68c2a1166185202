-- The numbers of the object that a run assembles fit their types, unless memory runs out.
use Rattle.std.proofs.Common.{◌≡◌, ◌⊎◌, inl, inr, ℕ, ◌≤◌, List, [], Bool, false, not, Option, Some, None, Result, Ok, Err, ap, subst}
use Rattle.std.specs.Prelude.{IfSome}
use Rattle.base65.specs.Outcome.{RefinesErr}
use Rattle.base65.specs.Store.{Files, LastFailure, NoneFailed, RelatesFiles}
use Rattle.base65.specs.declared.output.OutputFile.{OutputFile}
use Rattle.cli65.specs.Line.{CommandView, line_of}
use Rattle.cli65.specs.LineFaults.{is_system_error as is_line_system_error}
use Rattle.cli65.specs.Messages.{arguments_memory_message, arguments_error_message}
use Rattle.cli65.specs.declared.fault.LineFault.{LineFault}
use Rattle.cli65.specs.declared.fault.LineFault.TheVariants.{BadArguments, OutOfMemory}
use Rattle.output65.specs.Outputs.{error_outcome}
use Rattle.output65.specs.RunEffects.{CommitsOutcome, PrintsText, WritesPrefix, HasMemoryFailure, Streams, streams}
use Rattle.output65.specs.declared.outcome.Outcome.{Outcome}
use Rattle.output65.specs.declared.outcome.Status.{Status}
use Rattle.output65.specs.declared.outcome.Status.TheVariants.{Failure}
use Rattle.tools65.specs.Command.{command_memory_message}
use Rattle.tools65.specs.ObjectFits.{ParsedObjectFits, IsFittingOutcome, CommandObjectFits, RunObjectFits, ArgsObjectFits}
use Rattle.tools65.specs.Internal.ComputedOutcomes.{ComputesOutcome}
use Rattle.tools65.proofs.Runs.{did_not_fail, none_before, says}

-- if there are no outputs, writing can't stop at one of them
stops_nowhere : (k : ℕ) (m : Files) (new : Option Files) → RelatesFiles (WritesPrefix [] k) (Some m) new → ⊥
stops_nowhere k m None h = h
stops_nowhere k m (Some n) h = let empty : None ≡ Some h.0 = h.1 in cc

-- a computed outcome is committed
pub line_fits : (known mid new : Option Files) (fo fm fn : ℕ) (line : CommandView) (last_failure : LastFailure) (o : Outcome) (io : Streams) (status : Status) → mid ≡ known → fo ≤ fm → fm ≤ fn → IfSome known (λ m. ComputesOutcome line m last_failure fo fm o) → IfSome mid (λ m. NoneFailed fm fn → CommitsOutcome o m new io status ⊎ HasMemoryFailure o (command_memory_message line) m new io status) → IfSome known (λ m. NoneFailed fo fn → RunObjectFits line m new io status)
unfolding RunObjectFits
line_fits None mid new fo fm fn line last_failure o io status same early later computes performs = tt
line_fits (Some m) mid new fo fm fn line last_failure o io status same early later computes performs = λ none.
    let between = none_before fo fm fn early later none in
    by (computes.done (did_not_fail fo fm between.0 none.before)) ((rw same at performs) between.1)
  where
    by : IsFittingOutcome line m o ⊎ (o ≡ error_outcome (command_memory_message line)) → CommitsOutcome o m new io status ⊎ HasMemoryFailure o (command_memory_message line) m new io status → CommandObjectFits line m ⊎ CommitsOutcome (error_outcome (command_memory_message line)) m new io status
    by (inl (IsOutcomeOf, fits)) carried = inl fits
    by (inr memory) (inl printed) = inr (subst (λ (x : Outcome). CommitsOutcome x m new io status) memory printed)
    by (inr memory) (inr short) =
        let none : o.outputs ≡ [] = ap (λ (x : Outcome). x.outputs) memory in
        absurd (stops_nowhere short.index m new (subst (λ (os : List OutputFile). RelatesFiles (WritesPrefix os short.index) (Some m) new) none short.file_effects))

-- memory ran out before there was an outcome
pub only_memory_fits : (known new : Option Files) (line : CommandView) (out err_old err_new : Option (List ℕ)) (out_refused err_refused : Bool) (status : Status) (Q : Type 0) → new ≡ known → status ≡ Failure → out_refused ≡ false → PrintsText err_old err_new (command_memory_message line) (not err_refused) → IfSome known (λ m. Q → RunObjectFits line m new (streams out out out_refused err_old err_new err_refused) status)
unfolding RunObjectFits
only_memory_fits None new line out err_old err_new out_refused err_refused status Q same e quiet p = tt
only_memory_fits (Some m) new line out err_old err_new out_refused err_refused status Q same e quiet p =
    λ _. inr (says m new out err_old err_new (command_memory_message line) out_refused err_refused status same e quiet p)

-- a command line that was run
pub words_fit : (known new : Option Files) (fo fn : ℕ) (args : List (List ℕ)) (line : CommandView) (io : Streams) (status : Status) → line_of args ≡ Ok line → IfSome known (λ m. NoneFailed fo fn → RunObjectFits line m new io status) → IfSome known (λ m. NoneFailed fo fn → ArgsObjectFits args m new io status)
unfolding ArgsObjectFits
words_fit None new fo fn args line io status e h = tt
words_fit (Some m) new fo fn args line io status e h = λ none. rw e (inl (h none))

-- arguments that aren't a command line, or memory ran out while they were parsed
pub refused_fit : (known new : Option Files) (args : List (List ℕ)) (e : LineFault) (out err_old err_new : Option (List ℕ)) (out_refused err_refused : Bool) (status : Status) (Q : Type 0) → new ≡ known → status ≡ Failure → RefinesErr is_line_system_error e (line_of args) → out_refused ≡ false → PrintsText err_old err_new (arguments_error_message e) (not err_refused) → IfSome known (λ m. Q → ArgsObjectFits args m new (streams out out out_refused err_old err_new err_refused) status)
unfolding ArgsObjectFits
refused_fit None new args e out err_old err_new out_refused err_refused status Q same f h quiet p = tt
refused_fit (Some m) new args BadArguments out err_old err_new out_refused err_refused status Q same f h quiet p = λ _. rw h tt
refused_fit (Some m) new args OutOfMemory out err_old err_new out_refused err_refused status Q same f h quiet p = λ _. either (line_of args)
  where
    either : (r : Result CommandView LineFault) → ParsedObjectFits r m new (streams out out out_refused err_old err_new err_refused) status
    either (Ok line) = inr (says m new out err_old err_new arguments_memory_message out_refused err_refused status same f quiet p)
    either (Err e) = tt
