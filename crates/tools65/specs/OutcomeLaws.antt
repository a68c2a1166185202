-- A command has one outcome, exactly, and a failure of the store one message.
use Rattle.std.specs.Prelude.{◌≡◌, ℕ, List, Some, Result}
use Rattle.base65.specs.Store.{FailedCall, Files}
use Rattle.cli65.specs.Line.{ArchiveView, LinkView, CommandView, archive, line_of, link}
use Rattle.cli65.specs.declared.fault.LineFault.{LineFault}
use Rattle.ld65.specs.Laws.{IdentifiesPart}
use Rattle.output65.specs.declared.outcome.Outcome.{Outcome}
use Rattle.tools65.specs.Command.{IsOutcomeOfArgs}
use Rattle.tools65.specs.Failures.{ReportsFailure}

-- arguments, and a parsed command line, have at most one outcome: texts, files and status
abbrev pub OutcomeIsUnique : Type 0
OutcomeIsUnique = (parsed : Result CommandView LineFault) (m : Files) (a b : Outcome) → IsOutcomeOfArgs parsed m a → IsOutcomeOfArgs parsed m b → a ≡ b

-- Whatever arguments and files are, there is one thing that the arguments do as a command, and no other.
abbrev pub OutcomeExists : Type 0
OutcomeExists =
    (args : List (List ℕ)) (m : Files) →
    (o : Outcome) × IsOutcomeOfArgs (line_of args) m o
    × ((other : Outcome) → IsOutcomeOfArgs (line_of args) m other → other ≡ o)

-- A call of ld65 or ar65 that failed while files were read has one message; for ld65 if its offset determines
-- which part of a library it requested.
abbrev pub FailureIsUnique : Type 0
FailureIsUnique =
    (m : Files) (c : FailedCall) (out err other_out other_err : List ℕ) →
    ((l : LinkView) → IdentifiesPart m c → ReportsFailure (link l) m (Some c) out err → ReportsFailure (link l) m (Some c) other_out other_err → (out ≡ other_out) × (err ≡ other_err))
    × ((a : ArchiveView) → ReportsFailure (archive a) m (Some c) out err → ReportsFailure (archive a) m (Some c) other_out other_err → (out ≡ other_out) × (err ≡ other_err))
