-- Each expression has a form, and each source a layout and an outcome, or an error that is no system error.
use Rattle.std.specs.Prelude.{◌≡◌, Bool, false, IfSome}
use Rattle.base65.specs.SystemErrors.{IsNoSystemError}
use Rattle.base65.specs.Store.{Files}
use Rattle.syntax65.specs.Trees.{Tree}
use Rattle.ast65.specs.Faults.{is_system_error}
use Rattle.semantics65.specs.Layout.{Layout}
use Rattle.semantics65.specs.Module.{Outcome, LocatedFault}
use Rattle.sources65.specs.Reading.{IsOutcome, AreLaidOut, Job, ReachedState}
use Rattle.semantics65.specs.Norms.{norm_of}
use Rattle.semantics65.specs.Symbols.{Symbols}
use Rattle.semantics65.specs.declared.contexts.Context.{Context}

-- whether a located error is a system error
abbrev pub is_located_system_error : LocatedFault → Bool
is_located_system_error e = is_system_error e.fault

-- By any symbol table an expression has a form, in any context, or a first error: also if names are
-- circular or its form has too many nodes.
abbrev pub FormExists : Type 0
FormExists = (y : Symbols) (s : Context) (e : Tree) → IsNoSystemError is_system_error (norm_of y s e)

-- for all files, a source is laid out up to its last line or to the first error of a line
abbrev pub LayoutExists : Type 0
LayoutExists =
    (m : Files) (job : Job) →
    (r : ReachedState Layout) × AreLaidOut m job r × IfSome r.fault (λ e. is_located_system_error e ≡ false)

-- and its outcome is an object or a first error
abbrev pub OutcomeExists : Type 0
OutcomeExists =
    (m : Files) (job : Job) →
    (a : Outcome) × IsOutcome m job a × IsNoSystemError is_located_system_error a.result
