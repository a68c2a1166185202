-- The effect of a token in terms of the code, and the script of a text.
use Rattle.std.specs.Prelude.{◌≡◌, ℕ, false, List, Option, Some, None, Result, Ok, Err, ⊤}
use Rattle.base65.specs.Outcome.{◌>>=◌, Unless}
use Rattle.script65.specs.declared.fault.FaultAt.{FaultAt}
use Rattle.script65.specs.declared.script.Script.{Script}
use Rattle.script65.specs.SyntaxErrors.{Move, ParseState, accepted, finished, rejected, before_term, before_value, after_name, after_term, after_value, after_keyword, between_attributes}
use Rattle.script65.specs.Entries.{Entries, has_name}
use Rattle.script65.specs.Faults.{is_system_error}
use Rattle.script65.specs.Scripts.{HasEntries, script_from}

-- the token leads to the state that a call returned, or has its error, unless that is a system
-- error
abbrev pub RefinesMove : Entries → Result ParseState FaultAt → Move → Type 0
RefinesMove es (Ok p) m = m ≡ accepted es p
RefinesMove es (Err e) m = Unless (is_system_error e) (m ≡ rejected e.fault e.at)

-- likewise, or the script ends
abbrev pub RefinesMoveOrEnd : Entries → Result (Option ParseState) FaultAt → Move → Type 0
RefinesMoveOrEnd es (Ok (Some p)) m = m ≡ accepted es p
RefinesMoveOrEnd es (Ok None) m = m ≡ finished es
RefinesMoveOrEnd es (Err e) m = Unless (is_system_error e) (m ≡ rejected e.fault e.at)

-- the entry that isn't closed yet has a new name
abbrev pub IsFresh : Entries → ParseState → Type 0
IsFresh es (after_name b e) = has_name e.name b es ≡ false
IsFresh es (between_attributes b e) = has_name e.name b es ≡ false
IsFresh es (after_keyword b e row) = has_name e.name b es ≡ false
IsFresh es (before_value b e row) = has_name e.name b es ≡ false
IsFresh es (before_term b e a ps subtracted) = has_name e.name b es ≡ false
IsFresh es (after_term b e a ps) = has_name e.name b es ≡ false
IsFresh es (after_value b e) = has_name e.name b es ≡ false
IsFresh es _ = ⊤

-- the script of a text, or its first error with the offset
abbrev pub HasScript : List ℕ → Result Script FaultAt → Type 0
HasScript bytes r = (q : Result Entries FaultAt) × HasEntries bytes q × (r ≡ (q >>= script_from))
