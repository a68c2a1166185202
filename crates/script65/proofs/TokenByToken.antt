-- The definition of reading a text token by token, by the tokens that each state accepts.
use Rattle.std.specs.Prelude.{◌≡◌, ℕ, List, Result, Ok, Err}
use Rattle.script65.specs.declared.fault.Fault.{Fault}
use Rattle.script65.specs.declared.fault.FaultAt.{FaultAt}
use Rattle.script65.specs.SyntaxErrors.{ParseState, accepted, finished, rejected, move_at_offset, between_blocks}
use Rattle.script65.specs.Entries.{Entries, no_entries}
use Rattle.script65.specs.Faults.{fault_at}
use Rattle.script65.specs.Scripts.{UnlessTooLong, is_too_long}
use Rattle.script65.specs.Tokens.{token}

-- from this offset on, the tokens of a text result in these entries, or in this first error
pub data Reads (bytes : List ℕ) : Entries → ParseState → ℕ → Result Entries FaultAt → Type 0 where
  next : (es fs : Entries) (p q : ParseState) (at : ℕ) (r : Result Entries FaultAt) → move_at_offset bytes es p at ≡ accepted fs q → Reads bytes fs q (token bytes at).following r → Reads bytes es p at r
  ends : (es fs : Entries) (p : ParseState) (at : ℕ) → move_at_offset bytes es p at ≡ finished fs → Reads bytes es p at (Ok fs)
  stops : (es : Entries) (p : ParseState) (at : ℕ) (fault : Fault) (offset : ℕ) → move_at_offset bytes es p at ≡ rejected fault offset → Reads bytes es p at (Err (fault_at fault offset))

-- reading a whole text
abbrev pub ReadsText : List ℕ → Result Entries FaultAt → Type 0
ReadsText bytes r = UnlessTooLong (is_too_long bytes) r (Reads bytes no_entries between_blocks 0 r)
