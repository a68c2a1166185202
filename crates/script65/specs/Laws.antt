-- Laws of scripts.
use Rattle.std.specs.Prelude.{◌≡◌, ◌<◌, ◌≤◌, ◌⊎◌, ℕ, List, Result, Ok, Err, length, ⊤}
use Rattle.std.specs.List.{AllByRecursion}
use Rattle.base65.specs.SystemErrors.{IsNoSystemError}
use Rattle.script65.specs.declared.fault.ScriptFault.{ScriptFault}
use Rattle.script65.specs.declared.script.MemoryArea.{MemoryArea}
use Rattle.script65.specs.declared.script.Operand.{Operand}
use Rattle.script65.specs.declared.script.Operand.TheVariants as operand
use Rattle.script65.specs.declared.script.SegmentRow.{SegmentRow}
use Rattle.script65.specs.declared.script.Script.{Script}
use Rattle.script65.specs.declared.script.Term.{Term}
use Rattle.script65.specs.Faults.{is_script_system_error}
use Rattle.script65.specs.declared.fault.Fault.TheVariants.{OutOfRange}
use Rattle.script65.specs.declared.fault.FaultAt.{FaultAt}
use Rattle.script65.specs.Entries.{Entries}
use Rattle.script65.specs.Grammar.{MatchesGrammar}
use Rattle.script65.specs.Scripts.{IsParseResult, IsScript}
use Rattle.script65.specs.Tokens.{IsLeadingToken, leading_token, token}

-- a text has at most one result: a script or a first error
abbrev pub ReadingIsUnique : Type 0
ReadingIsUnique = (bytes : List ℕ) (r q : Result Script ScriptFault) → IsScript bytes r → IsScript bytes q → r ≡ q

-- a text has a result: a script, or a first error that isn't *out of memory*
abbrev pub ReadingExists : Type 0
ReadingExists =
    (bytes : List ℕ) →
    (r : Result Script ScriptFault) × IsScript bytes r × IsNoSystemError is_script_system_error r

-- texts with the same tokens up to an offset
abbrev pub SameTokens : List ℕ → List ℕ → ℕ → Type 0
SameTokens bytes other offset = (k : ℕ) → k ≤ offset → token other k ≡ token bytes k

-- the error is at the token at this offset; or a number is out of range, which for a sum is reported at its
-- last term
abbrev pub IsFoundAt : List ℕ → FaultAt → ℕ → Type 0
IsFoundAt bytes f offset = (f.at ≡ (token bytes offset).at) ⊎ (f.fault ≡ OutOfRange)

-- A first error among the tokens is revealed by one of them: no text with the same tokens up to that one is in the grammar,
-- whatever follows.
abbrev pub NoContinuation : Type 0
NoContinuation =
    (bytes : List ℕ) (f : FaultAt) → IsParseResult bytes (Err f) →
    (offset : ℕ) × IsFoundAt bytes f offset
    × ((other : List ℕ) (es : Entries) → SameTokens bytes other offset → MatchesGrammar other es → ⊥)

-- the token at the front of a text is the longest there is
abbrev pub TokensAreLongest : Type 0
TokensAreLongest = (here : List ℕ) → IsLeadingToken here (leading_token here).0 (leading_token here).1

-- ---- Names that a script uses are defined.

-- the area or the row that a sum names is in the script, if it has this number of areas and rows
abbrev pub IsValidOperand : ℕ → ℕ → Operand → Type 0
IsValidOperand areas rows (operand.Number n) = ⊤
IsValidOperand areas rows (operand.Area k part) = k < areas
IsValidOperand areas rows (operand.Row i part) = i < rows

abbrev pub AreValidTerms : ℕ → ℕ → List Term → Type 0
AreValidTerms areas rows ts = AllByRecursion (λ (t : Term). IsValidOperand areas rows t.operand) ts

-- an area's sums name areas and rows of the script
abbrev pub HasValidSums : Script → MemoryArea → Type 0
HasValidSums s a = AreValidTerms (length s.areas) (length s.rows) a.start × AreValidTerms (length s.areas) (length s.rows) a.size

-- a row loads and runs in areas of the script
abbrev pub HasValidAreas : Script → SegmentRow → Type 0
HasValidAreas s r = (r.load < length s.areas) × (r.run < length s.areas)

-- the areas and rows that a script's sums and rows refer to exist in each script that is read
abbrev pub ReferencesAreValid : Type 0
ReferencesAreValid =
    (bytes : List ℕ) (s : Script) → IsScript bytes (Ok s) →
    AllByRecursion (HasValidSums s) s.areas × AllByRecursion (HasValidAreas s) s.rows
