-- Blocks: their lines are read one by one up to the line that closes the block.
use Rattle.std.specs.Prelude.{◌≡◌, List, Some, None, Result, Ok, Err, ℕ, zero, suc, [], ◌∷◌, ◌++◌, drop, length, ◌==◌, Bool, true, false, Option, if◌then◌else◌}
use Rattle.syntax65.specs.Tokens.{Lexeme}
use Rattle.expand65.specs.Lines.{RemainingInput, LocatedError, LineAndRest, ReadsNextLine}
use Rattle.expand65.specs.Types.{NotClosed, MacroInside, NotUnderstood, Directive, Macro, EndMacro, Repeat, EndRepeat, If, ElseIf, Else, EndIf, ExpandFault}
use Rattle.expand65.specs.LineStart.{is_mislabelled, line_directive}
use Rattle.expand65.specs.declared.blocks.BlockKind.{BlockKind}
use Rattle.expand65.specs.declared.blocks.BlockKind.TheVariants as kind

-- ---- The next line of a block.

-- a block must be closed before the end of its input
abbrev pub block_line_result : LineAndRest → Result (List Lexeme × RemainingInput) LocatedError
block_line_result (Ok (Some ts, l)) = Ok (ts, l)
block_line_result (Ok (None, l)) = Err (NotClosed, l.place)
block_line_result (Err e) = Err e

abbrev pub ReadsBlockLine : RemainingInput → Result (List Lexeme × RemainingInput) LocatedError → Type 0
ReadsBlockLine l r = (t : LineAndRest) × ReadsNextLine l t × (r ≡ block_line_result t)

-- ---- The effect of a line on the block that contains it.

-- the directive that closes a block
pub data Branch : Type 0 where
  -- with the rest of its line
  at_elseif : List Lexeme → Branch
  at_else : Branch
  -- the end of a macro, a repeat or a condition
  at_end : Branch

-- the effect of a line on a block: it continues with this many nested blocks open, it is closed, or the
-- line is an error
pub data Verdict : Type 0 where
  still_open : ℕ → Verdict
  closed : Branch → Verdict
  rejected : ExpandFault → Verdict

-- nothing may follow a directive that closes its block
abbrev pub closed_alone : Branch → List Lexeme → Verdict
closed_alone end ts = if length ts == 0 then closed end else rejected NotUnderstood

-- The effect of a directive, with this many nested blocks open. `.endmacro` ends the body of a macro, and
-- `.endrepeat` that of a repeat. The next `.elseif`, `.else` or `.endif` of the same level ends the lines
-- of a false condition; `.endif` ends those of an `.elseif` or `.else` after a true condition.
abbrev pub block_verdict : BlockKind → ℕ → List Lexeme → Option Directive → Verdict
block_verdict kind.Macro d ts (Some EndMacro) = closed_alone at_end (drop 1 ts)
block_verdict kind.Macro d ts (Some Macro) = rejected MacroInside
block_verdict kind.Repeat zero ts (Some EndRepeat) = closed_alone at_end (drop 1 ts)
block_verdict kind.Repeat (suc d) ts (Some EndRepeat) = still_open d
block_verdict kind.Repeat d ts (Some Repeat) = still_open (suc d)
block_verdict kind.Skipped d ts (Some (If test)) = still_open (suc d)
block_verdict kind.Skipped zero ts (Some ElseIf) = closed (at_elseif (drop 1 ts))
block_verdict kind.Skipped zero ts (Some Else) = closed_alone at_else (drop 1 ts)
block_verdict kind.Skipped zero ts (Some EndIf) = closed_alone at_end (drop 1 ts)
block_verdict kind.Skipped (suc d) ts (Some EndIf) = still_open d
block_verdict kind.RemainingBranches d ts (Some (If test)) = still_open (suc d)
block_verdict kind.RemainingBranches zero ts (Some EndIf) = closed at_end
block_verdict kind.RemainingBranches (suc d) ts (Some EndIf) = still_open d
block_verdict k d ts _ = still_open d

abbrev pub line_verdict : BlockKind → ℕ → List Lexeme → Verdict
line_verdict k d ts = if is_mislabelled ts then rejected NotUnderstood else block_verdict k d ts (line_directive ts)

-- ---- Blocks.

-- whether blocks of this kind keep their lines
abbrev pub is_collected : BlockKind → Bool
is_collected kind.Macro = true
is_collected kind.Repeat = true
is_collected _ = false

-- the kept lines and one more
abbrev pub with_line : BlockKind → List (List Lexeme) → List Lexeme → List (List Lexeme)
with_line k body ts = if is_collected k then body ++ ts ∷ [] else body

-- the kept lines of a block, and the directive that closes it
abbrev pub CompleteBlock : Type 0
CompleteBlock = List (List Lexeme) × Branch

-- The rest of a block with this many nested blocks open, after the lines kept so far. It must be closed
-- before the next end of an input.
pub data Block (k : BlockKind) : ℕ → List (List Lexeme) → RemainingInput → Result (CompleteBlock × RemainingInput) LocatedError → Type 0 where
  at_fault : (d : ℕ) (body : List (List Lexeme)) (l : RemainingInput) (e : LocatedError) → ReadsNextLine l (Err e) → Block k d body l (Err e)
  at_end_mark : (d : ℕ) (body : List (List Lexeme)) (l m : RemainingInput) → ReadsNextLine l (Ok (None, m)) → Block k d body l (Err (NotClosed, m.place))
  at_rejected_line : (d : ℕ) (body : List (List Lexeme)) (l m : RemainingInput) (ts : List Lexeme) (f : ExpandFault) → ReadsNextLine l (Ok (Some ts, m)) → line_verdict k d ts ≡ rejected f → Block k d body l (Err (f, m.place))
  at_closing_line : (d : ℕ) (body : List (List Lexeme)) (l m : RemainingInput) (ts : List Lexeme) (b : Branch) → ReadsNextLine l (Ok (Some ts, m)) → line_verdict k d ts ≡ closed b → Block k d body l (Ok ((body, b), m))
  one_more : (d c : ℕ) (body : List (List Lexeme)) (l m : RemainingInput) (ts : List Lexeme) (r : Result (CompleteBlock × RemainingInput) LocatedError) → ReadsNextLine l (Ok (Some ts, m)) → line_verdict k d ts ≡ still_open c → Block k c (with_line k body ts) m r → Block k d body l r
