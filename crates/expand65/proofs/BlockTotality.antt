-- Reading a line or a block always has a result, which is never a system error, and shrinks the remaining input.
use Rattle.std.proofs.Common.{◌≡◌, ℕ, zero, suc, ◌<◌, ◌≤◌, Bool, true, false, List, [], ◌∷◌, Option, Some, None, refl, arith, if◌then◌else◌}
use Rattle.std.specs.Prelude.{Result, Ok, Err, ⊤, length, drop, nat_le, ◌==◌}
use Rattle.base65.proofs.SystemErrors.{Own, bad, choice, good}
use Rattle.syntax65.specs.Faults.{is_lex_system_error, is_system_error}
use Rattle.syntax65.specs.Tokens.{Lexeme}
use Rattle.syntax65.specs.declared.lexing.tokens.LexFault.{LexFault}
use Rattle.syntax65.specs.declared.lexing.tokens.LexFault.TheVariants as lex
use Rattle.syntax65.specs.declared.source_location.SourceLocation.{SourceLocation}
use Rattle.syntax65.proofs.LexingTotality.{some_reading}
use Rattle.expand65.specs.Blocks.{Branch, Verdict, still_open, closed, rejected, closed_alone, line_verdict, block_verdict, with_line, CompleteBlock, Block, at_fault, at_end_mark, at_rejected_line, at_closing_line, one_more}
use Rattle.expand65.specs.LineStart.{is_mislabelled, line_directive}
use Rattle.expand65.specs.Laws.{AreLines, weight}
use Rattle.expand65.specs.Lines.{Item, file_line, body_line, label_rest, elseif_rest, end_mark, RemainingInput, remaining_input, LocatedError, location_at, substituted_line, LineAndRest, ReadsNextLine, ReadsFirstItem, line_and_rest, file_line_tokens, body_line_tokens, token_limit}
use Rattle.expand65.specs.Types.{ExpandFault, NotClosed, NotUnderstood, TooManyLines, Directive, Macro, EndMacro, Repeat, EndRepeat, If, ElseIf, Else, EndIf}
use Rattle.expand65.specs.declared.blocks.BlockKind.{BlockKind}
use Rattle.expand65.specs.declared.blocks.BlockKind.TheVariants as kind

-- ---- One line.

-- the remaining input consists of lines and end marks, with a smaller budget and no larger weight
pub record AreFewer (is : List Item) (r : ℕ) (x : RemainingInput) : Type 0 where
  pub lines : AreLines x.items
  pub room : x.room < r
  pub light : weight x.items ≤ weight is

-- The result of reading a line: the remaining input is smaller, unchanged at an end mark, or there is an error that is no
-- system error.
abbrev pub IsTakenOf : List Item → ℕ → LineAndRest → Type 0
IsTakenOf is budget (Ok (Some ts, x)) = AreFewer is budget x
IsTakenOf is budget (Ok (None, x)) = (x.items ≡ is) × (x.room ≡ budget)
IsTakenOf is budget (Err e) = is_system_error e.0 ≡ false

lexed_own : (q : Result (List Lexeme) LexFault) → Own is_lex_system_error q → Own is_system_error (file_line_tokens q)
lexed_own (Ok ts) h = good ts
lexed_own (Err lex.OutOfMemory) h = absurd (let e : true ≡ false = h.own in cc)
lexed_own (Err _) h = bad _ refl

fitted_own : (ts : List Lexeme) → Own is_system_error (body_line_tokens ts)
fitted_own ts = choice (nat_le (length ts) token_limit) _ _ (good ts) (bad _ refl)

following_taken : (i : Item) (is : List Item) (budget : ℕ) (p : SourceLocation) (q : Result (List Lexeme) ExpandFault) → weight is ≤ weight (i ∷ is) → AreLines is → Own is_system_error q → IsTakenOf (i ∷ is) (suc budget) (line_and_rest q (remaining_input is budget p))
following_taken i is budget p (Ok ts) le lines h = record { lines = lines; room = omega arith; light = le }
following_taken i is budget p (Err f) le lines h = h.own

abbrev pub HasTaken : List Item → ℕ → SourceLocation → Type 0
HasTaken is budget p = (t : LineAndRest) × ReadsFirstItem is budget p t × IsTakenOf is budget t

pub some_taken : (is : List Item) (budget : ℕ) (p : SourceLocation) → AreLines is → HasTaken is budget p
some_taken [] budget p lines = (Ok (None, remaining_input [] budget p), refl, (refl, refl))
some_taken (end_mark k ∷ is) budget p lines = (Ok (None, remaining_input (end_mark k ∷ is) budget p), refl, (refl, refl))
some_taken (label_rest ts ∷ is) budget p lines = absurd lines
some_taken (elseif_rest ts ∷ is) budget p lines = absurd lines
some_taken (file_line n bytes ∷ is) zero p lines = (Err (TooManyLines, location_at p n), refl, refl)
some_taken (body_line e ts ∷ is) zero p lines = (Err (TooManyLines, p), refl, refl)
some_taken (file_line n bytes ∷ is) (suc budget) p lines =
    let q = some_reading bytes in
    let own : Own is_system_error (file_line_tokens q.0) = lexed_own q.0 (record { own = q.2 }) in
    (line_and_rest (file_line_tokens q.0) (remaining_input is budget (location_at p n)), (file_line_tokens q.0, (q.0, q.1, refl), refl), following_taken (file_line n bytes) is budget (location_at p n) (file_line_tokens q.0) (omega arith) lines own)
some_taken (body_line e ts ∷ is) (suc budget) p lines =
    (line_and_rest (body_line_tokens (substituted_line e ts)) (remaining_input is budget p), (body_line_tokens (substituted_line e ts), refl, refl), following_taken (body_line e ts) is budget p (body_line_tokens (substituted_line e ts)) (omega arith) lines (fitted_own (substituted_line e ts)))

-- ---- The effect of a line on its block.

abbrev RefusesOwn : Verdict → Type 0
RefusesOwn (rejected f) = is_system_error f ≡ false
RefusesOwn _ = ⊤

alone_own : (b : Branch) (ts : List Lexeme) → RefusesOwn (closed_alone b ts)
alone_own b ts = by (length ts == 0)
  where
    by : (alone : Bool) → RefusesOwn (if alone then closed b else rejected NotUnderstood)
    by true = tt
    by false = refl

judged_own : (k : BlockKind) (d : ℕ) (ts : List Lexeme) (o : Option Directive) → RefusesOwn (block_verdict k d ts o)
judged_own kind.Macro d ts (Some EndMacro) = alone_own _ (drop 1 ts)
judged_own kind.Macro d ts (Some Macro) = refl
judged_own kind.Repeat zero ts (Some EndRepeat) = alone_own _ (drop 1 ts)
judged_own kind.Repeat (suc d) ts (Some EndRepeat) = tt
judged_own kind.Repeat d ts (Some Repeat) = tt
judged_own kind.Skipped d ts (Some (If test)) = tt
judged_own kind.Skipped zero ts (Some ElseIf) = tt
judged_own kind.Skipped zero ts (Some Else) = alone_own _ (drop 1 ts)
judged_own kind.Skipped zero ts (Some EndIf) = alone_own _ (drop 1 ts)
judged_own kind.Skipped (suc d) ts (Some EndIf) = tt
judged_own kind.RemainingBranches d ts (Some (If test)) = tt
judged_own kind.RemainingBranches zero ts (Some EndIf) = tt
judged_own kind.RemainingBranches (suc d) ts (Some EndIf) = tt
judged_own k d ts _ = tt

judge_own : (k : BlockKind) (d : ℕ) (ts : List Lexeme) → RefusesOwn (line_verdict k d ts)
judge_own k d ts = by (is_mislabelled ts)
  where
    by : (b : Bool) → RefusesOwn (if b then rejected NotUnderstood else block_verdict k d ts (line_directive ts))
    by true = refl
    by false = judged_own k d ts (line_directive ts)

-- ---- Blocks.

-- the remaining input after a block is smaller, or there is an error that is no system error
abbrev pub IsBlockOf : RemainingInput → Result (CompleteBlock × RemainingInput) LocatedError → Type 0
IsBlockOf l (Ok (b, x)) = AreFewer l.items l.room x
IsBlockOf l (Err e) = is_system_error e.0 ≡ false

fewer_still : (l x : RemainingInput) (q : Result (CompleteBlock × RemainingInput) LocatedError) → AreFewer l.items l.room x → IsBlockOf x q → IsBlockOf l q
fewer_still l x (Ok (b, y)) h j = let less = h.room in let more = j.room in let light = h.light in let lighter = j.light in record { lines = j.lines; room = omega arith; light = omega arith }
fewer_still l x (Err e) h j = j

abbrev pub HasBlock : BlockKind → ℕ → List (List Lexeme) → RemainingInput → Type 0
HasBlock k d body l = (q : Result (CompleteBlock × RemainingInput) LocatedError) × Block k d body l q × IsBlockOf l q

module _ (k : BlockKind) (d : ℕ) (body : List (List Lexeme)) (l : RemainingInput) (more : (c : ℕ) (lines : List (List Lexeme)) (x : RemainingInput) → AreFewer l.items l.room x → HasBlock k c lines x) where
  after_line : (ts : List Lexeme) (x : RemainingInput) → ReadsNextLine l (Ok (Some ts, x)) → AreFewer l.items l.room x → (v : Verdict) → line_verdict k d ts ≡ v → RefusesOwn v → HasBlock k d body l
  after_line ts x t h (still_open c) e own = let q = more c (with_line k body ts) x h in (q.0, one_more d c body l x ts q.0 t e q.1, fewer_still l x q.0 h q.2)
  after_line ts x t h (closed b) e own = (Ok ((body, b), x), at_closing_line d body l x ts b t e, h)
  after_line ts x t h (rejected f) e own = (Err (f, x.place), at_rejected_line d body l x ts f t e, own)

  by_line : (t : LineAndRest) → ReadsNextLine l t → IsTakenOf l.items l.room t → HasBlock k d body l
  by_line (Ok (Some ts, x)) t h = after_line ts x t h (line_verdict k d ts) refl (judge_own k d ts)
  by_line (Ok (None, x)) t h = (Err (NotClosed, x.place), at_end_mark d body l x t, refl)
  by_line (Err e) t h = (Err e, at_fault d body l e t, h)

block_within : (n : ℕ) (k : BlockKind) (d : ℕ) (body : List (List Lexeme)) (l : RemainingInput) → l.room ≤ n → AreLines l.items → HasBlock k d body l
block_within zero k d body l le lines =
    let t = some_taken l.items l.room l.place lines in
    by_line k d body l (λ c bs x h. (let less = h.room in absurd (omega arith))) t.0 t.1 t.2
block_within (suc n) k d body l le lines =
    let t = some_taken l.items l.room l.place lines in
    by_line k d body l (λ c bs x h. block_within n k c bs x (let less = h.room in omega arith) h.lines) t.0 t.1 t.2

pub some_block : (k : BlockKind) (l : RemainingInput) → AreLines l.items → HasBlock k 0 [] l
some_block k l lines = block_within l.room k 0 [] l (omega arith) lines
