-- Blocks line by line, as the code reads them.
use Rattle.std.proofs.lemmas.Grind.{common_steps}
use Rattle.std.proofs.Common.{arith, ◌≡◌, ℕ, Bool, true, false, List, [], refl, subst, sym, Option, Some, None, IfSome, Result, Ok, Err}
use Rattle.base65.specs.Outcome.{Unless}
use Rattle.base65.specs.Store.{Files}
use Rattle.syntax65.specs.Tokens.{Lexeme}
use Rattle.expand65.specs.Blocks.{ReadsBlockLine, Branch, still_open, closed, rejected, line_verdict, is_collected, with_line, CompleteBlock, Block, at_fault, at_end_mark, at_rejected_line, at_closing_line, one_more}
use Rattle.expand65.specs.declared.blocks.BlockKind.{BlockKind}
use Rattle.syntax65.specs.Faults.{is_system_error}
use Rattle.expand65.specs.Representation.{remaining_of, SkipsUncollectedLines}
use Rattle.expand65.specs.Replay.{SkipsPlainLines, no_line as none_passed, a_line}
use Rattle.expand65.specs.Lines.{RemainingInput, LocatedError, ReadsNextLine}
use Rattle.syntax65.specs.declared.fault.ExpandFault.{ExpandFault}
use Rattle.syntax65.specs.declared.fault.ExpandFault.TheVariants.{NotClosed}
use Rattle.syntax65.specs.declared.source_location.SourceLocation.{SourceLocation}
use Rattle.expand65.specs.declared.input_stack.InputStack.{InputStack}
use Rattle.expand65.proofs.PlainLines.{plain_judged, unkept}

-- each result of the rest of the block is a result of the whole block
abbrev pub Leads : BlockKind → ℕ → List (List Lexeme) → InputStack → InputStack → Files → Type 0
Leads k d body reader first m = (r : Result (CompleteBlock × RemainingInput) LocatedError) → Block k d body (remaining_of m reader) r → Block k 0 [] (remaining_of m first) r

-- the next line has an error, or the input ends
no_line : (k : BlockKind) (d : ℕ) (body : List (List Lexeme)) (l : RemainingInput) (e : LocatedError) → ReadsBlockLine l (Err e) → Block k d body l (Err e)
no_line k d body l e (Ok (Some ts, m), t, h) = absurd cc
no_line k d body l e (Ok (None, m), t, h) =
    let same : (NotClosed, m.place) ≡ e = cc in
    let P : LocatedError → Type 0 = λ s. Block k d body l (Err s) in
    subst P same (at_end_mark d body l m t)
no_line k d body l e (Err f, t, h) =
    let same : f ≡ e = cc in
    let P : LocatedError → Type 0 = λ s. Block k d body l (Err s) in
    subst P same (at_fault d body l f t)

-- the next line is read
pub some_line : (l m : RemainingInput) (ts : List Lexeme) → ReadsBlockLine l (Ok (ts, m)) → ReadsNextLine l (Ok (Some ts, m))
some_line l m ts x = grind (arith, common_steps)

pub line_missing : (k : BlockKind) (o : Option Files) (first reader : InputStack) (d : ℕ) (body : List (List Lexeme)) (f : ExpandFault) (p : SourceLocation) → IfSome o (Leads k d body reader first) → IfSome o (λ m. Unless (is_system_error f) (ReadsBlockLine (remaining_of m reader) (Err (f, p)))) → IfSome o (λ m. Unless (is_system_error f) (Block k 0 [] (remaining_of m first) (Err (f, p))))
line_missing k x first reader d body f p h t = grind (arith, common_steps, no_line)

pub line_refused : (k : BlockKind) (o : Option Files) (first reader new : InputStack) (d : ℕ) (body : List (List Lexeme)) (ts : List Lexeme) (f : ExpandFault) → IfSome o (Leads k d body reader first) → IfSome o (λ m. ReadsBlockLine (remaining_of m reader) (Ok (ts, remaining_of m new))) → Unless (is_system_error f) (line_verdict k d ts ≡ rejected f) → IfSome o (λ m. Unless (is_system_error f) (Block k 0 [] (remaining_of m first) (Err (f, new.location))))
line_refused k None first reader new d body ts f h t j = tt
line_refused k (Some m) first reader new d body ts f h t j = by (is_system_error f) j
  where
    by : (b : Bool) → Unless b (line_verdict k d ts ≡ rejected f) → Unless b (Block k 0 [] (remaining_of m first) (Err (f, new.location)))
    by true j = tt
    by false j = h (Err (f, new.location)) (at_rejected_line d body (remaining_of m reader) (remaining_of m new) ts f (some_line (remaining_of m reader) (remaining_of m new) ts t) j)

pub line_closes : (k : BlockKind) (o : Option Files) (first reader new : InputStack) (d : ℕ) (body : List (List Lexeme)) (ts : List Lexeme) (b : Branch) → IfSome o (Leads k d body reader first) → IfSome o (λ m. ReadsBlockLine (remaining_of m reader) (Ok (ts, remaining_of m new))) → line_verdict k d ts ≡ closed b → IfSome o (λ m. Block k 0 [] (remaining_of m first) (Ok ((body, b), remaining_of m new)))
line_closes k None first reader new d body ts b h t j = tt
line_closes k (Some m) first reader new d body ts b h t j = h (Ok ((body, b), remaining_of m new)) (at_closing_line d body (remaining_of m reader) (remaining_of m new) ts b (some_line (remaining_of m reader) (remaining_of m new) ts t) j)

pub line_goes_on : (k : BlockKind) (o : Option Files) (first reader new : InputStack) (d c : ℕ) (body : List (List Lexeme)) (ts : List Lexeme) → IfSome o (Leads k d body reader first) → IfSome o (λ m. ReadsBlockLine (remaining_of m reader) (Ok (ts, remaining_of m new))) → line_verdict k d ts ≡ still_open c → IfSome o (Leads k c (with_line k body ts) new first)
line_goes_on k None first reader new d c body ts h t j = tt
line_goes_on k (Some m) first reader new d c body ts h t j = λ r b. h r (one_more d c body (remaining_of m reader) (remaining_of m new) ts r (some_line (remaining_of m reader) (remaining_of m new) ts t) j b)

-- skipping plain lines, if the block's lines aren't kept
over_plain : (k : BlockKind) (d : ℕ) (body : List (List Lexeme)) (l n : RemainingInput) (r : Result (CompleteBlock × RemainingInput) LocatedError) → is_collected k ≡ false → SkipsPlainLines l n → Block k d body n r → Block k d body l r
over_plain k d body _ _ r e (none_passed l) h = h
over_plain k d body _ _ r e (a_line l m n before (ts, taken, plain)) h = over_plain k d body l m r e before (one_more d d body m n ts r taken (plain_judged k d ts plain) (subst (λ b. Block k d b n r) (sym (unkept k body ts e)) h))

pub lines_passed : (k : BlockKind) (o : Option Files) (first reader new : InputStack) (d : ℕ) (body : List (List Lexeme)) → ((m : Files) → SkipsUncollectedLines (is_collected k) (remaining_of m reader) (remaining_of m new)) → IfSome o (Leads k d body reader first) → IfSome o (Leads k d body new first)
lines_passed k None first reader new d body passed h = tt
lines_passed k (Some m) first reader new d body passed h = by (is_collected k) refl (passed m)
  where
    by : (b : Bool) → is_collected k ≡ b → SkipsUncollectedLines b (remaining_of m reader) (remaining_of m new) → Leads k d body new first m
    by true e p = λ r b. h r (subst (λ l. Block k d body l r) p b)
    by false e p = λ r b. h r (over_plain k d body (remaining_of m reader) (remaining_of m new) r e p b)
