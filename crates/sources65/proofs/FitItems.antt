-- Reading a line or block preserves that the remaining input's tokens fit into an object and that their number is within the
-- limit.
use Rattle.std.proofs.lemmas.Grind.{common_steps}
use Rattle.std.proofs.Common.{arith, ◌≡◌, ℕ, zero, suc, ◌+◌, ◌*◌, ◌≤◌, List, [], ◌∷◌, ◌++◌, length, map, Some, None, refl, sym, ap, subst}
use Rattle.std.specs.Prelude.{⊤, Result, Ok, Err}
use Rattle.std.specs.List.{AllByRecursion}
use Rattle.std.proofs.lemmas.Bool.Decides.{nat_tests}
use Rattle.base65.specs.Store.{Files}
use Rattle.syntax65.specs.Tokens.{Lexeme}
use Rattle.syntax65.specs.declared.fault.ExpandFault.{ExpandFault}
use Rattle.syntax65.specs.declared.source_location.SourceLocation.{SourceLocation}
use Rattle.expand65.specs.Blocks.{Block, at_closing_line, one_more, with_line, CompleteBlock}
use Rattle.expand65.specs.declared.blocks.BlockKind.{BlockKind}
use Rattle.expand65.specs.Lines.{restored_location, body_line_tokens, in_iteration, HasLineTokens, Item, body_line, label_rest, end_mark, RemainingInput, remaining_input, with_local_names, InputEnd, file_lines_after, after_innermost_macro, location_after_item, repeat_substitution, Substitution, LocatedError, LineAndRest, line_and_rest, ReadsNextLine, ReadsFirstItem, iterations}
use Rattle.sources65.proofs.FitLines.{AreAllFit, AreBases, Each, IsReplacingFit, most, replaced_fit, with_locals_fit}
use Rattle.sources65.proofs.FitTokens.{AreFit, IsLineFit, read_fit}
use Rattle.semantics65.proofs.Segments.{all_more}
use Rattle.sources65.proofs.SoundForms.{all_append}

-- ---- Tokens.

-- the number of tokens in label rests
abbrev pub tokens_in : List Item → ℕ
tokens_in [] = 0
tokens_in (label_rest ts ∷ is) = length ts + tokens_in is
tokens_in (_ ∷ is) = tokens_in is

-- a bound for the number of tokens that expansion may still return
abbrev pub tokens_left : RemainingInput → ℕ
tokens_left l = 4096 * l.room + tokens_in l.items

tokens_after : (i : Item) (is : List Item) → tokens_in is ≤ tokens_in (i ∷ is)
tokens_after x1 is = grind arith

tokens_append : (is js : List Item) → tokens_in (is ++ js) ≡ tokens_in is + tokens_in js
tokens_append [] js = omega arith
tokens_append (label_rest ts ∷ is) js = let more = tokens_append is js in omega (arith, more)
tokens_append (_ ∷ is) js = tokens_append is js

pub localised_tokens : (names : List (List ℕ)) (is : List Item) → tokens_in (with_local_names names is) ≡ tokens_in is
localised_tokens names [] = refl
localised_tokens names (end_mark k ∷ is) = refl
localised_tokens names (label_rest ts ∷ is) = ap (λ n. length ts + n) (localised_tokens names is)
localised_tokens names (body_line r ts ∷ is) = localised_tokens names is
localised_tokens names (_ ∷ is) = localised_tokens names is

module _ (m : Files) where
  -- ---- The remaining input.

  abbrev pub IsItemFit : Item → Type 0
  IsItemFit (body_line r ts) = IsReplacingFit m r × AreFit m ts
  IsItemFit (label_rest ts) = AreFit m ts
  IsItemFit _ = ⊤

  -- the remaining input after `n` tokens: its items fit, and the total number of tokens is at most `most`
  pub record IsLeftFit (n : ℕ) (l : RemainingInput) : Type 0 where
    pub items : AllByRecursion IsItemFit l.items
    pub few : n + tokens_left l ≤ most

  pub fewer : (k n : ℕ) (l : RemainingInput) → k ≤ n → IsLeftFit n l → IsLeftFit k l
  fewer k n l le h = let few = h.few in record { items = h.items; few = omega (arith, le, few) }

  -- ---- Pushed lines.

  -- the items fit and contain no label rests
  abbrev pub AreLines : List Item → Type 0
  AreLines is = AllByRecursion IsItemFit is × (tokens_in is ≡ 0)

  pub written_lines : (n : ℕ) (lines : List (List ℕ)) → AreLines (file_lines_after n lines)
  written_lines n [] = (tt, refl)
  written_lines n (line ∷ lines) = let more = written_lines (n + 1) lines in ((tt, more.0), more.1)

  pub played_lines : (r : Substitution) (body : List (List Lexeme)) → IsReplacingFit m r → AreAllFit m body → AreLines (map (body_line r) body)
  played_lines r [] fit h = (tt, refl)
  played_lines r (ts ∷ body) fit h = let more = played_lines r body fit h.1 in (((fit, h.0), more.0), more.1)

  pub turns_lines : (variable : List (List ℕ)) (body : List (List Lexeme)) (t n : ℕ) → AreAllFit m body → AreLines (iterations (repeat_substitution variable) body t n)
  turns_lines variable body t zero h = (tt, refl)
  turns_lines variable body t (suc n) h =
      let first = played_lines (in_iteration (repeat_substitution variable) t) body (record { arguments = ((tt, tt), tt); count = tt; locals = tt; number = omega arith }) h in
      let more = turns_lines variable body (t + 1) n h in
      let one = first.1 in
      let two = more.1 in
      let all = tokens_append (map (body_line (in_iteration (repeat_substitution variable) t)) body) (iterations (repeat_substitution variable) body (t + 1) n) in
      (all_append IsItemFit (map (body_line (in_iteration (repeat_substitution variable) t)) body) (iterations (repeat_substitution variable) body (t + 1) n) first.0 more.0, omega (arith, all, one, two))

  -- pushing lines and an end mark onto the remaining input
  pub pushed_fit : (n : ℕ) (is : List Item) (k : InputEnd) (l : RemainingInput) (p : SourceLocation) → IsLeftFit n l → AreLines is → IsLeftFit n (remaining_input (is ++ end_mark k ∷ l.items) l.room p)
  pushed_fit n is k l p h lines =
      let few = h.few in
      let none = lines.1 in
      let all = tokens_append is (end_mark k ∷ l.items) in
      record { items = all_append IsItemFit is (end_mark k ∷ l.items) lines.0 (tt, h.items); few = omega (arith, few, none, all) }

  -- ---- Local names, and the input after an expansion.

  pub localised_fit : (names : List (List ℕ)) (is : List Item) → AreBases names → AllByRecursion IsItemFit is → AllByRecursion IsItemFit (with_local_names names is)
  localised_fit names [] bases h = tt
  localised_fit names (body_line r ts ∷ is) bases h = ((with_locals_fit m names r bases h.0.0, h.0.1), localised_fit names is bases h.1)
  localised_fit names (end_mark k ∷ is) bases h = h
  localised_fit names (_ ∷ is) bases h = (h.0, localised_fit names is bases h.1)

  pub after_mark : (n : ℕ) (k : InputEnd) (is : List Item) (room : ℕ) (p : SourceLocation) → IsLeftFit n (remaining_input (end_mark k ∷ is) room p) → IsLeftFit n (remaining_input is room (restored_location p k.return_location))
  after_mark n k is room p h = let few = h.few in record { items = h.items.1; few = omega (arith, few) }

  after_item : (n : ℕ) (i : Item) (is : List Item) (room : ℕ) (p : SourceLocation) → IsLeftFit n (remaining_input (i ∷ is) room p) → IsLeftFit n (remaining_input is room p)
  after_item n i is room p h = let few = h.few in let less = tokens_after i is in record { items = h.items.1; few = omega (arith, few, less) }

  abbrev pub IsOutsideFit : ℕ → ℕ → ℕ × List Item × SourceLocation → Type 0
  IsOutsideFit n room (c, is, p) = IsLeftFit n (remaining_input is room p)

  pub outside_fit : (n : ℕ) (is : List Item) (room : ℕ) (p : SourceLocation) → IsLeftFit n (remaining_input is room p) → Each (IsOutsideFit n room) (after_innermost_macro is p)
  outside_fit n [] room p h = tt
  outside_fit n (end_mark k ∷ is) room p h = let j = after_mark n k is room p h in grind (arith, common_steps, j, (outside_fit n is room (restored_location p k.return_location) j))
  outside_fit n (i ∷ is) room p h = outside_fit n is room p (after_item n i is room p h)

  -- ---- A line that is read.

  abbrev pub IsTakenFit : ℕ → LineAndRest → Type 0
  IsTakenFit n (Ok (Some ts, x)) = AreFit m ts × IsLeftFit (n + length ts) x
  IsTakenFit n (Ok (None, x)) = IsLeftFit n x
  IsTakenFit n (Err e) = ⊤

  abbrev IsOpenedFit : Result (List Lexeme) ExpandFault → Type 0
  IsOpenedFit (Ok ts) = IsLineFit m ts
  IsOpenedFit (Err f) = ⊤

  fitted_fit : (ts : List Lexeme) → AreFit m ts → IsOpenedFit (body_line_tokens ts)
  fitted_fit ts h = grind (arith, common_steps, nat_tests)

  opened_fit : (i : Item) (q : Result (List Lexeme) ExpandFault) → IsItemFit i → HasLineTokens i q → IsOpenedFit q
  opened_fit x1 q h x2 = grind (arith, common_steps, (read_fit m), (replaced_fit m), fitted_fit)

  line_after : (n : ℕ) (i : Item) (is : List Item) (room : ℕ) (p : SourceLocation) → IsLeftFit n (remaining_input (i ∷ is) (suc room) p) → (ts : List Lexeme) → length ts ≤ 4096 → IsLeftFit (n + length ts) (remaining_input is room (location_after_item p i))
  line_after n i is room p h ts short = let few = h.few in let less = tokens_after i is in record { items = h.items.1; few = omega (arith, few, short, less) }

  a_line : (n : ℕ) (i : Item) (is : List Item) (room : ℕ) (p : SourceLocation) (q : Result (List Lexeme) ExpandFault) → IsLeftFit n (remaining_input (i ∷ is) (suc room) p) → HasLineTokens i q → IsTakenFit n (line_and_rest q (remaining_input is room (location_after_item p i)))
  a_line n i is room p x1 h o = grind (arith, common_steps, (opened_fit i x1 h.items.0 o), (line_after n i is room p h))

  from_fit : (n : ℕ) (is : List Item) (room : ℕ) (p : SourceLocation) (t : LineAndRest) → IsLeftFit n (remaining_input is room p) → ReadsFirstItem is room p t → IsTakenFit n t
  from_fit n [] room p t h e = subst (IsTakenFit n) (sym e) h
  from_fit n (end_mark k ∷ is) room p t h e = subst (IsTakenFit n) (sym e) h
  from_fit n (_ ∷ is) zero p t h e = subst (IsTakenFit n) (sym e) tt
  from_fit n (i ∷ is) (suc room) p t h (q, o, e) = subst (IsTakenFit n) (sym e) (a_line n i is room p q h o)

  pub taken_fit : (n : ℕ) (l : RemainingInput) (t : LineAndRest) → IsLeftFit n l → ReadsNextLine l t → IsTakenFit n t
  taken_fit n l t h takes = from_fit n l.items l.room l.place t h takes

  -- ---- Blocks.

  abbrev pub IsBlockFit : ℕ → Result (CompleteBlock × RemainingInput) LocatedError → Type 0
  IsBlockFit n (Ok (b, x)) = AreAllFit m b.0 × IsLeftFit n x
  IsBlockFit n (Err e) = ⊤

  with_line_fit : (k : BlockKind) (body : List (List Lexeme)) (ts : List Lexeme) → AreAllFit m body → AreFit m ts → AreAllFit m (with_line k body ts)
  with_line_fit k body ts h j = grind (arith, common_steps, all_more)

  pub block_fit : (n : ℕ) (k : BlockKind) (d : ℕ) (body : List (List Lexeme)) (l : RemainingInput) (q : Result (CompleteBlock × RemainingInput) LocatedError) → AreAllFit m body → IsLeftFit n l → Block k d body l q → IsBlockFit n q
  block_fit n k _ _ _ _ h j (at_closing_line d body l x ts b t e) = let line = taken_fit n l (Ok (Some ts, x)) j t in (h, fewer n (n + length ts) x (omega arith) line.1)
  block_fit n k _ _ _ _ h j (one_more d c body l x ts r t e more) =
      let line = taken_fit n l (Ok (Some ts, x)) j t in
      block_fit n k c (with_line k body ts) x r (with_line_fit k body ts h line.0) (fewer n (n + length ts) x (omega arith) line.1) more
  block_fit n k _ _ _ _ h j _ = tt
