-- Each state has at most one next statement, end or error.
use Rattle.std.proofs.lemmas.Grind.{common_steps}
use Rattle.std.proofs.Common.{arith, ◌≡◌, ℕ, zero, suc, Bool, List, [], ◌∷◌, refl, sym, ap, ◌∙◌, subst, None, Some, Result, Ok, Err}
use Rattle.base65.specs.Store.{Files}
use Rattle.syntax65.specs.Tokens.{Lexeme}
use Rattle.expand65.specs.Blocks.{Verdict, still_open, closed, rejected, line_verdict, with_line, CompleteBlock, Block, at_fault, at_end_mark, at_rejected_line, at_closing_line, one_more}
use Rattle.expand65.specs.declared.blocks.BlockKind.{BlockKind}
use Rattle.expand65.specs.State.{IsCondition, EnvironmentView, State, ExpansionStep, finishes, parses, decides, reads_line, reads_block, searches, StepResult, continues, yields, ends, raises, and_then_result}
use Rattle.expand65.specs.Expansion.{StepReaches, Next, statement, nothing, fault, ReachesNext, further, yielded, ended, stopped, first_file, step_from, IsStep}
use Rattle.expand65.specs.Lines.{Item, file_line, body_line, label_rest, elseif_rest, end_mark, RemainingInput, remaining_input, LocatedError, location_at, HasLineTokens, LineAndRest, ReadsNextLine, ReadsFirstItem, line_and_rest}
use Rattle.expand65.specs.declared.line_start.ConditionKind.{ConditionKind}
use Rattle.syntax65.specs.declared.fault.ExpandFault.{ExpandFault}
use Rattle.syntax65.specs.declared.fault.ExpandFault.TheVariants.{NotClosed}
use Rattle.syntax65.specs.declared.source_location.SourceLocation.{SourceLocation}
use Rattle.syntax65.proofs.UniqueLexing.{one_reading}
use Rattle.syntax65.proofs.UniqueParse.{one_parse}

-- two values that are equal to a third are equal
both : {A : Type 0} {x y z : A} → x ≡ z → y ≡ z → x ≡ y
both e f = e ∙ sym f

-- ---- Lines.

one_opened : (i : Item) (q r : Result (List Lexeme) ExpandFault) → HasLineTokens i q → HasLineTokens i r → q ≡ r
one_opened x q r y z = grind (arith, common_steps, one_reading, both)

one_taken : (is : List Item) (r : ℕ) (p : SourceLocation) (a b : LineAndRest) → ReadsFirstItem is r p a → ReadsFirstItem is r p b → a ≡ b
one_taken [] r p a b h k = both h k
one_taken (end_mark m ∷ is) r p a b h k = both h k
one_taken (file_line n bytes ∷ is) zero p a b h k = both h k
one_taken (file_line n bytes ∷ is) (suc r) p a b (q, o, e) (s, u, f) = e ∙ ap (λ x. line_and_rest x (remaining_input is r (location_at p n))) (one_opened (file_line n bytes) q s o u) ∙ sym f
one_taken (body_line x ts ∷ is) zero p a b h k = both h k
one_taken (body_line x ts ∷ is) (suc r) p a b (q, o, e) (s, u, f) = e ∙ ap (λ y. line_and_rest y (remaining_input is r p)) (one_opened (body_line x ts) q s o u) ∙ sym f
one_taken (label_rest ts ∷ is) zero p a b h k = both h k
one_taken (label_rest ts ∷ is) (suc r) p a b (q, o, e) k = absurd o
one_taken (elseif_rest ts ∷ is) zero p a b h k = both h k
one_taken (elseif_rest ts ∷ is) (suc r) p a b (q, o, e) k = absurd o

-- ---- Blocks.

abbrev AfterLine : BlockKind → Verdict → List (List Lexeme) → List Lexeme → RemainingInput → Result (CompleteBlock × RemainingInput) LocatedError → Type 0
AfterLine k (still_open c) body ts m r = Block k c (with_line k body ts) m r
AfterLine k (closed b) body ts m r = r ≡ Ok ((body, b), m)
AfterLine k (rejected f) body ts m r = r ≡ Err (f, m.place)

abbrev After : BlockKind → ℕ → List (List Lexeme) → LineAndRest → Result (CompleteBlock × RemainingInput) LocatedError → Type 0
After k d body (Err e) r = r ≡ Err e
After k d body (Ok (None, m)) r = r ≡ Err (NotClosed, m.place)
After k d body (Ok (Some ts, m)) r = AfterLine k (line_verdict k d ts) body ts m r

opened_block : (k : BlockKind) (d : ℕ) (body : List (List Lexeme)) (l : RemainingInput) (r : Result (CompleteBlock × RemainingInput) LocatedError) → Block k d body l r → (t : LineAndRest) × ReadsNextLine l t × After k d body t r
opened_block k _ _ _ _ (at_fault d body l e t) = (Err e, t, refl)
opened_block k _ _ _ _ (at_end_mark d body l m t) = (Ok (None, m), t, refl)
opened_block k _ _ _ _ (at_rejected_line d body l m ts f t e) = (Ok (Some ts, m), t, subst (λ v. AfterLine k v body ts m (Err (f, m.place))) (sym e) refl)
opened_block k _ _ _ _ (at_closing_line d body l m ts b t e) = (Ok (Some ts, m), t, subst (λ v. AfterLine k v body ts m (Ok ((body, b), m))) (sym e) refl)
opened_block k _ _ _ _ (one_more d c body l m ts r t e h) = (Ok (Some ts, m), t, subst (λ v. AfterLine k v body ts m r) (sym e) h)

after_taken : (k : BlockKind) (d : ℕ) (body : List (List Lexeme)) (l : RemainingInput) (t : LineAndRest) (r : Result (CompleteBlock × RemainingInput) LocatedError) → ReadsNextLine l t → Block k d body l r → After k d body t r
after_taken k d body l t r h b =
    let o = opened_block k d body l r b in
    subst (λ x. After k d body x r) (one_taken l.items l.room l.place o.0 t o.1 h) o.2

one_block : (k : BlockKind) (d : ℕ) (body : List (List Lexeme)) (l : RemainingInput) (q r : Result (CompleteBlock × RemainingInput) LocatedError) → Block k d body l q → Block k d body l r → q ≡ r
one_block k d body l q r (at_fault _ _ _ e t) b = sym (after_taken k d body l (Err e) r t b)
one_block k d body l q r (at_end_mark _ _ _ m t) b = sym (after_taken k d body l (Ok (None, m)) r t b)
one_block k d body l q r (at_rejected_line _ _ _ m ts f t e) b = sym (subst (λ v. AfterLine k v body ts m r) e (after_taken k d body l (Ok (Some ts, m)) r t b))
one_block k d body l q r (at_closing_line _ _ _ m ts x t e) b = sym (subst (λ v. AfterLine k v body ts m r) e (after_taken k d body l (Ok (Some ts, m)) r t b))
one_block k d body l q r (one_more _ c _ _ m ts _ t e h) b = one_block k c (with_line k body ts) m q r h (subst (λ v. AfterLine k v body ts m r) e (after_taken k d body l (Ok (Some ts, m)) r t b))

-- ---- Conditions.

one_condition : (k : EnvironmentView) (test : ConditionKind) (ts : List Lexeme) (a b : Result Bool ExpandFault) → IsCondition k test ts a → IsCondition k test ts b → a ≡ b
one_condition k x ts a b y z = grind (arith, common_steps, one_parse, both)

-- ---- Steps.

one_led : (m : Files) (step : ExpansionStep) (a b : StepResult) → StepReaches m step a → StepReaches m step b → a ≡ b
one_led m (finishes x) a b h j = both h j
one_led m (parses ts next) a b (q, p, h) (r, o, j) = one_led m (next q) a b h (subst (λ z. StepReaches m (next z) b) (one_parse ts r q o p) j)
one_led m (decides k test ts next) a b (c, p, h) (d, o, j) = one_led m (next c) a b h (subst (λ z. StepReaches m (next z) b) (one_condition k test ts d c o p) j)
one_led m (reads_line l next) a b (t, p, h) (u, o, j) = one_led m (next t) a b h (subst (λ z. StepReaches m (next z) b) (one_taken l.items l.room l.place u t o p) j)
one_led m (reads_block k l next) a b (q, p, h) (r, o, j) = h ∙ ap (λ z. and_then_result z (λ x. next x.0 x.1)) (one_block k 0 [] l q r p o) ∙ sym j
one_led m (searches l names next) a b h j = one_led m (next (first_file m names)) a b h j

pub one_step : (m : Files) (k : EnvironmentView) (s : State) (a b : StepResult) → IsStep m k s a → IsStep m k s b → a ≡ b
unfolding IsStep
one_step m k s a b h j = one_led m (step_from k s s.left.items) a b h j

-- ---- The next statement, end or error.

pub one_next : (m : Files) (k : EnvironmentView) (s : State) (a b : Next) → ReachesNext m k s a → ReachesNext m k s b → a ≡ b
one_next m k s a b (further _ t _ e r) q = by b q (λ c. one_next m k t a c r)
  where
    by : (b : Next) → ReachesNext m k s b → ((c : Next) → ReachesNext m k t c → a ≡ c) → a ≡ b
    by b (further _ u _ f q) ih = let x = one_step m k s (continues t) (continues u) e f in let same : u ≡ t = cc in (let P : State → Type 0 = λ z. ReachesNext m k z b in ih b (subst P same q))
    by b (yielded _ u x f) ih = let y = one_step m k s (continues t) (yields x u) e f in absurd (cc)
    by b (ended _ u f) ih = let y = one_step m k s (continues t) (ends u) e f in absurd (cc)
    by b (stopped _ u f) ih = let y = one_step m k s (continues t) (raises u) e f in absurd (cc)
one_next m k s a b (yielded _ t x e) q = by b q
  where
    by : (b : Next) → ReachesNext m k s b → statement x t ≡ b
    by b (further _ u _ f q) = let y = one_step m k s (yields x t) (continues u) e f in absurd (cc)
    by b (yielded _ u z f) = let y = one_step m k s (yields x t) (yields z u) e f in cc
    by b (ended _ u f) = let y = one_step m k s (yields x t) (ends u) e f in absurd (cc)
    by b (stopped _ u f) = let y = one_step m k s (yields x t) (raises u) e f in absurd (cc)
one_next m k s a b (ended _ t e) q = by b q
  where
    by : (b : Next) → ReachesNext m k s b → nothing t ≡ b
    by b (further _ u _ f q) = let y = one_step m k s (ends t) (continues u) e f in absurd (cc)
    by b (yielded _ u z f) = let y = one_step m k s (ends t) (yields z u) e f in absurd (cc)
    by b (ended _ u f) = let y = one_step m k s (ends t) (ends u) e f in cc
    by b (stopped _ u f) = let y = one_step m k s (ends t) (raises u) e f in absurd (cc)
one_next m k s a b (stopped _ t e) q = by b q
  where
    by : (b : Next) → ReachesNext m k s b → fault t ≡ b
    by b (further _ u _ f q) = let y = one_step m k s (raises t) (continues u) e f in absurd (cc)
    by b (yielded _ u z f) = let y = one_step m k s (raises t) (yields z u) e f in absurd (cc)
    by b (ended _ u f) = let y = one_step m k s (raises t) (ends u) e f in absurd (cc)
    by b (stopped _ u f) = let y = one_step m k s (raises t) (raises u) e f in cc
