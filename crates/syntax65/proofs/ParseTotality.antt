-- Any tokens have a parse result: at each level a phrase that no operator follows, or a first error.
use Rattle.std.proofs.Common.{◌≡◌, ◌≢◌, inl, inr, ℕ, zero, suc, ◌+◌, ◌<◌, ◌≤◌, Bool, true, false, List, [], ◌∷◌, length, Option, Some, None, refl, sym, ap, subst, ◌∙◌, arith}
use Rattle.std.specs.Prelude.{Result, Ok, Err, ⊤}
use Rattle.syntax65.specs.Tokens.{Lexeme}
use Rattle.syntax65.specs.Trees.{Tree, number, here, name, cheap, forward, backward, unary, binary}
use Rattle.syntax65.specs.Expressions.{AreNames, level_of, operand_start_at, binary_at, text_at, leaf_of, closes_at, HasParts, last_part, next_part, no_part, after_part, Phrase, a_leaf, a_name, a_global, prefixed, enclosed, of_level, joined, negated, HasNoOperator, PhraseFailsAt, BeginsOperand, OpensLevel, no_operand, no_name, no_global, too_deep, in_prefixed, in_enclosed, not_closed, in_first, in_next, negation_too_deep, in_negated, IsLevel, IsPhrase}
use Rattle.base65.specs.SystemErrors.{IsNoSystemError}
use Rattle.syntax65.specs.Faults.{is_expr_system_error}
use Rattle.syntax65.specs.Laws.{ParseExists}
use Rattle.base65.specs.declared.values.Op1.{Op1}
use Rattle.base65.specs.declared.values.Op1.TheVariants.{Not}
use Rattle.base65.specs.declared.values.Op2.{Op2}
use Rattle.syntax65.specs.declared.expressions.operators.OperandStart.{OperandStart}
use Rattle.syntax65.specs.declared.expressions.operators.OperandStart.TheVariants.{Number, Here, Cheap, Forward, Backward, Name, Scope, Prefix, Parenthesis, Negation, Nothing}
use Rattle.syntax65.specs.declared.expressions.operators.ExprFault.{ExprFault}
use Rattle.syntax65.specs.declared.expressions.operators.ExprFault.TheVariants.{OperandExpected, ParenthesisExpected, TooDeep}
use Rattle.syntax65.proofs.Phrases.{level_zero, whole_phrase}
use Rattle.syntax65.proofs.LexingTotality.{Decided, is_same}

-- ---- Decidable properties of tokens.

is_name : (o : OperandStart) → Decided (o ≡ Name)
is_name Name = inl refl
is_name _ = inr (λ e. cc)

is_scope : (o : OperandStart) → Decided (o ≡ Scope)
is_scope Scope = inl refl
is_scope _ = inr (λ e. cc)

is_negation : (o : OperandStart) → Decided (o ≡ Negation)
is_negation Negation = inl refl
is_negation _ = inr (λ e. cc)

opens_inside : (ts : List Lexeme) (i : ℕ) → operand_start_at ts i ≢ Nothing → i < length ts
opens_inside [] i h = absurd (h refl)
opens_inside (t ∷ ts) zero h = omega arith
opens_inside (t ∷ ts) (suc i) h = omega (arith, opens_inside ts i h)

joins_inside : (ts : List Lexeme) (i : ℕ) (op : Op2) → binary_at ts i ≡ Some op → i < length ts
joins_inside [] i op h = absurd (cc)
joins_inside (t ∷ ts) zero op h = omega arith
joins_inside (t ∷ ts) (suc i) op h = omega (arith, joins_inside ts i op h)

-- ---- Names.

abbrev HasNames : List Lexeme → ℕ → Type 0
HasNames ts i = (q : Result (List (List ℕ) × ℕ) ExprFault) × AreNames ts i q

more_names : (ts : List Lexeme) (i : ℕ) → operand_start_at ts i ≡ Name → operand_start_at ts (i + 1) ≡ Scope → (q : Result (List (List ℕ) × ℕ) ExprFault) → AreNames ts (i + 2) q → HasNames ts i
more_names ts i h scope (Ok x) n = (Ok (text_at ts i ∷ x.0, x.1), next_part i x.1 x.0 h scope n)
more_names ts i h scope (Err f) n = (Err OperandExpected, (refl, (n.1.0, after_part i n.1.0 h scope n.1.1)))

names_from : (size : ℕ) (ts : List Lexeme) (i : ℕ) → length ts ≤ size + i → HasNames ts i
names_from zero ts i le = by (is_name (operand_start_at ts i))
  where
    by : Decided (operand_start_at ts i ≡ Name) → HasNames ts i
    by (inl h) = absurd (omega (arith, opens_inside ts i (λ e. cc)))
    by (inr never) = (Err OperandExpected, (refl, (i, no_part i never)))
names_from (suc size) ts i le = by (is_name (operand_start_at ts i)) (is_scope (operand_start_at ts (i + 1))) (names_from size ts (i + 2) (omega arith))
  where
    by : Decided (operand_start_at ts i ≡ Name) → Decided (operand_start_at ts (i + 1) ≡ Scope) → HasNames ts (i + 2) → HasNames ts i
    by (inr never) s more = (Err OperandExpected, (refl, (i, no_part i never)))
    by (inl h) (inr stop) more = (Ok (text_at ts i ∷ [], i + 1), last_part i h stop)
    by (inl h) (inl scope) more = more_names ts i h scope more.0 more.1

names_at : (ts : List Lexeme) (i : ℕ) → HasNames ts i
names_at ts i = names_from (length ts) ts i (omega arith)

-- ---- Phrases aren't empty.

parts_go_on : (ts : List Lexeme) (i j : ℕ) (p : List (List ℕ)) → HasParts ts i j p → i < j
parts_go_on ts _ _ _ (last_part i h stop) = omega arith
parts_go_on ts _ _ _ (next_part i j p h scope n) = omega (arith, parts_go_on ts (i + 2) j p n)

phrase_goes_on : (ts : List Lexeme) (depth_left n i j : ℕ) (t : Tree) → Phrase ts depth_left n i j t → i < j
phrase_goes_on ts _ _ _ _ _ (a_leaf depth_left i t h) = omega arith
phrase_goes_on ts _ _ _ _ _ (a_name depth_left i j p h) = parts_go_on ts i j p h
phrase_goes_on ts _ _ _ _ _ (a_global depth_left i j p h n) = omega (arith, parts_go_on ts (i + 1) j p n)
phrase_goes_on ts _ _ _ _ _ (prefixed depth_left i j op t h p) = omega (arith, phrase_goes_on ts depth_left 0 (i + 1) j t p)
phrase_goes_on ts _ _ _ _ _ (enclosed depth_left i j t h p c) = omega (arith, phrase_goes_on ts depth_left 6 (i + 1) j t p)
phrase_goes_on ts _ _ _ _ _ (of_level depth_left n i j t p) = phrase_goes_on ts depth_left n i j t p
phrase_goes_on ts _ _ _ _ _ (joined depth_left n i j k op t u p at level q) = omega (arith, phrase_goes_on ts depth_left (n + 1) i j t p, phrase_goes_on ts depth_left n (j + 1) k u q)
phrase_goes_on ts _ _ _ _ _ (negated depth_left i j t h p) = omega (arith, phrase_goes_on ts depth_left 6 (i + 1) j t p)

-- ---- Levels.

abbrev Answer : Type 0
Answer = Result (Tree × ℕ) ExprFault

abbrev HasLevel : List Lexeme → (depth_left n i : ℕ) → Type 0
HasLevel ts depth_left n i = (r : Answer) × IsLevel ts depth_left n i r

-- the results with one nesting level fewer, if any remains
abbrev Inside : List Lexeme → ℕ → Type 0
Inside ts zero = ⊤
Inside ts (suc depth_left) = (i : ℕ) → HasLevel ts depth_left 0 i × HasLevel ts depth_left 6 i

leaf : (ts : List Lexeme) (depth_left i : ℕ) (o : OperandStart) (t : Tree) → operand_start_at ts i ≡ o → leaf_of o (text_at ts i) ≡ Some t → HasLevel ts depth_left 0 i
leaf ts depth_left i o t e h = (Ok (t, i + 1), record { phrase = a_leaf depth_left i t (ap (λ p. leaf_of p (text_at ts i)) e ∙ h); ends = level_zero ts (i + 1) })

nothing : (ts : List Lexeme) (depth_left i : ℕ) (o : OperandStart) → operand_start_at ts i ≡ o → (BeginsOperand o → ⊥) → HasLevel ts depth_left 0 i
nothing ts depth_left i o e never = (Err OperandExpected, (i, no_operand depth_left i (λ h. never (subst BeginsOperand e h))))

one_name : (ts : List Lexeme) (depth_left i : ℕ) → operand_start_at ts i ≡ Name → (q : Result (List (List ℕ) × ℕ) ExprFault) → AreNames ts i q → HasLevel ts depth_left 0 i
one_name ts depth_left i h (Ok x) n = (Ok (name false x.0, x.1), record { phrase = a_name depth_left i x.1 x.0 n; ends = level_zero ts x.1 })
one_name ts depth_left i h (Err f) n = (Err OperandExpected, (n.1.0, no_name depth_left i n.1.0 h n.1.1))

global_name : (ts : List Lexeme) (depth_left i : ℕ) → operand_start_at ts i ≡ Scope → (q : Result (List (List ℕ) × ℕ) ExprFault) → AreNames ts (i + 1) q → HasLevel ts depth_left 0 i
global_name ts depth_left i h (Ok x) n = (Ok (name true x.0, x.1), record { phrase = a_global depth_left i x.1 x.0 h n; ends = level_zero ts x.1 })
global_name ts depth_left i h (Err f) n = (Err OperandExpected, (n.1.0, no_global depth_left i n.1.0 h n.1.1))

one_more : (depth_left : ℕ) → depth_left + 1 ≡ suc depth_left
one_more depth_left = omega arith

following_prefix : (ts : List Lexeme) (depth_left i : ℕ) (op : Op1) → operand_start_at ts i ≡ Prefix op → (r : Answer) → IsLevel ts depth_left 0 (i + 1) r → HasLevel ts (depth_left + 1) 0 i
following_prefix ts depth_left i op e (Ok x) p = (Ok (unary op x.0, x.1), record { phrase = prefixed depth_left i x.1 op x.0 e p.phrase; ends = p.ends })
following_prefix ts depth_left i op e (Err f) (k, s) = (Err f, (k, in_prefixed depth_left i k op f e s))

by_prefix : (ts : List Lexeme) (depth_left i : ℕ) (op : Op1) → operand_start_at ts i ≡ Prefix op → Inside ts depth_left → HasLevel ts depth_left 0 i
by_prefix ts zero i op e inside = (Err TooDeep, (i, too_deep i (subst OpensLevel (sym e) tt)))
by_prefix ts (suc depth_left) i op e inside =
    let r = (inside (i + 1)).0 in
    subst (λ (m : ℕ). HasLevel ts m 0 i) (one_more depth_left) (following_prefix ts depth_left i op e r.0 r.1)

closed : (ts : List Lexeme) (depth_left i j : ℕ) (t : Tree) → operand_start_at ts i ≡ Parenthesis → IsPhrase ts depth_left 6 (i + 1) j t → (b : Bool) → closes_at ts j ≡ b → HasLevel ts (depth_left + 1) 0 i
closed ts depth_left i j t e p true c = (Ok (t, j + 1), record { phrase = enclosed depth_left i j t e p.phrase c; ends = level_zero ts (j + 1) })
closed ts depth_left i j t e p false c = (Err ParenthesisExpected, (j, not_closed depth_left i j t e p.phrase p.ends c))

after_parenthesis : (ts : List Lexeme) (depth_left i : ℕ) → operand_start_at ts i ≡ Parenthesis → (r : Answer) → IsLevel ts depth_left 6 (i + 1) r → HasLevel ts (depth_left + 1) 0 i
after_parenthesis ts depth_left i e (Ok x) p = closed ts depth_left i x.1 x.0 e p (closes_at ts x.1) refl
after_parenthesis ts depth_left i e (Err f) (k, s) = (Err f, (k, in_enclosed depth_left i k f e s))

by_parenthesis : (ts : List Lexeme) (depth_left i : ℕ) → operand_start_at ts i ≡ Parenthesis → Inside ts depth_left → HasLevel ts depth_left 0 i
by_parenthesis ts zero i e inside = (Err TooDeep, (i, too_deep i (subst OpensLevel (sym e) tt)))
by_parenthesis ts (suc depth_left) i e inside =
    let r = (inside (i + 1)).1 in
    subst (λ (m : ℕ). HasLevel ts m 0 i) (one_more depth_left) (after_parenthesis ts depth_left i e r.0 r.1)

by_opening : (ts : List Lexeme) (depth_left i : ℕ) → Inside ts depth_left → (o : OperandStart) → operand_start_at ts i ≡ o → HasLevel ts depth_left 0 i
by_opening ts depth_left i inside (Number v) e = leaf ts depth_left i (Number v) (number v) e refl
by_opening ts depth_left i inside Here e = leaf ts depth_left i Here here e refl
by_opening ts depth_left i inside Cheap e = leaf ts depth_left i Cheap (cheap (text_at ts i)) e refl
by_opening ts depth_left i inside (Forward n) e = leaf ts depth_left i (Forward n) (forward n) e refl
by_opening ts depth_left i inside (Backward n) e = leaf ts depth_left i (Backward n) (backward n) e refl
by_opening ts depth_left i inside Name e = let q = names_at ts i in one_name ts depth_left i e q.0 q.1
by_opening ts depth_left i inside Scope e = let q = names_at ts (i + 1) in global_name ts depth_left i e q.0 q.1
by_opening ts depth_left i inside (Prefix op) e = by_prefix ts depth_left i op e inside
by_opening ts depth_left i inside Parenthesis e = by_parenthesis ts depth_left i e inside
by_opening ts depth_left i inside Negation e = nothing ts depth_left i Negation e (λ h. h)
by_opening ts depth_left i inside Nothing e = nothing ts depth_left i Nothing e (λ h. h)

-- ---- The operators of a level, from left to right.

module _ (ts : List Lexeme) (depth_left n : ℕ) (lower : (i : ℕ) → HasLevel ts depth_left n i) where
  -- no operator of this level follows: there is none, or one of another level
  none_at : (j : ℕ) → binary_at ts j ≡ None → HasNoOperator ts (n + 1) j
  none_at j e op at = cc

  other_at : (j : ℕ) (op : Op2) → HasNoOperator ts n j → binary_at ts j ≡ Some op → level_of op ≢ n + 1 → HasNoOperator ts (n + 1) j
  other_at j op ends e other op' at =
      let same : op ≡ op' = cc in
      let above : n < level_of op = ends op e in
      let more : n + 1 < level_of op = omega (arith, above, other) in
      subst (λ (p : Op2). n + 1 < level_of p) same more

  same_level : (op : Op2) → Decided (level_of op ≡ n + 1)
  same_level op = is_same (level_of op) (n + 1)

  -- the induction hypothesis: if a phrase of this level ends at most `size` tokens before the end, the level has a result
  abbrev GoesOn : ℕ → ℕ → Type 0
  GoesOn size i = (k : ℕ) (u : Tree) → Phrase ts depth_left (n + 1) i k u → HasNoOperator ts n k → length ts ≤ size + k → HasLevel ts depth_left (n + 1) i

  rest_of : (size i j : ℕ) (t : Tree) → Phrase ts depth_left (n + 1) i j t → HasNoOperator ts n j → length ts ≤ size + j → HasLevel ts depth_left (n + 1) i
  rest_of zero i j t p ends le = by (binary_at ts j) refl
    where
      by : (o : Option Op2) → binary_at ts j ≡ o → HasLevel ts depth_left (n + 1) i
      by None e = (Ok (t, j), record { phrase = p; ends = none_at j e })
      by (Some op) e = absurd (omega (arith, joins_inside ts j op e))
  rest_of (suc size) i j t p ends le = by (binary_at ts j) refl (λ k u. rest_of size i k u) (lower (j + 1))
    where
      next : (op : Op2) → binary_at ts j ≡ Some op → level_of op ≡ n + 1 → GoesOn size i → (r : Answer) → IsLevel ts depth_left n (j + 1) r → HasLevel ts depth_left (n + 1) i
      next op e level more (Ok x) q =
          let on = phrase_goes_on ts depth_left n (j + 1) x.1 x.0 q.phrase in
          more x.1 (binary op t x.0) (joined depth_left n i j x.1 op t x.0 p e level q.phrase) q.ends (omega arith)
      next op e level more (Err f) (k, s) = (Err f, (k, in_next depth_left n i j k op t f p e level s))

      joins : (op : Op2) → binary_at ts j ≡ Some op → Decided (level_of op ≡ n + 1) → GoesOn size i → HasLevel ts depth_left n (j + 1) → HasLevel ts depth_left (n + 1) i
      joins op e (inl level) more right = next op e level more right.0 right.1
      joins op e (inr other) more right = (Ok (t, j), record { phrase = p; ends = other_at j op ends e other })

      by : (o : Option Op2) → binary_at ts j ≡ o → GoesOn size i → HasLevel ts depth_left n (j + 1) → HasLevel ts depth_left (n + 1) i
      by None e more right = (Ok (t, j), record { phrase = p; ends = none_at j e })
      by (Some op) e more right = joins op e (same_level op) more right

  next_level : n ≤ 4 → (i : ℕ) → HasLevel ts depth_left (n + 1) i
  next_level le i = by (lower i)
    where
      of : (r : Answer) → IsLevel ts depth_left n i r → HasLevel ts depth_left (n + 1) i
      of (Ok x) p = rest_of (length ts) i x.1 x.0 (of_level depth_left n i x.1 x.0 p.phrase) p.ends (omega arith)
      of (Err f) (k, s) = (Err f, (k, in_first depth_left n i k f (λ five. absurd (omega arith)) s))

      by : HasLevel ts depth_left n i → HasLevel ts depth_left (n + 1) i
      by r = of r.0 r.1

levels : (ts : List Lexeme) (depth_left : ℕ) → Inside ts depth_left → (n : ℕ) → n ≤ 5 → (i : ℕ) → HasLevel ts depth_left n i
levels ts depth_left inside zero le i = by_opening ts depth_left i inside (operand_start_at ts i) refl
levels ts depth_left inside (suc n) le i = subst (λ (m : ℕ). HasLevel ts depth_left m i) (one_more n) (next_level ts depth_left n (λ j. levels ts depth_left inside n (omega arith) j) (omega arith) i)

-- ---- Complete expressions.

after_negation : (ts : List Lexeme) (depth_left i : ℕ) → operand_start_at ts i ≡ Negation → (r : Answer) → IsLevel ts depth_left 6 (i + 1) r → HasLevel ts (depth_left + 1) 6 i
after_negation ts depth_left i e (Ok x) p = (Ok (unary Not x.0, x.1), record { phrase = negated depth_left i x.1 x.0 e p.phrase; ends = p.ends })
after_negation ts depth_left i e (Err f) (k, s) = (Err f, (k, in_negated depth_left i k f e s))

by_negation : (ts : List Lexeme) (depth_left i : ℕ) → operand_start_at ts i ≡ Negation → Inside ts depth_left → HasLevel ts depth_left 6 i
by_negation ts zero i e inside = (Err TooDeep, (i, negation_too_deep i e))
by_negation ts (suc depth_left) i e inside =
    let r = (inside (i + 1)).1 in
    subst (λ (m : ℕ). HasLevel ts m 6 i) (one_more depth_left) (after_negation ts depth_left i e r.0 r.1)

plain : (ts : List Lexeme) (depth_left i : ℕ) → operand_start_at ts i ≢ Negation → (r : Answer) → IsLevel ts depth_left 5 i r → HasLevel ts depth_left 6 i
plain ts depth_left i never (Ok x) p = (Ok x, whole_phrase ts depth_left i x.1 x.0 p)
plain ts depth_left i never (Err f) (k, s) = (Err f, (k, in_first depth_left 5 i k f (λ five. never) s))

whole : (ts : List Lexeme) (depth_left : ℕ) → Inside ts depth_left → (i : ℕ) → HasLevel ts depth_left 6 i
whole ts depth_left inside i = by (is_negation (operand_start_at ts i))
  where
    by : Decided (operand_start_at ts i ≡ Negation) → HasLevel ts depth_left 6 i
    by (inl e) = by_negation ts depth_left i e inside
    by (inr never) = let r = levels ts depth_left inside 5 (omega arith) i in plain ts depth_left i never r.0 r.1

inside_of : (ts : List Lexeme) (depth_left : ℕ) → Inside ts depth_left
inside_of ts zero = tt
inside_of ts (suc depth_left) = λ i. (levels ts depth_left (inside_of ts depth_left) 0 (omega arith) i, whole ts depth_left (inside_of ts depth_left) i)

-- no error is `OutOfMemory`
stops_own : (ts : List Lexeme) (depth_left n i k : ℕ) (f : ExprFault) → PhraseFailsAt ts depth_left n i k f → is_expr_system_error f ≡ false
stops_own ts _ _ _ _ _ (no_operand depth_left i h) = refl
stops_own ts _ _ _ _ _ (no_name depth_left i k h l) = refl
stops_own ts _ _ _ _ _ (no_global depth_left i k h l) = refl
stops_own ts _ _ _ _ _ (too_deep i h) = refl
stops_own ts _ _ _ _ _ (in_prefixed depth_left i k op f h s) = stops_own ts depth_left 0 (i + 1) k f s
stops_own ts _ _ _ _ _ (in_enclosed depth_left i k f h s) = stops_own ts depth_left 6 (i + 1) k f s
stops_own ts _ _ _ _ _ (not_closed depth_left i j t h p ends c) = refl
stops_own ts _ _ _ _ _ (in_first depth_left n i k f h s) = stops_own ts depth_left n i k f s
stops_own ts _ _ _ _ _ (in_next depth_left n i j k op t f p at level s) = stops_own ts depth_left n (j + 1) k f s
stops_own ts _ _ _ _ _ (negation_too_deep i h) = refl
stops_own ts _ _ _ _ _ (in_negated depth_left i k f h s) = stops_own ts depth_left 6 (i + 1) k f s

level_own : (ts : List Lexeme) (depth_left n i : ℕ) (r : Answer) → IsLevel ts depth_left n i r → IsNoSystemError is_expr_system_error r
level_own ts depth_left n i (Ok x) p = tt
level_own ts depth_left n i (Err f) (k, s) = stops_own ts depth_left n i k f s

pub some_parse : ParseExists
some_parse ts = let r = whole ts 64 (inside_of ts 64) 0 in (r.0, r.1, level_own ts 64 6 0 r.0 r.1)
