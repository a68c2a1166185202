-- Tokens have at most one parse result: each phrase and each error is a result of reading from left to right.
use Rattle.std.proofs.lemmas.Grind.{common_steps}
use Rattle.std.proofs.Common.{◌≡◌, ◌≢◌, ℕ, zero, suc, ◌+◌, ◌<◌, ◌≤◌, true, false, List, Option, Some, None, refl, sym, ap, subst, ◌∙◌, arith}
use Rattle.std.specs.Prelude.{slice_get, option_and_then, Ok, Err}
use Rattle.std.specs.Option.{option_map_or}
use Rattle.syntax65.specs.Tokens.{Lexeme}
use Rattle.syntax65.specs.Expressions.{level_of, operand_start_at, binary_at, binary_of, text_at, leaf_of, is_close, closes_at, HasParts, Phrase, a_leaf, a_name, a_global, prefixed, enclosed, of_level, joined, negated, HasNoOperator, PhraseFailsAt, no_operand, no_name, no_global, too_deep, in_prefixed, in_enclosed, not_closed, in_first, in_next, negation_too_deep, in_negated, IsParsed}
use Rattle.syntax65.specs.Trees.{Tree, name, unary, binary}
use Rattle.base65.specs.declared.values.Op1.TheVariants.{Not}
use Rattle.syntax65.specs.declared.expressions.operators.OperandStart.{OperandStart}
use Rattle.syntax65.specs.declared.expressions.operators.OperandStart.TheVariants.{Name, Negation}
use Rattle.syntax65.specs.declared.expressions.operators.ExprFault.{ExprFault}
use Rattle.syntax65.specs.declared.expressions.operators.ExprFault.TheVariants.{OperandExpected, ParenthesisExpected}
use Rattle.syntax65.proofs.Phrases.{low_level}
use Rattle.syntax65.proofs.LeftToRight.{Answer, whole_at, level_at, rest_at, Run, r_leaf, r_name, r_global, r_none, r_deep, r_prefix, r_enclosed, r_first, r_lost, r_end, r_next, r_next_lost, r_plain, r_negated, r_negation_deep, closed, one_answer}

close_token : (o : Option Lexeme) → option_map_or (λ t. is_close t.0) o false ≡ true → option_and_then (λ t. binary_of t.0 t.1) o ≡ None
close_token x h = grind (arith, common_steps)

close_quiet : (ts : List Lexeme) (n j : ℕ) → closes_at ts j ≡ true → HasNoOperator ts n j
close_quiet ts n j h = λ op at. (let none : binary_at ts j ≡ None = close_token (slice_get ts j) h in absurd (cc))

parts_begin : (ts : List Lexeme) (i j : ℕ) (p : List (List ℕ)) → HasParts ts i j p → operand_start_at ts i ≡ Name
parts_begin ts x y z u = grind (arith, common_steps)

leaf_is_plain : (o : OperandStart) (text : List ℕ) (t : Tree) → leaf_of o text ≡ Some t → o ≢ Negation
leaf_is_plain o text t h e = let none : leaf_of o text ≡ None = ap (λ x. leaf_of x text) e in cc

-- a phrase of level 5 or less doesn't begin with a negation
phrase_is_plain : (ts : List Lexeme) (depth_left n i j : ℕ) (t : Tree) → Phrase ts depth_left n i j t → n ≤ 5 → operand_start_at ts i ≢ Negation
phrase_is_plain ts _ _ _ _ _ (a_leaf depth_left i t h) le = leaf_is_plain (operand_start_at ts i) (text_at ts i) t h
phrase_is_plain ts _ _ _ _ _ (a_name depth_left i j p h) le = λ e. (let n : operand_start_at ts i ≡ Name = parts_begin ts i j p h in cc)
phrase_is_plain ts _ _ _ _ _ (a_global depth_left i j p h n) le = λ e. cc
phrase_is_plain ts _ _ _ _ _ (prefixed depth_left i j op t h p) le = λ e. cc
phrase_is_plain ts _ _ _ _ _ (enclosed depth_left i j t h p c) le = λ e. cc
phrase_is_plain ts _ _ _ _ _ (of_level depth_left n i j t p) le = phrase_is_plain ts depth_left n i j t p (omega arith)
phrase_is_plain ts _ _ _ _ _ (joined depth_left n i j k op t u p at level q) le = phrase_is_plain ts depth_left (n + 1) i j t p le
phrase_is_plain ts _ _ _ _ _ (negated depth_left i j t h p) le = absurd (omega arith)

-- the phrase is read: each result of reading the rest after the phrase is a result of reading the level
abbrev Whole : List Lexeme → ℕ → ℕ → ℕ → ℕ → Tree → Type 0
Whole ts depth_left zero i j t = Run ts (level_at depth_left 0 i) (Ok (t, j))
Whole ts depth_left (suc n) i j t =
    (n < 5 → (r : Answer) → Run ts (rest_at depth_left (suc n) t j) r → Run ts (level_at depth_left (suc n) i) r)
    × (n ≡ 5 → HasNoOperator ts 6 j → Run ts (whole_at depth_left i) (Ok (t, j)))

-- a phrase of a level is read if no operator of that level follows
read_level : (ts : List Lexeme) (depth_left n i j : ℕ) (t : Tree) → n ≤ 5 → Whole ts depth_left n i j t → HasNoOperator ts n j → Run ts (level_at depth_left n i) (Ok (t, j))
read_level ts depth_left zero i j t le w h = w
read_level ts depth_left (suc n) i j t le w h = w.0 (omega arith) (Ok (t, j)) (r_end depth_left n j t h)

quiet : (ts : List Lexeme) (depth_left n j : ℕ) (t : Tree) (r : Answer) → Run ts (rest_at depth_left (suc n) t j) r → HasNoOperator ts n j
quiet ts _ _ _ _ _ (r_end depth_left n j t h) = λ op at. omega (arith, h op at)
quiet ts _ _ _ _ _ (r_next depth_left n j op t x r at level p g) = λ op' at'. (let same : op ≡ op' = cc in omega (arith, level, ap level_of same))
quiet ts _ _ _ _ _ (r_next_lost depth_left n j op t f at level p) = λ op' at'. (let same : op ≡ op' = cc in omega (arith, level, ap level_of same))

tighter : (ts : List Lexeme) (m n j : ℕ) → n ≤ m → HasNoOperator ts m j → HasNoOperator ts n j
tighter ts m n j le h = λ op at. omega (arith, h op at)

closed_yes : (ts : List Lexeme) (t : Tree) (j : ℕ) → closes_at ts j ≡ true → Ok (t, j + 1) ≡ closed ts (t, j)
closed_yes ts t j h = rw h refl

closed_no : (ts : List Lexeme) (t : Tree) (j : ℕ) → closes_at ts j ≡ false → Err ParenthesisExpected ≡ closed ts (t, j)
closed_no ts t j h = rw h refl

whole : (ts : List Lexeme) (depth_left n i j : ℕ) (t : Tree) → Phrase ts depth_left n i j t → Whole ts depth_left n i j t
whole ts _ _ _ _ _ (a_leaf depth_left i t h) = r_leaf depth_left i t h
whole ts _ _ _ _ _ (a_name depth_left i j p h) = r_name depth_left i (Ok (p, j)) (Ok (name false p, j)) (parts_begin ts i j p h) h refl
whole ts _ _ _ _ _ (a_global depth_left i j p h n) = r_global depth_left i (Ok (p, j)) (Ok (name true p, j)) h n refl
whole ts _ _ _ _ _ (prefixed depth_left i j op t h p) =
    let one : suc depth_left ≡ depth_left + 1 = omega arith in
    subst (λ (m : ℕ). Run ts (level_at m 0 i) (Ok (unary op t, j))) one (r_prefix depth_left i op (Ok (t, j)) (Ok (unary op t, j)) h (whole ts depth_left 0 (i + 1) j t p) refl)
whole ts _ _ _ _ _ (enclosed depth_left i j t h p c) =
    let one : suc depth_left ≡ depth_left + 1 = omega arith in
    let inner : Whole ts depth_left 6 (i + 1) j t = whole ts depth_left 6 (i + 1) j t p in
    subst (λ (m : ℕ). Run ts (level_at m 0 i) (Ok (t, j + 1))) one (r_enclosed depth_left i (Ok (t, j)) (Ok (t, j + 1)) h (inner.1 refl (close_quiet ts 6 j c)) (closed_yes ts t j c))
whole ts _ _ _ _ _ (of_level depth_left n i j t p) =
    let one : suc n ≡ n + 1 = omega arith in
    let inner : Whole ts depth_left n i j t = whole ts depth_left n i j t p in
    subst (λ (m : ℕ). Whole ts depth_left m i j t) one (
      λ lt r rest. r_first depth_left n i (t, j) r (read_level ts depth_left n i j t (omega arith) inner (quiet ts depth_left n j t r rest)) rest,
      λ e h. r_plain depth_left i (Ok (t, j)) (phrase_is_plain ts depth_left n i j t p (omega arith)) (subst (λ (m : ℕ). Run ts (level_at depth_left m i) (Ok (t, j))) e (read_level ts depth_left n i j t (omega arith) inner (tighter ts 6 n j (omega arith) h))),
    )
whole ts _ _ _ _ _ (joined depth_left n i j k op t u p at level q) =
    let one : suc n ≡ n + 1 = omega arith in
    let left : Whole ts depth_left (suc n) i j t = subst (λ (m : ℕ). Whole ts depth_left m i j t) (sym one) (whole ts depth_left (n + 1) i j t p) in
    let right : Whole ts depth_left n (j + 1) k u = whole ts depth_left n (j + 1) k u q in
    subst (λ (m : ℕ). Whole ts depth_left m i k (binary op t u)) one (
      λ lt r rest. left.0 lt r (r_next depth_left n j op t (u, k) r at (level ∙ sym one) (read_level ts depth_left n (j + 1) k u (omega arith) right (quiet ts depth_left n k (binary op t u) r rest)) rest),
      λ e h. absurd (omega (arith, level, low_level op)),
    )
whole ts _ _ _ _ _ (negated depth_left i j t h p) =
    let one : suc depth_left ≡ depth_left + 1 = omega arith in
    let inner : Whole ts depth_left 6 (i + 1) j t = whole ts depth_left 6 (i + 1) j t p in (
      λ lt. absurd (omega arith),
      λ e q. subst (λ (m : ℕ). Run ts (whole_at m i) (Ok (unary Not t, j))) one (r_negated depth_left i (Ok (t, j)) (Ok (unary Not t, j)) h (inner.1 refl q) refl),
    )

-- the error of a phrase is the result of reading it
abbrev Lost : List Lexeme → ℕ → ℕ → ℕ → ExprFault → Type 0
Lost ts depth_left n i f = (n ≤ 5 → Run ts (level_at depth_left n i) (Err f)) × (n ≡ 6 → Run ts (whole_at depth_left i) (Err f))

lost : (ts : List Lexeme) (depth_left n i k : ℕ) (f : ExprFault) → PhraseFailsAt ts depth_left n i k f → Lost ts depth_left n i f
lost ts _ _ _ _ _ (no_operand depth_left i h) = (λ le. r_none depth_left i h, λ e. absurd (omega arith))
lost ts _ _ _ _ _ (no_name depth_left i k h l) = (λ le. r_name depth_left i (Err OperandExpected) (Err OperandExpected) h (refl, (k, l)) refl, λ e. absurd (omega arith))
lost ts _ _ _ _ _ (no_global depth_left i k h l) = (λ le. r_global depth_left i (Err OperandExpected) (Err OperandExpected) h (refl, (k, l)) refl, λ e. absurd (omega arith))
lost ts _ _ _ _ _ (too_deep i h) = (λ le. r_deep i h, λ e. absurd (omega arith))
lost ts _ _ _ _ _ (in_prefixed depth_left i k op f h s) =
    let one : suc depth_left ≡ depth_left + 1 = omega arith in (
      λ le. subst (λ (m : ℕ). Run ts (level_at m 0 i) (Err f)) one (r_prefix depth_left i op (Err f) (Err f) h ((lost ts depth_left 0 (i + 1) k f s).0 (omega arith)) refl),
      λ e. absurd (omega arith),
    )
lost ts _ _ _ _ _ (in_enclosed depth_left i k f h s) =
    let one : suc depth_left ≡ depth_left + 1 = omega arith in (
      λ le. subst (λ (m : ℕ). Run ts (level_at m 0 i) (Err f)) one (r_enclosed depth_left i (Err f) (Err f) h ((lost ts depth_left 6 (i + 1) k f s).1 refl) refl),
      λ e. absurd (omega arith),
    )
lost ts _ _ _ _ _ (not_closed depth_left i j t h p q c) =
    let one : suc depth_left ≡ depth_left + 1 = omega arith in
    let inner : Whole ts depth_left 6 (i + 1) j t = whole ts depth_left 6 (i + 1) j t p in (
      λ le. subst (λ (m : ℕ). Run ts (level_at m 0 i) (Err ParenthesisExpected)) one (r_enclosed depth_left i (Ok (t, j)) (Err ParenthesisExpected) h (inner.1 refl q) (closed_no ts t j c)),
      λ e. absurd (omega arith),
    )
lost ts _ _ _ _ _ (in_first depth_left n i k f h s) =
    let one : suc n ≡ n + 1 = omega arith in
    let inner : Lost ts depth_left n i f = lost ts depth_left n i k f s in (
      λ le. subst (λ (m : ℕ). Run ts (level_at depth_left m i) (Err f)) one (r_lost depth_left n i f (inner.0 (omega arith))),
      λ e. (let five : n ≡ 5 = omega arith in r_plain depth_left i (Err f) (h five) (subst (λ (m : ℕ). Run ts (level_at depth_left m i) (Err f)) five (inner.0 (omega arith)))),
    )
lost ts _ _ _ _ _ (in_next depth_left n i j k op t f p at level s) =
    let one : suc n ≡ n + 1 = omega arith in
    let left : Whole ts depth_left (suc n) i j t = subst (λ (m : ℕ). Whole ts depth_left m i j t) (sym one) (whole ts depth_left (n + 1) i j t p) in
    let inner : Lost ts depth_left n (j + 1) f = lost ts depth_left n (j + 1) k f s in (
      λ le. subst (λ (m : ℕ). Run ts (level_at depth_left m i) (Err f)) one (left.0 (omega arith) (Err f) (r_next_lost depth_left n j op t f at (level ∙ sym one) (inner.0 (omega arith)))),
      λ e. absurd (omega (arith, level, low_level op)),
    )
lost ts _ _ _ _ _ (negation_too_deep i h) = (λ le. absurd (omega arith), λ e. r_negation_deep i h)
lost ts _ _ _ _ _ (in_negated depth_left i k f h s) =
    let one : suc depth_left ≡ depth_left + 1 = omega arith in (
      λ le. absurd (omega arith),
      λ e. subst (λ (m : ℕ). Run ts (whole_at m i) (Err f)) one (r_negated depth_left i (Err f) (Err f) h ((lost ts depth_left 6 (i + 1) k f s).1 refl) refl),
    )

run_of : (ts : List Lexeme) (r : Answer) → IsParsed ts r → Run ts (whole_at 64 0) r
run_of ts x h = grind (arith, common_steps, whole, lost)

pub one_parse : (ts : List Lexeme) (r s : Answer) → IsParsed ts r → IsParsed ts s → r ≡ s
one_parse ts r s h g = one_answer ts (whole_at 64 0) r s (run_of ts r h) (run_of ts s g)
