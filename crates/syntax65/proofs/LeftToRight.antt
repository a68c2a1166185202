-- Reading from left to right as one relation for trees and errors; each state has at most one result.
use Rattle.std.proofs.lemmas.Grind.{common_steps}
use Rattle.std.proofs.Common.{◌≡◌, ◌≢◌, ℕ, zero, suc, ◌+◌, ◌<◌, Bool, true, false, List, [], ◌∷◌, Option, Some, None, refl, sym, ap, subst, ◌∙◌, arith}
use Rattle.std.specs.Prelude.{Result, Ok, Err, ⊤, ◌==◌, if◌then◌else◌}
use Rattle.base65.specs.Outcome.{◌>>=◌}
use Rattle.syntax65.specs.Tokens.{Lexeme}
use Rattle.syntax65.specs.Trees.{Tree, name, unary, binary}
use Rattle.syntax65.specs.Expressions.{AreNames, level_of, operand_start_at, binary_at, text_at, leaf_of, closes_at, HasParts, last_part, next_part, LacksPart, no_part, after_part, HasNoOperator, BeginsOperand, OpensLevel}
use Rattle.base65.specs.declared.values.Op1.{Op1}
use Rattle.base65.specs.declared.values.Op1.TheVariants.{Not}
use Rattle.base65.specs.declared.values.Op2.{Op2}
use Rattle.syntax65.specs.declared.expressions.operators.OperandStart.{OperandStart}
use Rattle.syntax65.specs.declared.expressions.operators.OperandStart.TheVariants.{Name, Scope, Prefix, Parenthesis, Negation, Nothing}
use Rattle.syntax65.specs.declared.expressions.operators.ExprFault.{ExprFault}
use Rattle.syntax65.specs.declared.expressions.operators.ExprFault.TheVariants.{OperandExpected, ParenthesisExpected, TooDeep}

abbrev pub Answer : Type 0
Answer = Result (Tree × ℕ) ExprFault

pub data Mode : Type 0 where
  whole_at : (depth_left i : ℕ) → Mode
  level_at : (depth_left n i : ℕ) → Mode
  rest_at : (depth_left n : ℕ) (t : Tree) (j : ℕ) → Mode

abbrev pub named : Bool → List (List ℕ) × ℕ → Answer
named global x = Ok (name global x.0, x.1)

abbrev pub operated : Op1 → Tree × ℕ → Answer
operated op x = Ok (unary op x.0, x.1)

abbrev pub closed : List Lexeme → Tree × ℕ → Answer
closed ts x = if closes_at ts x.1 then Ok (x.0, x.1 + 1) else Err ParenthesisExpected

pub data Run (ts : List Lexeme) : Mode → Answer → Type 0 where
  r_leaf : (depth_left i : ℕ) (t : Tree) → leaf_of (operand_start_at ts i) (text_at ts i) ≡ Some t → Run ts (level_at depth_left 0 i) (Ok (t, i + 1))
  r_name : (depth_left i : ℕ) (q : Result (List (List ℕ) × ℕ) ExprFault) (r : Answer) → operand_start_at ts i ≡ Name → AreNames ts i q → r ≡ (q >>= named false) → Run ts (level_at depth_left 0 i) r
  r_global : (depth_left i : ℕ) (q : Result (List (List ℕ) × ℕ) ExprFault) (r : Answer) → operand_start_at ts i ≡ Scope → AreNames ts (i + 1) q → r ≡ (q >>= named true) → Run ts (level_at depth_left 0 i) r
  r_none : (depth_left i : ℕ) → (BeginsOperand (operand_start_at ts i) → ⊥) → Run ts (level_at depth_left 0 i) (Err OperandExpected)
  r_deep : (i : ℕ) → OpensLevel (operand_start_at ts i) → Run ts (level_at 0 0 i) (Err TooDeep)
  r_prefix : (depth_left i : ℕ) (op : Op1) (q r : Answer) → operand_start_at ts i ≡ Prefix op → Run ts (level_at depth_left 0 (i + 1)) q → r ≡ (q >>= operated op) → Run ts (level_at (suc depth_left) 0 i) r
  r_enclosed : (depth_left i : ℕ) (q r : Answer) → operand_start_at ts i ≡ Parenthesis → Run ts (whole_at depth_left (i + 1)) q → r ≡ (q >>= closed ts) → Run ts (level_at (suc depth_left) 0 i) r
  r_first : (depth_left n i : ℕ) (x : Tree × ℕ) (r : Answer) → Run ts (level_at depth_left n i) (Ok x) → Run ts (rest_at depth_left (suc n) x.0 x.1) r → Run ts (level_at depth_left (suc n) i) r
  r_lost : (depth_left n i : ℕ) (f : ExprFault) → Run ts (level_at depth_left n i) (Err f) → Run ts (level_at depth_left (suc n) i) (Err f)
  r_end : (depth_left n j : ℕ) (t : Tree) → HasNoOperator ts (suc n) j → Run ts (rest_at depth_left (suc n) t j) (Ok (t, j))
  r_next : (depth_left n j : ℕ) (op : Op2) (t : Tree) (x : Tree × ℕ) (r : Answer) → binary_at ts j ≡ Some op → level_of op ≡ suc n → Run ts (level_at depth_left n (j + 1)) (Ok x) → Run ts (rest_at depth_left (suc n) (binary op t x.0) x.1) r → Run ts (rest_at depth_left (suc n) t j) r
  r_next_lost : (depth_left n j : ℕ) (op : Op2) (t : Tree) (f : ExprFault) → binary_at ts j ≡ Some op → level_of op ≡ suc n → Run ts (level_at depth_left n (j + 1)) (Err f) → Run ts (rest_at depth_left (suc n) t j) (Err f)
  r_plain : (depth_left i : ℕ) (r : Answer) → operand_start_at ts i ≢ Negation → Run ts (level_at depth_left 5 i) r → Run ts (whole_at depth_left i) r
  r_negated : (depth_left i : ℕ) (q r : Answer) → operand_start_at ts i ≡ Negation → Run ts (whole_at depth_left (i + 1)) q → r ≡ (q >>= operated Not) → Run ts (whole_at (suc depth_left) i) r
  r_negation_deep : (i : ℕ) → operand_start_at ts i ≡ Negation → Run ts (whole_at 0 i) (Err TooDeep)

abbrev ByPrefix : List Lexeme → ℕ → ℕ → Op1 → Answer → Type 0
ByPrefix ts zero i op r = r ≡ Err TooDeep
ByPrefix ts (suc depth_left) i op r = (q : Answer) × Run ts (level_at depth_left 0 (i + 1)) q × (r ≡ (q >>= operated op))

abbrev ByParenthesis : List Lexeme → ℕ → ℕ → Answer → Type 0
ByParenthesis ts zero i r = r ≡ Err TooDeep
ByParenthesis ts (suc depth_left) i r = (q : Answer) × Run ts (whole_at depth_left (i + 1)) q × (r ≡ (q >>= closed ts))

-- the result of reading an operand, by its first token
abbrev ByOpening : List Lexeme → ℕ → ℕ → OperandStart → Answer → Type 0
ByOpening ts depth_left i Name r = (q : Result (List (List ℕ) × ℕ) ExprFault) × AreNames ts i q × (r ≡ (q >>= named false))
ByOpening ts depth_left i Scope r = (q : Result (List (List ℕ) × ℕ) ExprFault) × AreNames ts (i + 1) q × (r ≡ (q >>= named true))
ByOpening ts depth_left i (Prefix op) r = ByPrefix ts depth_left i op r
ByOpening ts depth_left i Parenthesis r = ByParenthesis ts depth_left i r
ByOpening ts depth_left i Negation r = r ≡ Err OperandExpected
ByOpening ts depth_left i Nothing r = r ≡ Err OperandExpected
ByOpening ts depth_left i o r = (t : Tree) × (leaf_of o (text_at ts i) ≡ Some t) × (r ≡ Ok (t, i + 1))

abbrev After : List Lexeme → ℕ → ℕ → Answer → Answer → Type 0
After ts depth_left n (Ok x) r = Run ts (rest_at depth_left (suc n) x.0 x.1) r
After ts depth_left n (Err f) r = r ≡ Err f

abbrev AfterNext : List Lexeme → ℕ → ℕ → Op2 → Tree → Answer → Answer → Type 0
AfterNext ts depth_left n op t (Ok x) r = Run ts (rest_at depth_left (suc n) (binary op t x.0) x.1) r
AfterNext ts depth_left n op t (Err f) r = r ≡ Err f

abbrev ByTest : List Lexeme → ℕ → ℕ → Op2 → Tree → ℕ → Bool → Answer → Type 0
ByTest ts depth_left n op t j true r = (q : Answer) × Run ts (level_at depth_left n (j + 1)) q × AfterNext ts depth_left n op t q r
ByTest ts depth_left n op t j false r = r ≡ Ok (t, j)

abbrev ByOperator : List Lexeme → ℕ → ℕ → Tree → ℕ → Option Op2 → Answer → Type 0
ByOperator ts depth_left n t j None r = r ≡ Ok (t, j)
ByOperator ts depth_left n t j (Some op) r = ByTest ts depth_left n op t j (level_of op == suc n) r

abbrev Negated : List Lexeme → ℕ → ℕ → Answer → Type 0
Negated ts zero i r = r ≡ Err TooDeep
Negated ts (suc depth_left) i r = (q : Answer) × Run ts (whole_at depth_left (i + 1)) q × (r ≡ (q >>= operated Not))

abbrev ByNegation : List Lexeme → ℕ → ℕ → OperandStart → Answer → Type 0
ByNegation ts depth_left i Negation r = Negated ts depth_left i r
ByNegation ts depth_left i _ r = Run ts (level_at depth_left 5 i) r

abbrev ByMode : List Lexeme → Mode → Answer → Type 0
ByMode ts (level_at depth_left zero i) r = ByOpening ts depth_left i (operand_start_at ts i) r
ByMode ts (level_at depth_left (suc n) i) r = (q : Answer) × Run ts (level_at depth_left n i) q × After ts depth_left n q r
ByMode ts (rest_at depth_left zero t j) r = ⊤
ByMode ts (rest_at depth_left (suc n) t j) r = ByOperator ts depth_left n t j (binary_at ts j) r
ByMode ts (whole_at depth_left i) r = ByNegation ts depth_left i (operand_start_at ts i) r

leaf_by : (ts : List Lexeme) (depth_left i : ℕ) (o : OperandStart) (t : Tree) → leaf_of o (text_at ts i) ≡ Some t → ByOpening ts depth_left i o (Ok (t, i + 1))
leaf_by ts depth_left i x t h = grind (arith, common_steps)

none_by : (ts : List Lexeme) (depth_left i : ℕ) (o : OperandStart) → (BeginsOperand o → ⊥) → ByOpening ts depth_left i o (Err OperandExpected)
none_by ts depth_left i x h = grind (arith, common_steps)

deep_by : (ts : List Lexeme) (i : ℕ) (o : OperandStart) → OpensLevel o → ByOpening ts 0 i o (Err TooDeep)
deep_by ts i x h = grind (arith, common_steps)

end_by : (ts : List Lexeme) (depth_left n j : ℕ) (t : Tree) (o : Option Op2) → ((op : Op2) → o ≡ Some op → suc n < level_of op) → ByOperator ts depth_left n t j o (Ok (t, j))
end_by ts depth_left n j t x h = grind (arith, common_steps)

next_by : (ts : List Lexeme) (depth_left n j : ℕ) (op : Op2) (t : Tree) (r : Answer) → binary_at ts j ≡ Some op → level_of op ≡ suc n → ByTest ts depth_left n op t j true r → ByOperator ts depth_left n t j (binary_at ts j) r
next_by ts depth_left n j op t r at level h = grind (arith, common_steps)

plain_by : (ts : List Lexeme) (depth_left i : ℕ) (o : OperandStart) (r : Answer) → o ≢ Negation → Run ts (level_at depth_left 5 i) r → ByNegation ts depth_left i o r
plain_by ts depth_left i x r h p = grind (arith, common_steps)

invert : (ts : List Lexeme) (m : Mode) (r : Answer) → Run ts m r → ByMode ts m r
invert ts _ _ (r_leaf depth_left i t h) = leaf_by ts depth_left i (operand_start_at ts i) t h
invert ts _ _ (r_name depth_left i q r h n e) = subst (λ (o : OperandStart). ByOpening ts depth_left i o r) (sym h) (q, n, e)
invert ts _ _ (r_global depth_left i q r h n e) = subst (λ (o : OperandStart). ByOpening ts depth_left i o r) (sym h) (q, n, e)
invert ts _ _ (r_none depth_left i h) = none_by ts depth_left i (operand_start_at ts i) h
invert ts _ _ (r_deep i h) = deep_by ts i (operand_start_at ts i) h
invert ts _ _ (r_prefix depth_left i op q r h p e) = subst (λ (o : OperandStart). ByOpening ts (suc depth_left) i o r) (sym h) (q, p, e)
invert ts _ _ (r_enclosed depth_left i q r h p e) = subst (λ (o : OperandStart). ByOpening ts (suc depth_left) i o r) (sym h) (q, p, e)
invert ts _ _ (r_first depth_left n i x r p d) = (Ok x, p, d)
invert ts _ _ (r_lost depth_left n i f p) = (Err f, p, refl)
invert ts _ _ (r_end depth_left n j t h) = end_by ts depth_left n j t (binary_at ts j) h
invert ts _ _ (r_next depth_left n j op t x r at level p d) = next_by ts depth_left n j op t r at level (Ok x, p, d)
invert ts _ _ (r_next_lost depth_left n j op t f at level p) = next_by ts depth_left n j op t (Err f) at level (Err f, p, refl)
invert ts _ _ (r_plain depth_left i r h p) = plain_by ts depth_left i (operand_start_at ts i) r h p
invert ts _ _ (r_negated depth_left i q r h p e) = subst (λ (o : OperandStart). ByNegation ts (suc depth_left) i o r) (sym h) (q, p, e)
invert ts _ _ (r_negation_deep i h) = subst (λ (o : OperandStart). ByNegation ts 0 i o (Err TooDeep)) (sym h) refl

-- ---- Names.

parts_one : (ts : List Lexeme) (i j i' j' : ℕ) (p p' : List (List ℕ)) → HasParts ts i j p → HasParts ts i' j' p' → i ≡ i' → (p ≡ p') × (j ≡ j')
parts_one ts _ _ _ _ _ _ (last_part i h stop) (last_part i' h' stop') e = (ap (λ x. text_at ts x ∷ []) e, ap (λ x. x + 1) e)
parts_one ts _ _ _ _ _ _ (last_part i h stop) (next_part i' j' p' h' scope' n') e = absurd (stop (ap (λ x. operand_start_at ts (x + 1)) e ∙ scope'))
parts_one ts _ _ _ _ _ _ (next_part i j p h scope n) (last_part i' h' stop') e = absurd (stop' (ap (λ x. operand_start_at ts (x + 1)) (sym e) ∙ scope))
parts_one ts _ _ _ _ _ _ (next_part i j p h scope n) (next_part i' j' p' h' scope' n') e =
    let rest : (p ≡ p') × (j ≡ j') = parts_one ts (i + 2) j (i' + 2) j' p p' n n' (ap (λ x. x + 2) e) in
    let text : text_at ts i ≡ text_at ts i' = ap (text_at ts) e in
    (cc (rest.0, text), rest.1)

parts_lack : (ts : List Lexeme) (i j i' k : ℕ) (p : List (List ℕ)) → HasParts ts i j p → LacksPart ts i' k → i ≡ i' → ⊥
parts_lack ts _ _ _ _ _ (last_part i h stop) (no_part i' none) e = none (ap (operand_start_at ts) (sym e) ∙ h)
parts_lack ts _ _ _ _ _ (last_part i h stop) (after_part i' k h' scope' n') e = stop (ap (λ x. operand_start_at ts (x + 1)) e ∙ scope')
parts_lack ts _ _ _ _ _ (next_part i j p h scope n) (no_part i' none) e = none (ap (operand_start_at ts) (sym e) ∙ h)
parts_lack ts _ _ _ _ _ (next_part i j p h scope n) (after_part i' k h' scope' n') e = parts_lack ts (i + 2) j (i' + 2) k p n n' (ap (λ x. x + 2) e)

same_names : (x y : List (List ℕ) × ℕ) → (x.0 ≡ y.0) × (x.1 ≡ y.1) → x ≡ y
same_names x y p = λ i. (p.0 i, p.1 i)

names_one : (ts : List Lexeme) (i : ℕ) (q p : Result (List (List ℕ) × ℕ) ExprFault) → AreNames ts i q → AreNames ts i p → q ≡ p
names_one ts i x y h g = grind (arith, common_steps, same_names, parts_one, parts_lack)

-- ---- Uniqueness.

leaf_one : (ts : List Lexeme) (depth_left i : ℕ) (o : OperandStart) (t : Tree) (s : Answer) → leaf_of o (text_at ts i) ≡ Some t → ByOpening ts depth_left i o s → Ok (t, i + 1) ≡ s
leaf_one ts depth_left i x t s h b = grind (arith, common_steps)

none_one : (ts : List Lexeme) (depth_left i : ℕ) (o : OperandStart) (s : Answer) → (BeginsOperand o → ⊥) → ByOpening ts depth_left i o s → Err OperandExpected ≡ s
none_one ts depth_left i x s h b = grind (arith, common_steps)

deep_one : (ts : List Lexeme) (i : ℕ) (o : OperandStart) (s : Answer) → OpensLevel o → ByOpening ts 0 i o s → Err TooDeep ≡ s
deep_one ts i x s h b = grind (arith, common_steps)

end_one : (ts : List Lexeme) (depth_left n j : ℕ) (t : Tree) (o : Option Op2) (s : Answer) → ((op : Op2) → o ≡ Some op → suc n < level_of op) → ByOperator ts depth_left n t j o s → Ok (t, j) ≡ s
end_one ts depth_left n j t x s h b = grind (arith, common_steps)

next_of : (ts : List Lexeme) (depth_left n j : ℕ) (op : Op2) (t : Tree) (s : Answer) → binary_at ts j ≡ Some op → level_of op ≡ suc n → ByOperator ts depth_left n t j (binary_at ts j) s → ByTest ts depth_left n op t j true s
next_of ts depth_left n j op t s at level h = grind (arith, common_steps)

plain_of : (ts : List Lexeme) (depth_left i : ℕ) (o : OperandStart) (s : Answer) → o ≢ Negation → ByNegation ts depth_left i o s → Run ts (level_at depth_left 5 i) s
plain_of ts depth_left i x s h p = grind (arith, common_steps)

-- each state has at most one result
pub one_answer : (ts : List Lexeme) (m : Mode) (r s : Answer) → Run ts m r → Run ts m s → r ≡ s
one_answer ts _ _ s (r_leaf depth_left i t h) d = leaf_one ts depth_left i (operand_start_at ts i) t s h (invert ts (level_at depth_left 0 i) s d)
one_answer ts _ _ s (r_name depth_left i q r h n e) d =
    let v : ByOpening ts depth_left i Name s = subst (λ (o : OperandStart). ByOpening ts depth_left i o s) h (invert ts (level_at depth_left 0 i) s d) in
    e ∙ ap (λ x. x >>= named false) (names_one ts i q v.0 n v.1) ∙ sym v.2
one_answer ts _ _ s (r_global depth_left i q r h n e) d =
    let v : ByOpening ts depth_left i Scope s = subst (λ (o : OperandStart). ByOpening ts depth_left i o s) h (invert ts (level_at depth_left 0 i) s d) in
    e ∙ ap (λ x. x >>= named true) (names_one ts (i + 1) q v.0 n v.1) ∙ sym v.2
one_answer ts _ _ s (r_none depth_left i h) d = none_one ts depth_left i (operand_start_at ts i) s h (invert ts (level_at depth_left 0 i) s d)
one_answer ts _ _ s (r_deep i h) d = deep_one ts i (operand_start_at ts i) s h (invert ts (level_at 0 0 i) s d)
one_answer ts _ _ s (r_prefix depth_left i op q r h p e) d =
    let v : ByOpening ts (suc depth_left) i (Prefix op) s = subst (λ (o : OperandStart). ByOpening ts (suc depth_left) i o s) h (invert ts (level_at (suc depth_left) 0 i) s d) in
    e ∙ ap (λ x. x >>= operated op) (one_answer ts (level_at depth_left 0 (i + 1)) q v.0 p v.1) ∙ sym v.2
one_answer ts _ _ s (r_enclosed depth_left i q r h p e) d =
    let v : ByOpening ts (suc depth_left) i Parenthesis s = subst (λ (o : OperandStart). ByOpening ts (suc depth_left) i o s) h (invert ts (level_at (suc depth_left) 0 i) s d) in
    e ∙ ap (λ x. x >>= closed ts) (one_answer ts (whole_at depth_left (i + 1)) q v.0 p v.1) ∙ sym v.2
one_answer ts _ _ s (r_first depth_left n i x r p g) d =
    let v = invert ts (level_at depth_left (suc n) i) s d in
    let same : Ok x ≡ v.0 = one_answer ts (level_at depth_left n i) (Ok x) v.0 p v.1 in
    one_answer ts (rest_at depth_left (suc n) x.0 x.1) r s g (subst (λ (q : Answer). After ts depth_left n q s) (sym same) v.2)
one_answer ts _ _ s (r_lost depth_left n i f p) d =
    let v = invert ts (level_at depth_left (suc n) i) s d in
    let same : Err f ≡ v.0 = one_answer ts (level_at depth_left n i) (Err f) v.0 p v.1 in
    let e : s ≡ Err f = subst (λ (q : Answer). After ts depth_left n q s) (sym same) v.2 in
    sym e
one_answer ts _ _ s (r_end depth_left n j t h) d = end_one ts depth_left n j t (binary_at ts j) s h (invert ts (rest_at depth_left (suc n) t j) s d)
one_answer ts _ _ s (r_next depth_left n j op t x r at level p g) d =
    let v = next_of ts depth_left n j op t s at level (invert ts (rest_at depth_left (suc n) t j) s d) in
    let same : Ok x ≡ v.0 = one_answer ts (level_at depth_left n (j + 1)) (Ok x) v.0 p v.1 in
    one_answer ts (rest_at depth_left (suc n) (binary op t x.0) x.1) r s g (subst (λ (q : Answer). AfterNext ts depth_left n op t q s) (sym same) v.2)
one_answer ts _ _ s (r_next_lost depth_left n j op t f at level p) d =
    let v = next_of ts depth_left n j op t s at level (invert ts (rest_at depth_left (suc n) t j) s d) in
    let same : Err f ≡ v.0 = one_answer ts (level_at depth_left n (j + 1)) (Err f) v.0 p v.1 in
    let e : s ≡ Err f = subst (λ (q : Answer). AfterNext ts depth_left n op t q s) (sym same) v.2 in
    sym e
one_answer ts _ _ s (r_plain depth_left i r h p) d =
    one_answer ts (level_at depth_left 5 i) r s p (plain_of ts depth_left i (operand_start_at ts i) s h (invert ts (whole_at depth_left i) s d))
one_answer ts _ _ s (r_negated depth_left i q r h p e) d =
    let v : ByNegation ts (suc depth_left) i Negation s = subst (λ (o : OperandStart). ByNegation ts (suc depth_left) i o s) h (invert ts (whole_at (suc depth_left) i) s d) in
    e ∙ ap (λ x. x >>= operated Not) (one_answer ts (whole_at depth_left (i + 1)) q v.0 p v.1) ∙ sym v.2
one_answer ts _ _ s (r_negation_deep i h) d =
    let v : s ≡ Err TooDeep = subst (λ (o : OperandStart). ByNegation ts 0 i o s) h (invert ts (whole_at 0 i) s d) in
    sym v
