-- Each step of the parser is a rule of the grammar.
use Rattle.std.proofs.lemmas.Grind.{common_steps}
use Rattle.std.proofs.Common.{◌≡◌, ◌≢◌, ℕ, zero, suc, ◌+◌, ◌-◌, ◌<◌, ◌≤◌, true, false, List, [], ◌∷◌, ◌++◌, Option, Some, None, sym, ap, subst, ◌∙◌, arith, append_assoc}
use Rattle.std.specs.Prelude.{Result, Err}
use Rattle.syntax65.specs.Tokens.{Lexeme}
use Rattle.syntax65.specs.Trees.{Tree, name, unary, binary}
use Rattle.syntax65.specs.Expressions.{level_of, operand_start_at, binary_at, text_at, leaf_of, closes_at, HasParts, last_part, next_part, Phrase, a_leaf, a_name, a_global, prefixed, enclosed, of_level, joined, negated, HasNoOperator, BeginsOperand, OpensLevel, PhraseFailsAt, no_operand, no_name, no_global, too_deep, in_prefixed, in_enclosed, not_closed, in_first, in_next, negation_too_deep, in_negated, AreNames, IsLevel, IsPhrase}
use Rattle.syntax65.specs.Faults.{is_expr_system_error}
use Rattle.base65.specs.Outcome.{Unless}
use Rattle.base65.specs.Relations.{RefinesRel}
use Rattle.base65.specs.declared.values.Op1.{Op1}
use Rattle.base65.specs.declared.values.Op1.TheVariants.{Not}
use Rattle.base65.specs.declared.values.Op2.{Op2}
use Rattle.syntax65.specs.declared.expressions.operators.OperandStart.{OperandStart}
use Rattle.syntax65.specs.declared.expressions.operators.OperandStart.TheVariants.{Name, Scope, Prefix, Parenthesis, Negation}
use Rattle.syntax65.specs.declared.expressions.operators.ExprFault.{ExprFault}
use Rattle.syntax65.specs.declared.expressions.operators.ExprFault.TheVariants.{OutOfMemory, OperandExpected, ParenthesisExpected, TooDeep}

level_pos : (op : Op2) → 0 < level_of op
level_pos x = grind (arith, common_steps)

pub level_zero : (ts : List Lexeme) (j : ℕ) → HasNoOperator ts 0 j
level_zero ts j op h = level_pos op

-- ---- Names.

pub last_name : (ts : List Lexeme) (at i : ℕ) (parts new : List (List ℕ)) (text : List ℕ) → ((j : ℕ) (rest : List (List ℕ)) → HasParts ts i j rest → HasParts ts at j (parts ++ rest)) → operand_start_at ts i ≡ Name → (operand_start_at ts (i + 1) ≡ Scope → ⊥) → text ≡ text_at ts i → new ≡ parts ++ text ∷ [] → HasParts ts at (i + 1) new
last_name ts at i parts new text so_far h stop same made =
    let reads : HasParts ts at (i + 1) (parts ++ text_at ts i ∷ []) = so_far (i + 1) (text_at ts i ∷ []) (last_part i h stop) in
    rw (made, same) reads

pub next_name : (ts : List Lexeme) (at i : ℕ) (parts new : List (List ℕ)) (text : List ℕ) → ((j : ℕ) (rest : List (List ℕ)) → HasParts ts i j rest → HasParts ts at j (parts ++ rest)) → operand_start_at ts i ≡ Name → operand_start_at ts (i + 1) ≡ Scope → text ≡ text_at ts i → new ≡ parts ++ text ∷ [] → (j : ℕ) (rest : List (List ℕ)) → HasParts ts (i + 2) j rest → HasParts ts at j (new ++ rest)
next_name ts at i parts new text so_far h scope same made j rest more =
    let reads : HasParts ts at j (parts ++ (text_at ts i ∷ rest)) = so_far j (text_at ts i ∷ rest) (next_part i j rest h scope more) in
    let e : new ++ rest ≡ parts ++ (text_at ts i ∷ rest) = rw (made, same) (append_assoc parts (text_at ts i ∷ []) rest) in
    rw e reads

-- ---- Phrases.

pub leaf_phrase : (ts : List Lexeme) (depth_left i : ℕ) (t : Tree) → leaf_of (operand_start_at ts i) (text_at ts i) ≡ Some t → IsPhrase ts depth_left 0 i (i + 1) t
leaf_phrase ts depth_left i t h = record { phrase = a_leaf depth_left i t h; ends = level_zero ts (i + 1) }

pub name_phrase : (ts : List Lexeme) (depth_left i j : ℕ) (parts : List (List ℕ)) → HasParts ts i j parts → IsPhrase ts depth_left 0 i j (name false parts)
name_phrase ts depth_left i j parts h = record { phrase = a_name depth_left i j parts h; ends = level_zero ts j }

pub plain_phrase : (ts : List Lexeme) (depth_left i : ℕ) → operand_start_at ts i ≡ Name → operand_start_at ts (i + 1) ≢ Scope → IsPhrase ts depth_left 0 i (i + 1) (name false (text_at ts i ∷ []))
plain_phrase ts depth_left i named alone = name_phrase ts depth_left i (i + 1) (text_at ts i ∷ []) (last_part i named alone)

pub global_phrase : (ts : List Lexeme) (depth_left i j : ℕ) (parts : List (List ℕ)) → operand_start_at ts i ≡ Scope → HasParts ts (i + 1) j parts → IsPhrase ts depth_left 0 i j (name true parts)
global_phrase ts depth_left i j parts h p = record { phrase = a_global depth_left i j parts h p; ends = level_zero ts j }

pub prefixed_phrase : (ts : List Lexeme) (depth_left i j : ℕ) (op : Op1) (t u : Tree) → 0 < depth_left → operand_start_at ts i ≡ Prefix op → u ≡ unary op t → IsPhrase ts (depth_left - 1) 0 (i + 1) j t → IsPhrase ts depth_left 0 i j u
prefixed_phrase ts depth_left i j op t u pos h made inner =
    let r : (depth_left - 1) + 1 ≡ depth_left = omega arith in
    record {
      phrase = rw made (subst (λ (m : ℕ). Phrase ts m 0 i j (unary op t)) r (prefixed (depth_left - 1) i j op t h inner.phrase));
      ends = inner.ends;
    }

pub negated_phrase : (ts : List Lexeme) (depth_left i j : ℕ) (t u : Tree) → 0 < depth_left → operand_start_at ts i ≡ Negation → u ≡ unary Not t → IsPhrase ts (depth_left - 1) 6 (i + 1) j t → IsPhrase ts depth_left 6 i j u
negated_phrase ts depth_left i j t u pos h made inner =
    let r : (depth_left - 1) + 1 ≡ depth_left = omega arith in
    record {
      phrase = rw made (subst (λ (m : ℕ). Phrase ts m 6 i j (unary Not t)) r (negated (depth_left - 1) i j t h inner.phrase));
      ends = inner.ends;
    }

pub enclosed_phrase : (ts : List Lexeme) (depth_left i j : ℕ) (t : Tree) → 0 < depth_left → operand_start_at ts i ≡ Parenthesis → IsPhrase ts (depth_left - 1) 6 (i + 1) j t → closes_at ts j ≡ true → IsPhrase ts depth_left 0 i (j + 1) t
enclosed_phrase ts depth_left i j t pos h inner close =
    let r : (depth_left - 1) + 1 ≡ depth_left = omega arith in
    record {
      phrase = subst (λ (m : ℕ). Phrase ts m 0 i (j + 1) t) r (enclosed (depth_left - 1) i j t h inner.phrase close);
      ends = level_zero ts (j + 1);
    }

pub low_level : (op : Op2) → level_of op ≤ 5
low_level x = grind (arith, common_steps)

-- a phrase without negation
pub whole_phrase : (ts : List Lexeme) (depth_left i j : ℕ) (t : Tree) → IsPhrase ts depth_left 5 i j t → IsPhrase ts depth_left 6 i j t
whole_phrase ts depth_left i j t p = record { phrase = of_level depth_left 5 i j t p.phrase; ends = λ op h. absurd (omega (arith, p.ends op h, low_level op)) }

-- ---- Errors.

-- the error of a missing phrase, unless memory ran out
abbrev pub IsStop : List Lexeme → (depth_left n i : ℕ) → ExprFault → Type 0
IsStop ts depth_left n i f = Unless (is_expr_system_error f) (IsLevel ts depth_left n i (Err f))

abbrev pub IsMissing : List Lexeme → ℕ → ExprFault → Type 0
IsMissing ts i f = Unless (is_expr_system_error f) (AreNames ts i (Err f))

-- an error of a part is an error of the whole phrase
lift_stop : (ts : List Lexeme) (depth_left n i depth_left' n' i' : ℕ) (f : ExprFault) → ((k : ℕ) (g : ExprFault) → PhraseFailsAt ts depth_left n i k g → PhraseFailsAt ts depth_left' n' i' k g) → IsStop ts depth_left n i f → IsStop ts depth_left' n' i' f
lift_stop ts depth_left n i depth_left' n' i' x up h = grind (arith, common_steps)

pub name_stop : (ts : List Lexeme) (depth_left i : ℕ) (f : ExprFault) → operand_start_at ts i ≡ Name → IsMissing ts i f → IsStop ts depth_left 0 i f
name_stop ts depth_left i OutOfMemory h s = tt
name_stop ts depth_left i OperandExpected h s = (s.1.0, no_name depth_left i s.1.0 h s.1.1)
name_stop ts depth_left i ParenthesisExpected h s = absurd (cc s.0)
name_stop ts depth_left i TooDeep h s = absurd (cc s.0)

pub global_stop : (ts : List Lexeme) (depth_left i : ℕ) (f : ExprFault) → operand_start_at ts i ≡ Scope → IsMissing ts (i + 1) f → IsStop ts depth_left 0 i f
global_stop ts depth_left i OutOfMemory h s = tt
global_stop ts depth_left i OperandExpected h s = (s.1.0, no_global depth_left i s.1.0 h s.1.1)
global_stop ts depth_left i ParenthesisExpected h s = absurd (cc s.0)
global_stop ts depth_left i TooDeep h s = absurd (cc s.0)

pub prefixed_stop : (ts : List Lexeme) (depth_left i : ℕ) (op : Op1) (f : ExprFault) → 0 < depth_left → operand_start_at ts i ≡ Prefix op → IsStop ts (depth_left - 1) 0 (i + 1) f → IsStop ts depth_left 0 i f
prefixed_stop ts depth_left i op f pos h s =
    let r : (depth_left - 1) + 1 ≡ depth_left = omega arith in
    lift_stop ts (depth_left - 1) 0 (i + 1) depth_left 0 i f (λ k g w. subst (λ (m : ℕ). PhraseFailsAt ts m 0 i k g) r (in_prefixed (depth_left - 1) i k op g h w)) s

pub negated_stop : (ts : List Lexeme) (depth_left i : ℕ) (f : ExprFault) → 0 < depth_left → operand_start_at ts i ≡ Negation → IsStop ts (depth_left - 1) 6 (i + 1) f → IsStop ts depth_left 6 i f
negated_stop ts depth_left i f pos h s =
    let r : (depth_left - 1) + 1 ≡ depth_left = omega arith in
    lift_stop ts (depth_left - 1) 6 (i + 1) depth_left 6 i f (λ k g w. subst (λ (m : ℕ). PhraseFailsAt ts m 6 i k g) r (in_negated (depth_left - 1) i k g h w)) s

pub enclosed_stop : (ts : List Lexeme) (depth_left i : ℕ) (f : ExprFault) → 0 < depth_left → operand_start_at ts i ≡ Parenthesis → IsStop ts (depth_left - 1) 6 (i + 1) f → IsStop ts depth_left 0 i f
enclosed_stop ts depth_left i f pos h s =
    let r : (depth_left - 1) + 1 ≡ depth_left = omega arith in
    lift_stop ts (depth_left - 1) 6 (i + 1) depth_left 0 i f (λ k g w. subst (λ (m : ℕ). PhraseFailsAt ts m 0 i k g) r (in_enclosed (depth_left - 1) i k g h w)) s

pub open_stop : (ts : List Lexeme) (depth_left i j : ℕ) (t : Tree) → 0 < depth_left → operand_start_at ts i ≡ Parenthesis → IsPhrase ts (depth_left - 1) 6 (i + 1) j t → closes_at ts j ≡ false → IsStop ts depth_left 0 i ParenthesisExpected
open_stop ts depth_left i j t pos h inner close =
    let r : (depth_left - 1) + 1 ≡ depth_left = omega arith in
    (j, subst (λ (m : ℕ). PhraseFailsAt ts m 0 i j ParenthesisExpected) r (not_closed (depth_left - 1) i j t h inner.phrase inner.ends close))

pub deep_prefix : (ts : List Lexeme) (depth_left i : ℕ) (op : Op1) → depth_left ≡ 0 → operand_start_at ts i ≡ Prefix op → IsStop ts depth_left 0 i TooDeep
deep_prefix ts depth_left i op r h = rw r (i, too_deep i (subst OpensLevel (sym h) tt))

pub deep_open : (ts : List Lexeme) (depth_left i : ℕ) → depth_left ≡ 0 → operand_start_at ts i ≡ Parenthesis → IsStop ts depth_left 0 i TooDeep
deep_open ts depth_left i r h = rw r (i, too_deep i (subst OpensLevel (sym h) tt))

pub deep_negation : (ts : List Lexeme) (depth_left i : ℕ) → depth_left ≡ 0 → operand_start_at ts i ≡ Negation → IsStop ts depth_left 6 i TooDeep
deep_negation ts depth_left i r h = rw r (i, negation_too_deep i h)

none_begins : (o : OperandStart) (text : List ℕ) → leaf_of o text ≡ None → o ≢ Name → o ≢ Scope → ((op : Op1) → o ≢ Prefix op) → o ≢ Parenthesis → BeginsOperand o → ⊥
none_begins x text e a b c d h = grind (arith, common_steps)

pub bad_operand : (ts : List Lexeme) (depth_left i : ℕ) (o : OperandStart) → o ≡ operand_start_at ts i → leaf_of o (text_at ts i) ≡ None → o ≢ Name → o ≢ Scope → ((op : Op1) → o ≢ Prefix op) → o ≢ Parenthesis → IsStop ts depth_left 0 i OperandExpected
bad_operand ts depth_left i o e n a b c d = (i, no_operand depth_left i (λ h. none_begins o (text_at ts i) n a b c d (subst BeginsOperand (sym e) h)))

-- ---- Levels.

first_stop : (ts : List Lexeme) (depth_left n i : ℕ) (f : ExprFault) → 0 < n → n ≤ 5 → IsStop ts depth_left (n - 1) i f → IsStop ts depth_left n i f
first_stop ts depth_left n i f pos low s =
    let r : (n - 1) + 1 ≡ n = omega arith in
    lift_stop ts depth_left (n - 1) i depth_left n i f (λ k g w. subst (λ (m : ℕ). PhraseFailsAt ts depth_left m i k g) r (in_first depth_left (n - 1) i k g (λ e. absurd (omega arith)) w)) s

pub whole_stop : (ts : List Lexeme) (depth_left i : ℕ) (f : ExprFault) → operand_start_at ts i ≢ Negation → IsStop ts depth_left 5 i f → IsStop ts depth_left 6 i f
whole_stop ts depth_left i f h s = lift_stop ts depth_left 5 i depth_left 6 i f (λ k g w. in_first depth_left 5 i k g (λ e. h) w) s

next_stop : (ts : List Lexeme) (depth_left n i j : ℕ) (op : Op2) (t : Tree) (f : ExprFault) → 0 < n → Phrase ts depth_left n i j t → binary_at ts j ≡ Some op → level_of op ≡ n → IsStop ts depth_left (n - 1) (j + 1) f → IsStop ts depth_left n i f
next_stop ts depth_left n i j op t f pos left at level s =
    let r : (n - 1) + 1 ≡ n = omega arith in
    lift_stop ts depth_left (n - 1) (j + 1) depth_left n i f (λ k g w. subst (λ (m : ℕ). PhraseFailsAt ts depth_left m i k g) r
    (in_next depth_left (n - 1) i j k op t g (rw r left) at (level ∙ sym r) w)) s

joined_phrase : (ts : List Lexeme) (depth_left n i j k : ℕ) (op : Op2) (t u t' u' : Tree) → 0 < n → Phrase ts depth_left n i j t → binary_at ts j ≡ Some op → level_of op ≡ n → IsPhrase ts depth_left (n - 1) (j + 1) k u → t' ≡ t → u' ≡ u → Phrase ts depth_left n i k (binary op t' u')
joined_phrase ts depth_left n i j k op t u t' u' pos left at level right same_left same_right =
    let r : (n - 1) + 1 ≡ n = omega arith in
    rw (same_left, same_right) (subst (λ (m : ℕ). Phrase ts depth_left m i k (binary op t u)) r
    (joined depth_left (n - 1) i j k op t u (rw r left) at (level ∙ sym r) right.phrase))

-- The part of a phrase of level `n` that was read so far: a phrase of some level up to `n`, with no tighter operator after
-- it.
pub record IsPart (ts : List Lexeme) (depth_left n i j : ℕ) (t : Tree) : Type 0 where
  pub own : ℕ
  pub most : own ≤ n
  pub phrase : Phrase ts depth_left own i j t
  pub tighter : HasNoOperator ts (own - 1) j

raised_by : (ts : List Lexeme) (depth_left n i j : ℕ) (t : Tree) (k : ℕ) → Phrase ts depth_left n i j t → Phrase ts depth_left (n + k) i j t
raised_by ts depth_left n i j t zero p = subst (λ m. Phrase ts depth_left m i j t) (let r : n ≡ n + 0 = omega arith in r) p
raised_by ts depth_left n i j t (suc k) p = subst (λ m. Phrase ts depth_left m i j t) (let r : (n + k) + 1 ≡ n + suc k = omega arith in r) (of_level depth_left (n + k) i j t (raised_by ts depth_left n i j t k p))

raised : (ts : List Lexeme) (depth_left m n i j : ℕ) (t : Tree) → m ≤ n → Phrase ts depth_left m i j t → Phrase ts depth_left n i j t
raised ts depth_left m n i j t le p = subst (λ k. Phrase ts depth_left k i j t) (let r : m + (n - m) ≡ n = omega (arith, le) in r) (raised_by ts depth_left m i j t (n - m) p)

stop_raised_by : (ts : List Lexeme) (depth_left n i : ℕ) (f : ExprFault) (k : ℕ) → n + k ≤ 5 → IsStop ts depth_left n i f → IsStop ts depth_left (n + k) i f
stop_raised_by ts depth_left n i f zero low s = subst (λ m. IsStop ts depth_left m i f) (let r : n ≡ n + 0 = omega arith in r) s
stop_raised_by ts depth_left n i f (suc k) low s =
    first_stop ts depth_left (n + suc k) i f (omega arith) low
    (subst (λ m. IsStop ts depth_left m i f) (let r : n + k ≡ (n + suc k) - 1 = omega arith in r) (stop_raised_by ts depth_left n i f k (omega (arith, low)) s))

stop_raised : (ts : List Lexeme) (depth_left m n i : ℕ) (f : ExprFault) → m ≤ n → n ≤ 5 → IsStop ts depth_left m i f → IsStop ts depth_left n i f
stop_raised ts depth_left m n i f le low s = subst (λ k. IsStop ts depth_left k i f) (let r : m + (n - m) ≡ n = omega (arith, le) in r) (stop_raised_by ts depth_left m i f (n - m) (omega (arith, le, low)) s)

pub operand_stop : (ts : List Lexeme) (depth_left n i : ℕ) (f : ExprFault) → n ≤ 5 → IsStop ts depth_left 0 i f → IsStop ts depth_left n i f
operand_stop ts depth_left n i f low s = stop_raised ts depth_left 0 n i f (omega arith) low s

pub operand_part : (ts : List Lexeme) (depth_left n i j : ℕ) (t : Tree) → IsPhrase ts depth_left 0 i j t → IsPart ts depth_left n i j t
operand_part ts depth_left n i j t p = record { own = 0; most = omega arith; phrase = p.phrase; tighter = p.ends }

-- the phrase before an operator is a phrase of the operator's level
before : (ts : List Lexeme) (depth_left n m i j : ℕ) (op : Op2) (t : Tree) → IsPart ts depth_left n i j t → binary_at ts j ≡ Some op → level_of op ≡ m → Phrase ts depth_left m i j t
before ts depth_left n m i j op t p at level = (let lt = p.tighter op at in raised ts depth_left p.own m i j t (omega (arith, lt, level)) p.phrase)

pub right_stop : (ts : List Lexeme) (depth_left n m i j : ℕ) (op : Op2) (t : Tree) (f : ExprFault) → n ≤ 5 → IsPart ts depth_left n i j t → binary_at ts j ≡ Some op → level_of op ≡ m → m ≤ n → IsStop ts depth_left (m - 1) (j + 1) f → IsStop ts depth_left n i f
right_stop ts depth_left n m i j op t f low p at level le s =
    (let pos = level_pos op in stop_raised ts depth_left m n i f le low (next_stop ts depth_left m i j op t f (omega (arith, pos, level)) (before ts depth_left n m i j op t p at level) at level s))

pub joined_part : (ts : List Lexeme) (depth_left n m i j k : ℕ) (op : Op2) (t u t' u' : Tree) → IsPart ts depth_left n i j t → binary_at ts j ≡ Some op → level_of op ≡ m → m ≤ n → IsPhrase ts depth_left (m - 1) (j + 1) k u → t' ≡ t → u' ≡ u → IsPart ts depth_left n i k (binary op t' u')
joined_part ts depth_left n m i j k op t u t' u' p at level le right same_left same_right = record {
  own = m;
  most = le;
  phrase = (let pos = level_pos op in joined_phrase ts depth_left m i j k op t u t' u' (omega (arith, pos, level)) (before ts depth_left n m i j op t p at level) at level right same_left same_right);
  tighter = right.ends;
}

pub whole_part : (ts : List Lexeme) (depth_left n i j : ℕ) (t : Tree) → IsPart ts depth_left n i j t → HasNoOperator ts n j → IsPhrase ts depth_left n i j t
whole_part ts depth_left n i j t p none = record { phrase = raised ts depth_left p.own n i j t p.most p.phrase; ends = none }

pub whole_result : (ts : List Lexeme) (depth_left i : ℕ) (r : Result (Tree × ℕ) ExprFault) → operand_start_at ts i ≢ Negation → RefinesRel is_expr_system_error (λ x. x) r (IsLevel ts depth_left 5 i) → RefinesRel is_expr_system_error (λ x. x) r (IsLevel ts depth_left 6 i)
whole_result ts depth_left i x h p = grind (arith, common_steps, whole_phrase, whole_stop)

pub leaf_made : (ts : List Lexeme) (i : ℕ) (o : OperandStart) (text : List ℕ) (made : Option Tree) → o ≡ operand_start_at ts i → text ≡ text_at ts i → made ≡ leaf_of o text → leaf_of (operand_start_at ts i) (text_at ts i) ≡ made
leaf_made ts i o text made a b e = sym (e ∙ ap (λ p. leaf_of p text) a ∙ ap (leaf_of (operand_start_at ts i)) b)
