-- The parts of a list of tokens that commas separate.
use Rattle.std.proofs.Common.{◌≡◌, ◌≢◌, ℕ, zero, suc, ◌+◌, ◌-◌, ◌<◌, ◌≤◌, Bool, true, false, nat_eq, not, List, [], ◌∷◌, None, if◌then◌else◌, ◌&&◌, codes, Option, Some, length, take, drop, Result, Ok, Err, IfErr, refl, ap, sym, ◌∙◌, arith, add-one, one-add, length-drop, subst}
use Rattle.std.proofs.lemmas.Bool.Decides.{nat_tests}
use Rattle.std.specs.List.{prefix_len, onto_first}
use Rattle.std.proofs.lemmas.List.{take_all}
use Rattle.syntax65.specs.Expressions.{IsParsed}
use Rattle.std.specs.Result.{IsErrAnd}
use Rattle.base65.specs.Outcome.{◌>>=◌, AndThen, Unless}
use Rattle.base65.specs.Relations.{RefinesRel}
use Rattle.ast65.specs.declared.fault.AsmFault.{AsmFault}
use Rattle.ast65.specs.Faults.{is_failure, is_system_error}
use Rattle.syntax65.specs.Tokens.{Lexeme, lexeme_of, lexemes}
use Rattle.syntax65.specs.Trees.{Tree, number}
use Rattle.syntax65.specs.declared.lexing.tokens.Token.{Token}
use Rattle.ast65.specs.Parsing.{closing_of, index_of, is_close, is_comma, is_identifier_named, list_elements, string_of, not_understood, complete_expression, assertion_text, IsExpressionOperand, IsExpression, IsExpressionAndRest, IsItem, IsOneOrTwo, ParsesAs, AndThenReturn}
use Rattle.ast65.specs.declared.reading.keywords.ElementKind.{ElementKind}
use Rattle.ast65.specs.declared.reading.keywords.ElementKind.TheVariants.{Values, ValuesAndTexts}
use Rattle.ast65.specs.declared.language.Index.{Index}
use Rattle.ast65.specs.declared.language.Index.TheVariants as index
use Rattle.ast65.specs.declared.language.Item.TheVariants.{Value}
use Rattle.ast65.specs.declared.language.Operand.{Operand}

pub lexemes_len : (ts : List Token) → length (lexemes ts) ≡ length ts
lexemes_len [] = refl
lexemes_len (t ∷ ts) = ap suc (lexemes_len ts)

lexemes_drop : (n : ℕ) (ts : List Token) → drop n (lexemes ts) ≡ lexemes (drop n ts)
lexemes_drop zero ts = refl
lexemes_drop (suc n) [] = refl
lexemes_drop (suc n) (t ∷ ts) = lexemes_drop n ts

-- ---- Expressions that consist of all tokens.

whole_all : (e : Tree) (n count : ℕ) → n ≡ count → complete_expression count (Ok (e, n)) ≡ Ok e
whole_all e n count h = go (nat_eq n count) refl
  where
    go : (t : Bool) → nat_eq n count ≡ t → complete_expression count (Ok (e, n)) ≡ Ok e
    go true f = rw f refl
    go false f = absurd (grind (arith, nat_tests))

pub is_whole : (ts : List Token) (e : Tree) (n : ℕ) → IsParsed (lexemes ts) (Ok (e, n)) → n ≡ length ts → IsExpression (lexemes ts) (Ok e)
is_whole ts e n h f = (Ok (e, n), h, sym (whole_all e n (length (lexemes ts)) (f ∙ sym (lexemes_len ts))))

-- a number is an element, also in a list that may contain strings
pub is_item : (elements : ElementKind) (ts : List Lexeme) (v : ℕ) → IsExpression ts (Ok (number v)) → string_of ts ≡ None → IsItem elements ts (Ok (Value (number v)))
is_item Values ts v h n = (Ok (number v), h, refl)
is_item ValuesAndTexts ts v h n = rw n (Ok (number v), h, refl)

pub is_front : (ts : List Token) (e : Tree) (n : ℕ) → IsParsed (lexemes ts) (Ok (e, n)) → IsExpressionAndRest (lexemes ts) (Ok (e, lexemes (take (length ts - n) (drop n ts))))
is_front ts e n h =
    let short : length (drop n ts) ≤ length ts - n = omega (arith, length-drop n ts) in
    let all : take (length ts - n) (drop n ts) ≡ drop n ts = take_all (length ts - n) (drop n ts) short in
    rw all (Ok (e, n), h, ap (λ us. Ok (e, us)) (sym (lexemes_drop n ts)))

-- an error of the first part is an error of the whole
pub then_fault : {A B X : Type 0} (Is : Result A AsmFault → Type 0) (next : A → Result B AsmFault) (view : X → B) (result : Result X AsmFault) (e : AsmFault) → IsErrAnd result (λ f. f ≡ e) → Unless (is_system_error e) (Is (Err e)) → RefinesRel is_system_error view result (AndThenReturn Is next)
then_fault Is next view (Ok x) e h i = absurd h
then_fault Is next view (Err f) e h i = rw h (go (is_system_error e) i)
  where
    go : (t : Bool) → Unless t (Is (Err e)) → Unless t (AndThenReturn Is next (Err e))
    go true j = tt
    go false j = (Err e, j, refl)

-- if the error of a result is no failure of the store, `RefinesRel` implies `ParsesAs`
pub parses_fault : {A X : Type 0} (Is : Result A AsmFault → Type 0) (view : X → A) (result : Result X AsmFault) (e : AsmFault) → IsErrAnd result (λ f. f ≡ e) → is_failure e ≡ false → RefinesRel is_system_error view result Is → ParsesAs view result Is
parses_fault {X = X} Is view result e h inside value = record { value = value; inside = by result h }
  where
    by : (r : Result X AsmFault) → IsErrAnd r (λ f. f ≡ e) → IfErr r (λ f. is_failure f ≡ false)
    by (Ok x) i = absurd i
    by (Err f) i = rw i inside

abbrev pub IsInside : {X : Type 0} → Result X AsmFault → Type 0
IsInside r = IfErr r (λ f. is_failure f ≡ false)

pub index_inside : (ts : List Lexeme) → IsInside (index_of ts)
index_inside [] = tt
index_inside (c ∷ []) = refl
index_inside (c ∷ t ∷ []) = by (is_comma c && is_identifier_named t (codes "x")) (is_comma c && is_identifier_named t (codes "y"))
  where
    by : (x y : Bool) → IsInside {X = Option Index} (if x then Ok (Some index.X) else if y then Ok (Some index.Y) else not_understood)
    by true y = tt
    by false true = tt
    by false false = refl
index_inside (c ∷ t ∷ u ∷ ts) = refl

pub closing_inside : (ts : List Lexeme) → IsInside (closing_of ts)
closing_inside [] = refl
closing_inside (a ∷ []) = by (is_close a)
  where
    by : (x : Bool) → IsInside {X = Option Index} (if x then Ok None else not_understood)
    by true = tt
    by false = refl
closing_inside (a ∷ b ∷ []) = refl
closing_inside (a ∷ b ∷ c ∷ []) = by (is_comma a && is_identifier_named b (codes "x") && is_close c) (is_close a && is_comma b && is_identifier_named c (codes "y"))
  where
    by : (x y : Bool) → IsInside {X = Option Index} (if x then Ok (Some index.X) else if y then Ok (Some index.Y) else not_understood)
    by true y = tt
    by false true = tt
    by false false = refl
closing_inside (a ∷ b ∷ c ∷ d ∷ ts) = refl

-- ---- The first part.

len : List Token → ℕ
len ts = prefix_len (λ t. not (is_comma (lexeme_of t))) ts

len_comma : (t : Token) (ts : List Token) → is_comma (lexeme_of t) ≡ true → len (t ∷ ts) ≡ 0
unfolding len
len_comma t ts e = rw e refl

len_more : (t : Token) (ts : List Token) → is_comma (lexeme_of t) ≡ false → len (t ∷ ts) ≡ suc (len ts)
unfolding len
len_more t ts e = rw e (one-add (len ts))

parts_comma : (t : Token) (ts : List Token) → is_comma (lexeme_of t) ≡ true → list_elements (lexemes (t ∷ ts)) ≡ [] ∷ list_elements (lexemes ts)
parts_comma t ts e = rw e refl

parts_more : (t : Token) (ts : List Token) → is_comma (lexeme_of t) ≡ false → list_elements (lexemes (t ∷ ts)) ≡ onto_first (lexeme_of t) (list_elements (lexemes ts))
parts_more t ts e = rw e refl

last : (ts : List Token) → length ts ≤ len ts → list_elements (lexemes ts) ≡ lexemes ts ∷ []
last [] h = refl
last (t ∷ ts) h = go (is_comma (lexeme_of t)) refl (last ts)
  where
    go : (c : Bool) → is_comma (lexeme_of t) ≡ c → (length ts ≤ len ts → list_elements (lexemes ts) ≡ lexemes ts ∷ []) → list_elements (lexemes (t ∷ ts)) ≡ lexemes (t ∷ ts) ∷ []
    go true e next = let x = len_comma t ts e in absurd (omega arith)
    go false e next = let x = len_more t ts e in parts_more t ts e ∙ ap (onto_first (lexeme_of t)) (next (omega arith))

front : List Token → List Token
front ts = take (len ts) ts

rest : List Token → List Token
rest ts = drop (suc (len ts)) ts

first : (ts : List Token) → len ts < length ts → list_elements (lexemes ts) ≡ lexemes (front ts) ∷ list_elements (lexemes (rest ts))
unfolding front rest
first [] h = absurd (omega arith)
first (t ∷ ts) h = go (is_comma (lexeme_of t)) refl (first ts)
  where
    go : (c : Bool) → is_comma (lexeme_of t) ≡ c → (len ts < length ts → list_elements (lexemes ts) ≡ lexemes (front ts) ∷ list_elements (lexemes (rest ts))) → list_elements (lexemes (t ∷ ts)) ≡ lexemes (front (t ∷ ts)) ∷ list_elements (lexemes (rest (t ∷ ts)))
    go true e next = let x = len_comma t ts e in parts_comma t ts e ∙ rw x refl
    go false e next = let x = len_more t ts e in parts_more t ts e ∙ ap (onto_first (lexeme_of t)) (next (omega arith)) ∙ rw x refl

pub last_part : (ts : List Token) (n : ℕ) → n ≡ prefix_len (λ t. not (is_comma (lexeme_of t))) ts → length ts ≤ n → list_elements (lexemes ts) ≡ lexemes ts ∷ []
unfolding len
last_part ts n e h = last ts (omega arith)

pub one_part : (ts : List Token) (n : ℕ) → n ≡ prefix_len (λ t. not (is_comma (lexeme_of t))) ts → n < length ts → list_elements (lexemes ts) ≡ lexemes (take n ts) ∷ list_elements (lexemes (take (length ts - (n + 1)) (drop (n + 1) ts)))
unfolding len front rest
one_part ts n e lt =
    let short : length (drop (n + 1) ts) ≤ length ts - (n + 1) = omega (arith, length-drop (n + 1) ts) in
    let all : take (length ts - (n + 1)) (drop (n + 1) ts) ≡ drop (n + 1) ts = take_all (length ts - (n + 1)) (drop (n + 1) ts) short in
    rw all (let P : ℕ → Type 0 = λ k. list_elements (lexemes ts) ≡ lexemes (take k ts) ∷ list_elements (lexemes (drop (k + 1) ts)) in subst P (sym e) (rw add-one (first ts (omega arith))))

-- an error of the rest is an error of the whole
pub second_fault : {A B X : Type 0} (Is : Result A AsmFault → Type 0) (next : A → Result B AsmFault) (view : X → B) (result : Result X AsmFault) (x : A) (e : AsmFault) → IsErrAnd result (λ f. f ≡ e) → Is (Ok x) → next x ≡ Err e → RefinesRel is_system_error view result (AndThenReturn Is next)
second_fault Is next view (Ok y) x e h i n = absurd h
second_fault Is next view (Err f) x e h i n = rw h (go (is_system_error e))
  where
    go : (t : Bool) → Unless t (AndThenReturn Is next (Err e))
    go true = tt
    go false = (Ok x, i, sym n)

-- the cases of an operand: an error in its expression, an error in its end, and no error
pub front_fault : {X : Type 0} (end : List Lexeme → Result (Option Index) AsmFault) (make : Tree → Option Index → Operand) (ts : List Lexeme) (view : X → Operand) (result : Result X AsmFault) (e : AsmFault) → IsErrAnd result (λ f. f ≡ e) → is_failure e ≡ false → Unless (is_system_error e) (IsExpressionAndRest ts (Err e)) → ParsesAs view result (IsExpressionOperand end make ts)
front_fault end make ts view result e h inside value = parses_fault _ view result e h inside (then_fault (IsExpressionAndRest ts) _ view result e h value)

pub end_fault : {X : Type 0} (end : List Lexeme → Result (Option Index) AsmFault) (make : Tree → Option Index → Operand) (ts : List Lexeme) (view : X → Operand) (result : Result X AsmFault) (x : Tree × List Lexeme) (e : AsmFault) → IsErrAnd result (λ f. f ≡ e) → IsExpressionAndRest ts (Ok x) → IsInside (end x.1) → Err e ≡ end x.1 → ParsesAs view result (IsExpressionOperand end make ts)
end_fault end make ts view result x e h front inside is =
    parses_fault _ view result e h (subst IsInside (sym is) inside)
    (second_fault (IsExpressionAndRest ts) (λ y. end y.1 >>= (λ i. Ok (make y.0 i))) view result x e h front (rw (← is) refl))

pub is_ended : (end : List Lexeme → Result (Option Index) AsmFault) (make : Tree → Option Index → Operand) (ts : List Lexeme) (x : Tree × List Lexeme) (i : Option Index) → IsExpressionAndRest ts (Ok x) → Ok i ≡ end x.1 → IsExpressionOperand end make ts (Ok (make x.0 i))
is_ended end make ts x i front is = (Ok x, front, rw (← is) refl)

pub first_fault : {A B X : Type 0} (Is : Result A AsmFault → Type 0) (Next : A → Result B AsmFault → Type 0) (view : X → B) (result : Result X AsmFault) (e : AsmFault) → IsErrAnd result (λ f. f ≡ e) → Unless (is_system_error e) (Is (Err e)) → RefinesRel is_system_error view result (λ r. (q : Result A AsmFault) × Is q × AndThen q Next r)
first_fault Is Next view (Ok x) e h i = absurd h
first_fault Is Next view (Err f) e h i = rw h (go (is_system_error e) i)
  where
    go : (t : Bool) → Unless t (Is (Err e)) → Unless t ((q : Result _ AsmFault) × Is q × AndThen q Next (Err e))
    go true j = tt
    go false j = (Err e, j, refl)

pub first_goes : {A B X : Type 0} (Is : Result A AsmFault → Type 0) (Next : A → Result B AsmFault → Type 0) (view : X → B) (result : Result X AsmFault) (x : A) → Is (Ok x) → RefinesRel is_system_error view result (Next x) → RefinesRel is_system_error view result (λ r. (q : Result A AsmFault) × Is q × AndThen q Next r)
first_goes Is Next view (Ok y) x i h = (Ok x, i, h)
first_goes Is Next view (Err f) x i h = go (is_system_error f) h
  where
    go : (t : Bool) → Unless t (Next x (Err f)) → Unless t ((q : Result _ AsmFault) × Is q × AndThen q Next (Err f))
    go true j = tt
    go false j = (Ok x, i, j)

-- ---- Too many parts.

pub some_part : (ts : List Lexeme) → list_elements ts ≢ []
some_part [] h = absurd cc
some_part (t ∷ ts) h = go (is_comma t) (list_elements ts) refl refl
  where
    go : (c : Bool) (ps : List (List Lexeme)) → is_comma t ≡ c → list_elements ts ≡ ps → ⊥
    go true ps e f = let P : Bool → Type 0 = λ b. (if b then [] ∷ list_elements ts else onto_first t (list_elements ts)) ≡ [] in let x = subst P e h in absurd cc
    go false [] e f = let P : Bool → Type 0 = λ b. (if b then [] ∷ list_elements ts else onto_first t (list_elements ts)) ≡ [] in let x = subst P e h in let Q : List (List Lexeme) → Type 0 = λ ps. onto_first t ps ≡ [] in let y = subst Q f x in absurd cc
    go false (p ∷ ps) e f = let P : Bool → Type 0 = λ b. (if b then [] ∷ list_elements ts else onto_first t (list_elements ts)) ≡ [] in let x = subst P e h in let Q : List (List Lexeme) → Type 0 = λ ps. onto_first t ps ≡ [] in let y = subst Q f x in absurd cc

pub too_many : (n v ts : List Lexeme) → IsOneOrTwo (n ∷ v ∷ list_elements ts) not_understood
too_many n v ts = go (list_elements ts) (some_part ts)
  where
    go : (ps : List (List Lexeme)) → ps ≢ [] → IsOneOrTwo (n ∷ v ∷ ps) not_understood
    go [] h = absurd (h refl)
    go (p ∷ ps) h = refl

pub too_many_words : (part ts : List Lexeme) → assertion_text (part ∷ list_elements ts) ≡ not_understood
too_many_words part ts = go (list_elements ts) (some_part ts)
  where
    go : (ps : List (List Lexeme)) → ps ≢ [] → assertion_text (part ∷ ps) ≡ not_understood
    go [] h = absurd (h refl)
    go (p ∷ ps) h = refl
