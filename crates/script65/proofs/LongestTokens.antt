-- A token is the longest one at its offset.
use Rattle.std.proofs.lemmas.Grind.{common_steps}
use Rattle.std.proofs.Common.{arith, ◌≡◌, ◌≤◌, ◌<◌, ℕ, zero, suc, ◌+◌, Bool, true, false, List, [], ◌∷◌, ◌++◌, length, take, drop, find, Option, Some, None, refl, sym, ap, ◌∙◌, subst, cond, eqb-true, eq-eqb, length-append, length-drop}
use Rattle.std.specs.Option.{option_map_or}
use Rattle.std.proofs.lemmas.List.{length-take}
use Rattle.std.specs.Prelude.{◌==◌, ◌&&◌, not, if◌then◌else◌}
use Rattle.std.specs.List.{list_all, list_any, prefix_len, take_while}
use Rattle.std.specs.Str.{is_utf8}
use Rattle.std.specs.Char.{is_ascii_digit, is_ascii_hexdigit}
use Rattle.std.proofs.lemmas.Bool.Decides.{nat_tests}
use Rattle.std.proofs.lemmas.List.Folds.{length-prefix_len}
use Rattle.std.proofs.lemmas.List.Sums.{prefix_len-le-length}
use Rattle.base65.specs.Digit.{digits}
use Rattle.script65.proofs.ConstantSums.{find_all}
use Rattle.script65.specs.Laws.{TokensAreLongest}
use Rattle.script65.specs.Tokens.{Lexeme, IsLeadingToken, IsLongest, SpellsToken, spells_identifier, spells_decimal, spells_hex, spells_string, spells_output, spells_punctuator, identifier, numeral, string, output, none, is_letter, is_identifier_byte, is_string_byte, begins_with, string_after, hex_after, identifier_after, decimal_after, punctuators, punctuator}

-- ---- Texts whose bytes all satisfy a predicate.

all_front : (p : ℕ → Bool) (xs : List ℕ) → list_all p (take_while p xs) ≡ true
all_front p [] = refl
all_front p (x ∷ xs) = by (p x) refl (all_front p xs)
  where
    by : (b : Bool) → p x ≡ b → list_all p (take (prefix_len p xs) xs) ≡ true → list_all p (take (cond b (1 + prefix_len p xs) 0) (x ∷ xs)) ≡ true
    by false e h = refl
    by true e h = let s : 1 + prefix_len p xs ≡ suc (prefix_len p xs) = omega arith in rw s (ap (λ c. c && list_all p (take (prefix_len p xs) xs)) e ∙ h)

-- if the first `m` bytes satisfy the predicate, `m` is at most the length of the prefix
at_most : (p : ℕ → Bool) (m : ℕ) (xs : List ℕ) → m ≤ length xs → list_all p (take m xs) ≡ true → m ≤ prefix_len p xs
at_most p zero xs le h = omega arith
at_most p (suc m) [] le h = absurd (omega arith)
at_most p (suc m) (x ∷ xs) le h = by (p x) h (λ k. at_most p m xs (omega arith) k)
  where
    by : (b : Bool) → (b && list_all p (take m xs)) ≡ true → (list_all p (take m xs) ≡ true → m ≤ prefix_len p xs) → suc m ≤ cond b (1 + prefix_len p xs) 0
    by true h again = omega (arith, again h)
    by false h again = absurd cc

-- ---- The first bytes of a token.

pub data Begins (c : ℕ) (cs : List ℕ) : Type 0 where
  by_word : is_letter c ≡ true → list_all is_identifier_byte cs ≡ true → Begins c cs
  by_decimal : is_ascii_digit c ≡ true → list_all is_ascii_digit cs ≡ true → Begins c cs
  by_hex : c ≡ 36 → (d : ℕ) (ds : List ℕ) → cs ≡ d ∷ ds → list_all is_ascii_hexdigit cs ≡ true → Begins c cs
  by_string : c ≡ 34 → (text : List ℕ) → cs ≡ text ++ 34 ∷ [] → list_all is_string_byte text ≡ true → is_utf8 text ≡ true → list_any (λ b. b == 37) text ≡ false → Begins c cs
  by_output : c ≡ 37 → cs ≡ 79 ∷ [] → Begins c cs
  by_mark : (l : Lexeme) → cs ≡ [] → find (λ (m : ℕ × Lexeme). c == m.0) punctuators ≡ Some (c, l) → Begins c cs

first_all : (p : ℕ → Bool) (b : ℕ) (bs : List ℕ) → list_all p (b ∷ bs) ≡ true → (p b ≡ true) × (list_all p bs ≡ true)
first_all p b bs h = by (p b) (list_all p bs) h
  where
    by : (x y : Bool) → (x && y) ≡ true → (x ≡ true) × (y ≡ true)
    by true true h = (refl, refl)
    by true false h = absurd cc
    by false y h = absurd cc

begins : (t : List ℕ) (k : Lexeme) → SpellsToken t k → (c : ℕ) (cs : List ℕ) → t ≡ c ∷ cs → Begins c cs
begins _ _ (spells_identifier b bs h k) c cs e = let x : b ≡ c = cc in let y : bs ≡ cs = cc in by_word (ap is_letter (sym x) ∙ h) (ap (list_all is_identifier_byte) (sym y) ∙ k)
begins _ _ (spells_decimal b bs h) c cs e = let x : b ≡ c = cc in let y : bs ≡ cs = cc in let f = first_all is_ascii_digit b bs h in by_decimal (ap is_ascii_digit (sym x) ∙ f.0) (ap (list_all is_ascii_digit) (sym y) ∙ f.1)
begins _ _ (spells_hex b bs h) c cs e = let x : 36 ≡ c = cc in let y : b ∷ bs ≡ cs = cc in by_hex (sym x) b bs (sym y) (ap (list_all is_ascii_hexdigit) (sym y) ∙ h)
begins _ _ (spells_string text h k m) c cs e = let x : 34 ≡ c = cc in let y : text ++ 34 ∷ [] ≡ cs = cc in by_string (sym x) text (sym y) h k m
begins _ _ spells_output c cs e = let x : 37 ≡ c = cc in let y : 79 ∷ [] ≡ cs = cc in by_output (sym x) (sym y)
begins _ _ (spells_punctuator b l h) c cs e = let x : b ≡ c = cc in let y : [] ≡ cs = cc in by_mark l (sym y) (subst (λ b. find (λ (m : ℕ × Lexeme). b == m.0) punctuators ≡ Some (b, l)) x h)

apart : (x : ℕ) (xs ys : List ℕ) → xs ≡ [] → xs ≡ x ∷ ys → ⊥
apart x xs ys e f = let never : [] ≡ x ∷ ys = sym e ∙ f in cc

some_text : (t : List ℕ) (k : Lexeme) → SpellsToken t k → t ≡ [] → ⊥
some_text _ _ (spells_identifier b bs h k) e = absurd cc
some_text _ _ (spells_decimal b bs h) e = absurd cc
some_text _ _ (spells_hex b bs h) e = absurd cc
some_text _ _ (spells_string text h k m) e = absurd cc
some_text _ _ spells_output e = absurd cc
some_text _ _ (spells_punctuator b l h) e = absurd cc

-- a property of the length of each token, by the token's first bytes
module _ (b : ℕ) (bs : List ℕ) (P : ℕ → Type 0) (bound : (m : ℕ) → m ≤ length bs → Begins b (take m bs) → P (suc m)) where
  by_begin : (m : ℕ) (k : Lexeme) → m ≤ length (b ∷ bs) → SpellsToken (take m (b ∷ bs)) k → P m
  by_begin zero k le h = absurd (some_text (take 0 (b ∷ bs)) k h refl)
  by_begin (suc m) k le h = bound m (omega arith) (begins (take (suc m) (b ∷ bs)) k h b (take m bs) refl)

none_left : (m : ℕ) (xs : List ℕ) → m ≤ length xs → take m xs ≡ [] → m ≡ 0
none_left m xs le e = omega (arith, length-take m xs, ap length e)

-- ---- Mutually exclusive predicates.

letter_no_digit : (b : ℕ) → is_letter b ≡ true → is_ascii_digit b ≡ true → ⊥
letter_no_digit b h k = grind (arith, common_steps, nat_tests)

true_false : (x : Bool) → x ≡ true → x ≡ false → ⊥
true_false x h k = let never : true ≡ false = sym h ∙ k in cc

is_it : (b n : ℕ) → b ≡ n → (b == n) ≡ true
is_it b n e = eq-eqb b n e

-- ---- Each kind of token.

words : (b : ℕ) (bs : List ℕ) → is_letter b ≡ true → IsLongest (b ∷ bs) (identifier (b ∷ take_while is_identifier_byte bs)) (1 + length (take_while is_identifier_byte bs))
words b bs h = record {
  within = omega (arith, count, prefix_len-le-length is_identifier_byte bs);
  spells = subst (λ t. SpellsToken t (identifier (b ∷ take_while is_identifier_byte bs))) (sym front_is) (spells_identifier b (take_while is_identifier_byte bs) h (all_front is_identifier_byte bs));
  longest = by_begin b bs (λ m. m ≤ 1 + length (take_while is_identifier_byte bs)) bound;
}
  where
    count : length (take_while is_identifier_byte bs) ≡ prefix_len is_identifier_byte bs
    count = length-prefix_len is_identifier_byte bs

    front_is : take (1 + length (take_while is_identifier_byte bs)) (b ∷ bs) ≡ b ∷ take_while is_identifier_byte bs
    front_is = let s : 1 + length (take_while is_identifier_byte bs) ≡ suc (prefix_len is_identifier_byte bs) = omega (arith, count) in rw s refl

    bound : (m : ℕ) → m ≤ length bs → Begins b (take m bs) → suc m ≤ 1 + length (take_while is_identifier_byte bs)
    bound m le (by_word x y) = omega (arith, count, at_most is_identifier_byte m bs le y)
    bound m le (by_decimal x y) = absurd (letter_no_digit b h x)
    bound m le (by_hex e d ds f y) = let n : is_letter 36 ≡ true = ap is_letter (sym e) ∙ h in absurd cc
    bound m le (by_string e s f x y z) = let n : is_letter 34 ≡ true = ap is_letter (sym e) ∙ h in absurd cc
    bound m le (by_output e f) = let n : is_letter 37 ≡ true = ap is_letter (sym e) ∙ h in absurd cc
    bound m le (by_mark l e f) = omega (arith, none_left m bs le e)

decimals : (b : ℕ) (bs : List ℕ) → is_letter b ≡ false → is_ascii_digit b ≡ true → IsLongest (b ∷ bs) (numeral (digits 10 (b ∷ take_while is_ascii_digit bs))) (1 + length (take_while is_ascii_digit bs))
decimals b bs g h = record {
  within = omega (arith, count, prefix_len-le-length is_ascii_digit bs);
  spells = subst (λ t. SpellsToken t (numeral (digits 10 (b ∷ take_while is_ascii_digit bs)))) (sym front_is) (spells_decimal b (take_while is_ascii_digit bs) (ap (λ c. c && list_all is_ascii_digit (take_while is_ascii_digit bs)) h ∙ all_front is_ascii_digit bs));
  longest = by_begin b bs (λ m. m ≤ 1 + length (take_while is_ascii_digit bs)) bound;
}
  where
    count : length (take_while is_ascii_digit bs) ≡ prefix_len is_ascii_digit bs
    count = length-prefix_len is_ascii_digit bs

    front_is : take (1 + length (take_while is_ascii_digit bs)) (b ∷ bs) ≡ b ∷ take_while is_ascii_digit bs
    front_is = let s : 1 + length (take_while is_ascii_digit bs) ≡ suc (prefix_len is_ascii_digit bs) = omega (arith, count) in rw s refl

    bound : (m : ℕ) → m ≤ length bs → Begins b (take m bs) → suc m ≤ 1 + length (take_while is_ascii_digit bs)
    bound m le (by_word x y) = absurd (true_false (is_letter b) x g)
    bound m le (by_decimal x y) = omega (arith, count, at_most is_ascii_digit m bs le y)
    bound m le (by_hex e d ds f y) = let n : is_ascii_digit 36 ≡ true = ap is_ascii_digit (sym e) ∙ h in absurd cc
    bound m le (by_string e s f x y z) = let n : is_ascii_digit 34 ≡ true = ap is_ascii_digit (sym e) ∙ h in absurd cc
    bound m le (by_output e f) = let n : is_ascii_digit 37 ≡ true = ap is_ascii_digit (sym e) ∙ h in absurd cc
    bound m le (by_mark l e f) = omega (arith, none_left m bs le e)

no_mark : (b n : ℕ) (l : Lexeme) → b ≡ n → find (λ (m : ℕ × Lexeme). n == m.0) punctuators ≡ None → find (λ (m : ℕ × Lexeme). b == m.0) punctuators ≡ Some (b, l) → ⊥
no_mark b n l e out some = let never : ◌≡◌ {A = Option (ℕ × Lexeme)} None (Some (b, l)) = sym out ∙ ap (λ n. find (λ (m : ℕ × Lexeme). n == m.0) punctuators) (sym e) ∙ some in absurd cc

apart_numbers : (m n : ℕ) → (m == n) ≡ false → m ≡ n → ⊥
apart_numbers m n h e = true_false (m == n) (eq-eqb m n e) h

no_hex : (bs : List ℕ) → take_while is_ascii_hexdigit bs ≡ [] → (m : ℕ) (k : Lexeme) → m ≤ length (36 ∷ bs) → SpellsToken (take m (36 ∷ bs)) k → ⊥
no_hex bs e = by_begin 36 bs (λ m. ⊥) bound
  where
    bound : (m : ℕ) → m ≤ length bs → Begins 36 (take m bs) → ⊥
    bound m le (by_word x y) = true_false (is_letter 36) x refl
    bound m le (by_decimal x y) = true_false (is_ascii_digit 36) x refl
    bound m le (by_hex f d ds g y) =
        let small : m ≤ prefix_len is_ascii_hexdigit bs = at_most is_ascii_hexdigit m bs le y in
        let zero_there : m ≡ 0 = omega (arith, length-prefix_len is_ascii_hexdigit bs, ap length e) in
        apart d (take m bs) ds (ap (λ n. take n bs) zero_there) g
    bound m le (by_string f s g x y z) = apart_numbers 36 34 refl f
    bound m le (by_output f g) = apart_numbers 36 37 refl f
    bound m le (by_mark l f g) = no_mark 36 36 l refl refl g

hexes : (d : ℕ) (bs ds : List ℕ) → take_while is_ascii_hexdigit bs ≡ d ∷ ds → IsLongest (36 ∷ bs) (numeral (digits 16 (d ∷ ds))) (1 + length (d ∷ ds))
hexes d bs ds e = record {
  within = omega (arith, count, prefix_len-le-length is_ascii_hexdigit bs);
  spells = subst (λ t. SpellsToken t (numeral (digits 16 (d ∷ ds)))) (sym front_is) (spells_hex d ds (ap (list_all is_ascii_hexdigit) (sym e) ∙ all_front is_ascii_hexdigit bs));
  longest = by_begin 36 bs (λ m. m ≤ 1 + length (d ∷ ds)) bound;
}
  where
    count : length (d ∷ ds) ≡ prefix_len is_ascii_hexdigit bs
    count = sym (ap length e) ∙ length-prefix_len is_ascii_hexdigit bs

    front_is : take (1 + length (d ∷ ds)) (36 ∷ bs) ≡ 36 ∷ d ∷ ds
    front_is = let s : 1 + length (d ∷ ds) ≡ suc (prefix_len is_ascii_hexdigit bs) = omega (arith, count) in ap (λ n. take n (36 ∷ bs)) s ∙ ap (λ l. 36 ∷ l) e

    bound : (m : ℕ) → m ≤ length bs → Begins 36 (take m bs) → suc m ≤ 1 + length (d ∷ ds)
    bound m le (by_word x y) = absurd (true_false (is_letter 36) x refl)
    bound m le (by_decimal x y) = absurd (true_false (is_ascii_digit 36) x refl)
    bound m le (by_hex f c cs g y) = omega (arith, count, at_most is_ascii_hexdigit m bs le y)
    bound m le (by_string f s g x y z) = absurd (apart_numbers 36 34 refl f)
    bound m le (by_output f g) = absurd (apart_numbers 36 37 refl f)
    bound m le (by_mark l f g) = omega (arith, none_left m bs le f)

-- ---- Strings.

begins_within : (n : ℕ) (bs : List ℕ) → begins_with 34 (drop n bs) ≡ true → n < length bs
begins_within n bs h = by (drop n bs) refl h
  where
    by : (rest : List ℕ) → drop n bs ≡ rest → begins_with 34 rest ≡ true → n < length bs
    by [] e k = absurd cc
    by (c ∷ cs) e k = omega (arith, length-drop n bs, ap length e)

closed : (n : ℕ) (bs : List ℕ) → begins_with 34 (drop n bs) ≡ true → take (suc n) bs ≡ take n bs ++ 34 ∷ []
closed zero [] h = absurd cc
closed zero (c ∷ cs) h = ap (λ c. c ∷ []) (eqb-true c 34 h)
closed (suc n) [] h = absurd cc
closed (suc n) (c ∷ cs) h = ap (λ l. c ∷ l) (closed n cs h)

-- the text of a string, and its closing quote
split : (s bs : List ℕ) (m : ℕ) → take m bs ≡ s ++ 34 ∷ [] → list_all is_string_byte s ≡ true → (take_while is_string_byte bs ≡ s) × (begins_with 34 (drop (length s) bs) ≡ true)
split [] bs zero e h = absurd cc
split [] [] (suc m) e h = absurd cc
split [] (c ∷ cs) (suc m) e h = let x : c ≡ 34 = cc in subst (λ c. (take_while is_string_byte (c ∷ cs) ≡ []) × ((c == 34) ≡ true)) (sym x) (refl, refl)
split (y ∷ ys) bs zero e h = absurd cc
split (y ∷ ys) [] (suc m) e h = absurd cc
split (y ∷ ys) (c ∷ cs) (suc m) e h =
    let x : c ≡ y = cc in
    let rest : take m cs ≡ ys ++ 34 ∷ [] = cc in
    let f = first_all is_string_byte y ys h in
    let more = split ys cs m rest f.1 in
    let s : 1 + prefix_len is_string_byte cs ≡ suc (prefix_len is_string_byte cs) = omega arith in
    (ap (λ b. take (cond b (1 + prefix_len is_string_byte cs) 0) (c ∷ cs)) (ap is_string_byte x ∙ f.0) ∙ ap (λ n. take n (c ∷ cs)) s ∙ ap (λ c. c ∷ take_while is_string_byte cs) x ∙ ap (λ l. y ∷ l) more.0, more.1)

-- the properties of a text that begins with a string
record IsString (bs text : List ℕ) : Type 0 where
  pub closes : begins_with 34 (drop (length text) bs) ≡ true
  pub utf8 : is_utf8 text ≡ true
  pub folds : not (list_any (λ b. b == 37) text) ≡ true

string_of : (bs s : List ℕ) (m : ℕ) → take m bs ≡ s ++ 34 ∷ [] → list_all is_string_byte s ≡ true → is_utf8 s ≡ true → list_any (λ b. b == 37) s ≡ false → IsString bs (take_while is_string_byte bs)
string_of bs s m e h u p =
    let both = split s bs m e h in
    subst (IsString bs) (sym both.0) (record { closes = both.1; utf8 = u; folds = ap not p })

string_bound : (bs : List ℕ) (m : ℕ) → m ≤ length bs → Begins 34 (take m bs) → (m ≡ 1 + length (take_while is_string_byte bs)) × IsString bs (take_while is_string_byte bs)
string_bound bs m le (by_word x y) = absurd (true_false (is_letter 34) x refl)
string_bound bs m le (by_decimal x y) = absurd (true_false (is_ascii_digit 34) x refl)
string_bound bs m le (by_hex f d ds g y) = absurd (apart_numbers 34 36 refl f)
string_bound bs m le (by_string f s g x y z) =
    let both = split s bs m g x in
    (omega (arith, length-take m bs, ap length g, length-append s (34 ∷ []), ap length both.0), string_of bs s m g x y z)
string_bound bs m le (by_output f g) = absurd (apart_numbers 34 37 refl f)
string_bound bs m le (by_mark l f g) = absurd (no_mark 34 34 l refl refl g)

strings : (bs : List ℕ) → IsString bs (take_while is_string_byte bs) → IsLongest (34 ∷ bs) (string (take_while is_string_byte bs)) (2 + length (take_while is_string_byte bs))
strings bs h = record {
  within = omega (arith, begins_within (length (take_while is_string_byte bs)) bs h.closes);
  spells = subst (λ t. SpellsToken t (string (take_while is_string_byte bs))) (sym front_is) (spells_string (take_while is_string_byte bs) (all_front is_string_byte bs) h.utf8 (unfolded (list_any (λ b. b == 37) (take_while is_string_byte bs)) h.folds));
  longest = by_begin 34 bs (λ m. m ≤ 2 + length (take_while is_string_byte bs)) (λ m le b. omega (arith, (string_bound bs m le b).0));
}
  where
    unfolded : (x : Bool) → not x ≡ true → x ≡ false
    unfolded false k = refl
    unfolded true k = absurd cc

    n : ℕ
    n = length (take_while is_string_byte bs)

    front_is : take (2 + length (take_while is_string_byte bs)) (34 ∷ bs) ≡ 34 ∷ (take_while is_string_byte bs ++ 34 ∷ [])
    front_is =
        let s : 2 + length (take_while is_string_byte bs) ≡ suc (suc (length (take_while is_string_byte bs))) = omega arith in
        ap (λ n. take n (34 ∷ bs)) s ∙ ap (λ l. 34 ∷ l) (closed (length (take_while is_string_byte bs)) bs h.closes ∙ ap (λ n. take n bs ++ 34 ∷ []) (length-prefix_len is_string_byte bs))

string_front : (bs : List ℕ) → IsLeadingToken (34 ∷ bs) (string_after (take_while is_string_byte bs) bs).0 (string_after (take_while is_string_byte bs) bs).1
string_front bs = by (begins_with 34 (drop (length text) bs)) refl (is_utf8 text) refl (not (list_any (λ b. b == 37) text)) refl
  where
    text : List ℕ
    text = take_while is_string_byte bs

    answer : Bool → Lexeme × ℕ
    answer x = if x then (string (take_while is_string_byte bs), 2 + length (take_while is_string_byte bs)) else (none, 1)

    never : (IsString bs (take_while is_string_byte bs) → ⊥) → (m : ℕ) (k : Lexeme) → m ≤ length (34 ∷ bs) → SpellsToken (take m (34 ∷ bs)) k → ⊥
    never out = by_begin 34 bs (λ m. ⊥) (λ m le b. out (string_bound bs m le b).1)

    by : (x : Bool) → begins_with 34 (drop (length (take_while is_string_byte bs)) bs) ≡ x → (y : Bool) → is_utf8 (take_while is_string_byte bs) ≡ y → (z : Bool) → not (list_any (λ b. b == 37) (take_while is_string_byte bs)) ≡ z → IsLeadingToken (34 ∷ bs) (answer (x && y && z)).0 (answer (x && y && z)).1
    by true h true k true l = strings bs (record { closes = h; utf8 = k; folds = l })
    by true h true k false l = never (λ s. true_false (not (list_any (λ b. b == 37) (take_while is_string_byte bs))) s.folds l)
    by true h false k z l = never (λ s. true_false (is_utf8 (take_while is_string_byte bs)) s.utf8 k)
    by false h y k z l = never (λ s. true_false (begins_with 34 (drop (length (take_while is_string_byte bs)) bs)) s.closes h)

-- ---- `%O`.

output_bound : (bs : List ℕ) (m : ℕ) → m ≤ length bs → Begins 37 (take m bs) → (m ≡ 1) × (begins_with 79 bs ≡ true)
output_bound bs m le (by_word x y) = absurd (true_false (is_letter 37) x refl)
output_bound bs m le (by_decimal x y) = absurd (true_false (is_ascii_digit 37) x refl)
output_bound bs m le (by_hex f d ds g y) = absurd (apart_numbers 37 36 refl f)
output_bound bs m le (by_string f s g x y z) = absurd (apart_numbers 37 34 refl f)
output_bound bs m le (by_output f g) = (omega (arith, length-take m bs, ap length g), capital bs m g)
  where
    capital : (bs : List ℕ) (m : ℕ) → take m bs ≡ 79 ∷ [] → begins_with 79 bs ≡ true
    capital bs zero e = absurd cc
    capital [] (suc m) e = absurd cc
    capital (c ∷ cs) (suc m) e = let x : c ≡ 79 = cc in eq-eqb c 79 x
output_bound bs m le (by_mark l f g) = absurd (no_mark 37 37 l refl refl g)

output_front : (bs : List ℕ) → IsLeadingToken (37 ∷ bs) (if◌then◌else◌ {A = Lexeme × ℕ} (begins_with 79 bs) (output, 2) (none, 1)).0 (if◌then◌else◌ {A = Lexeme × ℕ} (begins_with 79 bs) (output, 2) (none, 1)).1
output_front bs = by bs (begins_with 79 bs) refl
  where
    by : (bs : List ℕ) (x : Bool) → begins_with 79 bs ≡ x → IsLeadingToken (37 ∷ bs) (if◌then◌else◌ {A = Lexeme × ℕ} x (output, 2) (none, 1)).0 (if◌then◌else◌ {A = Lexeme × ℕ} x (output, 2) (none, 1)).1
    by bs false h = by_begin 37 bs (λ m. ⊥) (λ m le b. true_false (begins_with 79 bs) (output_bound bs m le b).1 h)
    by [] true h = absurd cc
    by (c ∷ cs) true h =
        let x : c ≡ 79 = eqb-true c 79 h in
        record {
          within = omega arith;
          spells = subst (λ c. SpellsToken (take 2 (37 ∷ c ∷ cs)) output) (sym x) spells_output;
          longest = by_begin 37 (c ∷ cs) (λ m. m ≤ 2) (λ m le b. omega (arith, (output_bound (c ∷ cs) m le b).0));
        }

-- ---- Punctuators.

found : {A : Type 0} (p : A → Bool) (xs : List A) (x : A) → find p xs ≡ Some x → p x ≡ true
found p [] x e = absurd cc
found p (y ∷ ys) x e = by (p y) refl e (λ f. found p ys x f)
  where
    by : (b : Bool) → p y ≡ b → cond b (Some y) (find p ys) ≡ Some x → (find p ys ≡ Some x → p x ≡ true) → p x ≡ true
    by true h e again = let same : y ≡ x = cc in ap p (sym same) ∙ h
    by false h e again = again e

mark_front : (b : ℕ) (bs : List ℕ) → is_letter b ≡ false → is_ascii_digit b ≡ false → (b == 36) ≡ false → (b == 34) ≡ false → (b == 37) ≡ false → IsLeadingToken (b ∷ bs) (punctuator b) 1
mark_front b bs letter digit dollar quote percent = by (find (λ (m : ℕ × Lexeme). b == m.0) punctuators) refl
  where
    bound : (m : ℕ) → m ≤ length bs → Begins b (take m bs) → (m ≡ 0) × (l : Lexeme) × (find (λ (m : ℕ × Lexeme). b == m.0) punctuators ≡ Some (b, l))
    bound m le (by_word x y) = absurd (true_false (is_letter b) x letter)
    bound m le (by_decimal x y) = absurd (true_false (is_ascii_digit b) x digit)
    bound m le (by_hex f d ds g y) = absurd (true_false (b == 36) (eq-eqb b 36 f) dollar)
    bound m le (by_string f s g x y z) = absurd (true_false (b == 34) (eq-eqb b 34 f) quote)
    bound m le (by_output f g) = absurd (true_false (b == 37) (eq-eqb b 37 f) percent)
    bound m le (by_mark l f g) = (none_left m bs le f, l, g)

    by : (o : Option (ℕ × Lexeme)) → find (λ (m : ℕ × Lexeme). b == m.0) punctuators ≡ o → IsLeadingToken (b ∷ bs) (option_map_or (λ (m : ℕ × Lexeme). m.1) o none) 1
    by None h = by_begin b bs (λ m. ⊥) (λ m le x. let there = bound m le x in let never : ◌≡◌ {A = Option (ℕ × Lexeme)} None (Some (b, there.1)) = sym h ∙ there.2 in absurd cc)
    by (Some r) h =
        let same : b ≡ r.0 = eqb-true b r.0 (found (λ (m : ℕ × Lexeme). b == m.0) punctuators r h) in
        let whole : find (λ (m : ℕ × Lexeme). b == m.0) punctuators ≡ Some (b, r.1) = h ∙ ap (λ n. Some (n, r.1)) (sym same) in
        find_all (λ (m : ℕ × Lexeme). IsLongest (b ∷ bs) m.1 1 → IsLeadingToken (b ∷ bs) m.1 1) (λ (m : ℕ × Lexeme). b == m.0) punctuators r (λ i. i, (λ i. i, (λ i. i, (λ i. i, (λ i. i, (λ i. i, (λ i. i, (λ i. i, tt)))))))) h
        (record {
          within = omega arith;
          spells = spells_punctuator b r.1 whole;
          longest = by_begin b bs (λ m. m ≤ 1) (λ m le x. omega (arith, (bound m le x).0));
        })

pub longest_tokens : TokensAreLongest
longest_tokens [] = refl
longest_tokens (b ∷ bs) = by (is_letter b) refl (is_ascii_digit b) refl (b == 36) refl (b == 34) refl (b == 37) refl
  where
    answer : Bool → Bool → Bool → Bool → Bool → Lexeme × ℕ
    answer x y z u v =
        if x then identifier_after b (take_while is_identifier_byte bs)
        else if y then decimal_after b (take_while is_ascii_digit bs)
        else if z then hex_after (take_while is_ascii_hexdigit bs)
        else if u then string_after (take_while is_string_byte bs) bs
        else if v then (if begins_with 79 bs then (output, 2) else (none, 1))
        else (punctuator b, 1)

    hex_there : (ds : List ℕ) → take_while is_ascii_hexdigit bs ≡ ds → IsLeadingToken (36 ∷ bs) (hex_after ds).0 (hex_after ds).1
    hex_there [] e = no_hex bs e
    hex_there (d ∷ ds) e = hexes d bs ds e

    by : (x : Bool) → is_letter b ≡ x → (y : Bool) → is_ascii_digit b ≡ y → (z : Bool) → (b == 36) ≡ z → (u : Bool) → (b == 34) ≡ u → (v : Bool) → (b == 37) ≡ v → IsLeadingToken (b ∷ bs) (answer x y z u v).0 (answer x y z u v).1
    by true h y i z j u k v l = words b bs h
    by false h true i z j u k v l = decimals b bs h i
    by false h false i true j u k v l = let e : b ≡ 36 = eqb-true b 36 j in subst (λ b. IsLeadingToken (b ∷ bs) (hex_after (take_while is_ascii_hexdigit bs)).0 (hex_after (take_while is_ascii_hexdigit bs)).1) (sym e) (hex_there (take_while is_ascii_hexdigit bs) refl)
    by false h false i false j true k v l = let e : b ≡ 34 = eqb-true b 34 k in subst (λ b. IsLeadingToken (b ∷ bs) (string_after (take_while is_string_byte bs) bs).0 (string_after (take_while is_string_byte bs) bs).1) (sym e) (string_front bs)
    by false h false i false j false k true l = let e : b ≡ 37 = eqb-true b 37 l in subst (λ b. IsLeadingToken (b ∷ bs) (if◌then◌else◌ {A = Lexeme × ℕ} (begins_with 79 bs) (output, 2) (none, 1)).0 (if◌then◌else◌ {A = Lexeme × ℕ} (begins_with 79 bs) (output, 2) (none, 1)).1) (sym e) (output_front bs)
    by false h false i false j false k false l = mark_front b bs h i j k l
