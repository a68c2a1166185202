-- Lemmas about the tokens at the beginning and after the end of a text, and about last terms.
use Rattle.std.proofs.Common.{arith, ◌≡◌, ◌<◌, ◌≤◌, ℕ, zero, suc, ◌+◌, ◌-◌, Bool, true, false, List, [], ◌∷◌, length, take, drop, slice_get, slice_index_or, refl, sym, ap, ◌∙◌}
use Rattle.std.specs.Prelude.{if◌then◌else◌}
use Rattle.std.specs.Char.{is_ascii_digit}
use Rattle.std.specs.List.{prefix_len, take_while}
use Rattle.std.specs.Option.{option_map_or}
use Rattle.std.proofs.lemmas.List.{drop_all}
use Rattle.std.proofs.lemmas.List.Folds.{length-prefix_len}
use Rattle.base65.specs.Digit.{digits}
use Rattle.script65.specs.Entries.{ParsedTerm, last_term_offset}
use Rattle.script65.specs.Tokens.{decimal_after, leading_token, gap, is_letter, is_identifier_byte, numeral, token, identifier, identifier_after, token_bytes}

take_more : (n : ℕ) (b : ℕ) (bs : List ℕ) → take (1 + n) (b ∷ bs) ≡ b ∷ take n bs
take_more n b bs = let e : 1 + n ≡ suc n = omega arith in rw e refl

words : (b : ℕ) (bs : List ℕ) → (identifier (take (1 + prefix_len is_identifier_byte bs) (b ∷ bs)), 1 + prefix_len is_identifier_byte bs) ≡ identifier_after b (take_while is_identifier_byte bs)
words b bs = rw (length-prefix_len is_identifier_byte bs, take_more (prefix_len is_identifier_byte bs) b bs) refl

decimals : (b : ℕ) (bs : List ℕ) → (numeral (digits 10 (take (1 + prefix_len is_ascii_digit bs) (b ∷ bs))), 1 + prefix_len is_ascii_digit bs) ≡ decimal_after b (take_while is_ascii_digit bs)
decimals b bs = rw (length-prefix_len is_ascii_digit bs, take_more (prefix_len is_ascii_digit bs) b bs) refl

all : {A : Type 0} (xs : List A) → take (length xs) xs ≡ xs
all [] = refl
all (x ∷ xs) = ap (λ l. x ∷ l) (all xs)

rest_is : (b : ℕ) (bs : List ℕ) → take (length (b ∷ bs) - 1) (drop 1 (b ∷ bs)) ≡ bs
rest_is b bs = let e : length (b ∷ bs) - 1 ≡ length bs = omega arith in rw e (all bs)

chosen : {A : Type 0} (x : Bool) (a c : A) → x ≡ true → (if x then a else c) ≡ a
chosen true a c h = refl
chosen false a c h = absurd cc

passed : {A : Type 0} (x : Bool) (a c : A) → x ≡ false → (if x then a else c) ≡ c
passed true a c h = absurd cc
passed false a c h = refl

-- an identifier or a number at the beginning
pub front_word : (here : List ℕ) → 1 ≤ length here → is_letter (slice_index_or here 0 0) ≡ true → let n = prefix_len is_identifier_byte (take (length here - 1) (drop 1 here)) in (identifier (take (1 + n) here), 1 + n) ≡ leading_token here
front_word [] le h = absurd (omega arith)
front_word (b ∷ bs) le h = rw (rest_is b bs) (words b bs ∙ sym (chosen (is_letter b) _ _ h))

pub front_number : (here : List ℕ) → 1 ≤ length here → is_letter (slice_index_or here 0 0) ≡ false → is_ascii_digit (slice_index_or here 0 0) ≡ true → let n = prefix_len is_ascii_digit (take (length here - 1) (drop 1 here)) in (numeral (digits 10 (take (1 + n) here)), 1 + n) ≡ leading_token here
front_number [] le l d = absurd (omega arith)
front_number (b ∷ bs) le l d = rw (rest_is b bs) (decimals b bs ∙ sym (passed (is_letter b) _ _ l ∙ chosen (is_ascii_digit b) _ _ d))

take_none : (n : ℕ) → ◌≡◌ {A = List ℕ} (take n []) []
take_none zero = refl
take_none (suc n) = refl

-- after the end of a text there is no token
pub none_after : (bytes : List ℕ) (at : ℕ) → length bytes < at → [] ≡ token_bytes bytes (token bytes at)
unfolding token
none_after bytes at h =
    let from = at + gap false (drop at bytes) in
    let none : drop from bytes ≡ [] = drop_all from bytes (omega arith) in
    sym (ap (take ((from + (leading_token (drop from bytes)).1) - from)) none ∙ take_none ((from + (leading_token (drop from bytes)).1) - from))

-- the offset of the last term
pub last_is : (ps : List ParsedTerm) → option_map_or (λ (p : ParsedTerm). p.at) (slice_get ps (length ps - 1)) 0 ≡ last_term_offset ps
last_is [] = refl
last_is (p ∷ []) = refl
last_is (p ∷ q ∷ ps) = let e : length (p ∷ q ∷ ps) - 1 ≡ suc (length (q ∷ ps) - 1) = omega arith in rw e (last_is (q ∷ ps))
