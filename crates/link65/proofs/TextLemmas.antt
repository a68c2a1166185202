-- Texts: hex digits, lines, and names as they are printed.
use Rattle.std.proofs.lemmas.Grind.{common_steps}
use Rattle.std.proofs.Common.{◌≡◌, ◌∙◌, ◌<◌, ◌≤◌, ◌/◌, ◌%◌, ◌-◌, ◌+◌, ◌*◌, ◌^◌, ℕ, zero, suc, List, [], ◌∷◌, ◌++◌, length, refl, sym, ap, arith, drop, get_or, append_assoc, take, add-one, false, map, nat_eq}
use Rattle.std.proofs.lemmas.Nat.{pow-add}
use native.Mathlib.Nat.{div-div-eq-div-mul}
use Rattle.std.proofs.lemmas.List.{length-append}
use Rattle.link65.specs.Texts.{hex_digit, hex_digits, is_data}
use Rattle.std.specs.List.{flat_map, list_any}
use Rattle.script65.proofs.ListLemmas.{drop_item}
use Rattle.std.specs.Prelude.{codes, encode_utf8, encode_utf8_all, not, replicate}
use Rattle.script65.proofs.AreaLemmas.{take_more}
use Rattle.link65.specs.Faults.{comma_separated, separator_after}
use Rattle.std.proofs.lemmas.Bool.Decides.{nat_tests}
use Rattle.link65.specs.declared.parts.SegmentPiece.{SegmentPiece}
use Rattle.link65.specs.declared.parts.SegmentPiece.TheVariants.{Known, Filled}
use Rattle.link65.specs.CodeInvariants.{piece_cells}
use Rattle.link65.specs.Programs.{known, filled}

-- ---- Hex digits.

-- the digits of `n` are those of `n / 16` and then the last digit
pub hex_step : (count n : ℕ) → 0 < count → hex_digits count n ≡ hex_digits (count - 1) (n / 16) ++ hex_digit (n % 16) ∷ []
hex_step zero n h = absurd (omega arith)
hex_step (suc count) n h = let e : suc count - 1 ≡ count = omega arith in rw e refl

-- the digits but for the last `left` ones
abbrev pub IsBefore : ℕ → ℕ → ℕ → List ℕ → Type 0
IsBefore count n left digits = (digits ≡ hex_digits (count - left) (n / 2 ^ (4 * left))) × (length digits ≡ count - left)

-- one further digit
pub one_more : (count n left now d : ℕ) (digits new : List ℕ) → 0 < left → left ≤ count → now ≡ left - 1 → IsBefore count n left digits → d ≡ hex_digit (n / 2 ^ (4 * now) % 16) → new ≡ digits ++ d ∷ [] → IsBefore count n now new
one_more count n left now d digits new some within is before digit after = (
  after
      ∙ ap (λ x. digits ++ x ∷ []) digit
      ∙ ap (λ m. m ++ hex_digit (n / 2 ^ (4 * now) % 16) ∷ []) before.0
      ∙ ap (λ m. hex_digits (count - left) m ++ hex_digit (n / 2 ^ (4 * now) % 16) ∷ []) higher
      ∙ ap (λ k. hex_digits k (n / 2 ^ (4 * now) / 16) ++ hex_digit (n / 2 ^ (4 * now) % 16) ∷ []) fewer
      ∙ sym (hex_step (count - now) (n / 2 ^ (4 * now)) (omega (arith, some, within, is))),
  ap length after ∙ length-append digits (d ∷ []) ∙ omega (arith, before.1, some, within, is),
)
  where
    fewer : count - left ≡ count - now - 1
    fewer = omega (arith, some, within, is)

    four : 4 * left ≡ 4 * now + 4
    four = omega (arith, some, is)

    higher : n / 2 ^ (4 * left) ≡ n / 2 ^ (4 * now) / 16
    higher = ap (λ k. n / 2 ^ k) four ∙ ap (λ k. n / k) (pow-add 2 (4 * now) 4) ∙ sym (div-div-eq-div-mul n (2 ^ (4 * now)) 16)

-- ---- Lines in sequence.

pub lines_next : {A : Type 0} (f : A → List ℕ) (xs : List A) (i : ℕ) (x : A) (text line new whole : List ℕ) → i < length xs → x ≡ get_or xs i x → new ≡ text ++ line → line ≡ f x → text ++ flat_map f (drop i xs) ≡ whole → new ++ flat_map f (drop (i + 1) xs) ≡ whole
lines_next f xs i x text line new whole lt at more same inv = grind (arith, common_steps)

-- ---- Names as they are printed.

encoded : (a b : List ℕ) → encode_utf8_all (a ++ b) ≡ encode_utf8_all a ++ encode_utf8_all b
encoded [] b = refl
encoded (x ∷ a) b = ap (λ l. encode_utf8 x ++ l) (encoded a b) ∙ sym (append_assoc (encode_utf8 x) (encode_utf8_all a) (encode_utf8_all b))

listed_push : (names : List (List ℕ)) (name : List ℕ) → comma_separated (names ++ name ∷ []) ≡ comma_separated names ++ (separator_after names ++ name)
listed_push [] name = refl
listed_push (x ∷ []) name = append_assoc x (codes ", ") name
listed_push (x ∷ y ∷ names) name = grind (arith, common_steps, (listed_push (y ∷ names) name), append_assoc)

separator_encoded : (names : List (List ℕ)) → encode_utf8_all (separator_after names) ≡ separator_after names
unfolding lib.Utf8.encode
separator_encoded x = grind (arith, common_steps)

pub next_names : (names : List (List ℕ)) (i : ℕ) (name : List ℕ) → i < length names → name ≡ get_or names i name → take i names ++ name ∷ [] ≡ take (i + 1) names
next_names names i name lt at = sym (rw add-one (take_more names i name _ (drop_item names i name lt at)))

-- one further name
pub names_more : (names : List (List ℕ)) (i : ℕ) (name separator : List ℕ) → i < length names → name ≡ get_or names i name → separator ≡ separator_after (take i names) → encode_utf8_all (comma_separated (take i names)) ++ (separator ++ encode_utf8_all name) ≡ encode_utf8_all (comma_separated (take (i + 1) names))
names_more names i name separator lt at is = grind (arith, common_steps, separator_encoded, encoded, listed_push, next_names)

pub next_separator : (names : List (List ℕ)) (name : List ℕ) → codes ", " ≡ separator_after (names ++ name ∷ [])
next_separator x name = grind (arith, common_steps)

-- the same for the names' bytes
pub next_listed : (names : List (List ℕ)) (i : ℕ) (name separator : List ℕ) → i < length names → name ≡ get_or names i name → separator ≡ separator_after (take i names) → (comma_separated (take i names) ++ separator) ++ name ≡ comma_separated (take (i + 1) names)
next_listed names i name separator lt at is = grind (arith, common_steps, append_assoc, listed_push, next_names)

-- ---- Data in pieces.

known_data : (bytes : List ℕ) → not (nat_eq (length bytes) 0) ≡ list_any is_data (map known bytes)
known_data [] = refl
known_data (b ∷ bytes) = let some : nat_eq (length (b ∷ bytes)) 0 ≡ false = grind (arith, nat_tests) in rw some refl

filled_data : (n : ℕ) → false ≡ list_any is_data (replicate n filled)
filled_data zero = refl
filled_data (suc n) = filled_data n

pub known_piece : (p : SegmentPiece) (bytes : List ℕ) (n : ℕ) → p ≡ Known bytes → n ≡ length bytes → not (nat_eq n 0) ≡ list_any is_data (piece_cells p)
known_piece p bytes n is e = rw (is, e) (known_data bytes)

pub filled_piece : (p : SegmentPiece) (n : ℕ) → p ≡ Filled n → false ≡ list_any is_data (piece_cells p)
filled_piece p n is = rw is (filled_data n)
