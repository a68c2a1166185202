-- Digits, and numbers whose digits continue up to the last identifier byte.
use Rattle.std.proofs.lemmas.Grind.{common_steps}
use Rattle.std.proofs.Common.{◌≡◌, ℕ, ◌+◌, ◌*◌, ◌^◌, ◌<◌, ◌≤◌, Bool, true, false, List, [], ◌∷◌, length, drop, get_or, Option, Some, None, refl, sym, ap, ◌∙◌, arith, nat_lt, ◌≢◌, ◌-◌, take, one-add}
use Rattle.std.specs.Prelude.{◌==◌, slice_get, slice_index, IfSome}
use Rattle.std.specs.List.{prefix_len}
use Rattle.std.specs.Char.{digit_value}
use Rattle.std.proofs.lemmas.Bool.Decides.{nat_tests}
use Rattle.std.proofs.lemmas.List.{get_or-take}
use Rattle.base65.specs.Digit.{digits}
use Rattle.base65.proofs.Digit.{digits_from, next_digit}
use Rattle.syntax65.specs.Forms.{number_of, plain_number_of, is_identifier_byte}
use Rattle.std.proofs.lemmas.List.Folds.{length-prefix_len}
use Rattle.std.proofs.lemmas.List.Sums.{prefix_len_passes, prefix_len_stops}
use Rattle.syntax65.specs.Internal.Positions.{AreDigitsAhead, IsPlainNumber}

-- ---- The value of digits, by the value so far and the rest.

test_true : (a b : ℕ) → a < b → nat_lt a b ≡ true
test_true a b h = grind (arith, nat_tests)

pub one_digit : (radix v d : ℕ) (ds : List ℕ) → digit_value d < radix → digits_from radix v (d ∷ ds) ≡ digits_from radix (v * radix + digit_value d) ds
one_digit radix v d ds h = let e : nat_lt (digit_value d) radix ≡ true = test_true _ _ h in rw e refl

-- ---- Digits are identifier bytes.

digit_word : (b : ℕ) → b < 256 → digit_value b < 16 → is_identifier_byte b ≡ true
digit_word b h d = grind (arith, common_steps)

-- ---- The number of leading digits.

more_word : (bs : List ℕ) (i : ℕ) → i < length bs → i ≤ prefix_len is_identifier_byte bs → is_identifier_byte (get_or bs i 0) ≡ true → i + 1 ≤ prefix_len is_identifier_byte bs
more_word bs i lt le w = go (nat_lt i (prefix_len is_identifier_byte bs)) refl
  where
    go : (b : Bool) → nat_lt i (prefix_len is_identifier_byte bs) ≡ b → i + 1 ≤ prefix_len is_identifier_byte bs
    go true e = grind (arith, nat_tests)
    go false e =
        let at : prefix_len is_identifier_byte bs ≡ i = grind (arith, nat_tests) in
        let stop : is_identifier_byte (get_or bs (prefix_len is_identifier_byte bs) 0) ≡ false = prefix_len_stops is_identifier_byte bs 0 (omega (arith, at)) in
        let same : is_identifier_byte (get_or bs (prefix_len is_identifier_byte bs) 0) ≡ true = ap (λ n. is_identifier_byte (get_or bs n 0)) at ∙ w in
        absurd cc

pub word_ends : (bs : List ℕ) (i : ℕ) → i ≤ prefix_len is_identifier_byte bs → is_identifier_byte (get_or bs i 0) ≡ false → i ≡ prefix_len is_identifier_byte bs
word_ends bs i le w = grind (arith, common_steps, prefix_len_passes, nat_tests)

-- one further digit
pub goes_on : (bs : List ℕ) (i v d radix : ℕ) → radix ≤ 16 → get_or bs i 0 < 256 → i < length bs → i ≤ prefix_len is_identifier_byte bs → d ≡ digit_value (get_or bs i 0) → d < radix → digits_from radix v (drop i (take (prefix_len is_identifier_byte bs) bs)) ≡ digits_from radix 0 (take (prefix_len is_identifier_byte bs) bs) → (i + 1 ≤ prefix_len is_identifier_byte bs) × (digits_from radix (v * radix + d) (drop (i + 1) (take (prefix_len is_identifier_byte bs) bs)) ≡ digits_from radix 0 (take (prefix_len is_identifier_byte bs) bs))
goes_on bs i v d radix r byte lt le e small same =
    let n = prefix_len is_identifier_byte bs in
    let text = take n bs in
    let more : i + 1 ≤ n = more_word bs i lt le (digit_word (get_or bs i 0) byte (omega (arith, e))) in
    let len : length text ≡ n = length-prefix_len is_identifier_byte bs in
    let here : get_or text i 0 ≡ get_or bs i 0 = get_or-take n bs i 0 (omega (arith, more)) in
    let digit : digit_value (get_or text i 0) ≡ d = ap digit_value here ∙ sym e in
    let next : digits_from radix v (drop i text) ≡ digits_from radix (v * radix + digit_value (get_or text i 0)) (drop (i + 1) text) = ap (digits_from radix v) (next_digit text i (omega (arith, len))) ∙ one_digit radix v (get_or text i 0) (drop (i + 1) text) (omega (arith, digit)) in
    (more, ap (λ k. digits_from radix (v * radix + k) (drop (i + 1) text)) (sym digit) ∙ sym next ∙ same)

-- the end of the digits
pub are_ahead : (bs : List ℕ) (i v radix : ℕ) → i ≡ prefix_len is_identifier_byte bs → 0 < i → v < 2 ^ 32 → digits_from radix v (drop i (take (prefix_len is_identifier_byte bs) bs)) ≡ digits_from radix 0 (take (prefix_len is_identifier_byte bs) bs) → AreDigitsAhead radix bs v i
are_ahead bs i v radix at some small same = grind (arith, common_steps)

-- ---- Complete numbers.

with_sign : (sign radix : ℕ) (bs : List ℕ) (v n : ℕ) → ((l : List ℕ) → number_of (sign ∷ l) ≡ digits radix l) → AreDigitsAhead radix bs v n → IsPlainNumber (sign ∷ bs) v (1 + n)
with_sign sign radix bs v n h (e, f) = (ap (λ k. 1 + k) e, ap (λ k. number_of (take k (sign ∷ bs))) (one-add n) ∙ h (take n bs) ∙ f)

not_none : (v : ℕ) → ◌≡◌ {A = Option ℕ} None (Some v) → ⊥
not_none v e = absurd cc

-- the last of some decimal digits is no `h`
no_h : (text : List ℕ) (v : ℕ) → digits 10 text ≡ Some v → (slice_index text (length text - 1) == 104) ≡ false
no_h x v e = grind (arith, common_steps)

of_digits : (text : List ℕ) (v : ℕ) → digits 10 text ≡ Some v → plain_number_of text ≡ Some v
of_digits text v e = let h = no_h text v e in rw h e

other : (a b : ℕ) → a ≢ b → (a == b) ≡ false
other a b h = grind (arith, nat_tests)

-- a number without a leading `$` or `%`
without_sign : (here : List ℕ) (b v n : ℕ) → Some b ≡ slice_get here 0 → b ≢ 36 → b ≢ 37 → AreDigitsAhead 10 here v n → IsPlainNumber here v n
without_sign [] b v n h p q a = absurd cc
without_sign (x ∷ bs) b v n h p q (e, f) = go (is_identifier_byte x) refl
  where
    same : b ≡ x
    same = cc

    go : (t : Bool) → is_identifier_byte x ≡ t → IsPlainNumber (x ∷ bs) v n
    go false w =
        let n0 : n ≡ 0 = e ∙ rw w refl in
        absurd (not_none v (sym (ap (λ k. digits 10 (take k (x ∷ bs))) n0) ∙ f))
    go true w =
        let n1 : n ≡ 1 + prefix_len is_identifier_byte bs = e ∙ rw w refl in
        let m = prefix_len is_identifier_byte bs in
        let text : take n (x ∷ bs) ≡ x ∷ take m bs = ap (λ k. take k (x ∷ bs)) (n1 ∙ one-add m) in
        let value : plain_number_of (x ∷ take m bs) ≡ Some v = of_digits (x ∷ take m bs) v (ap (digits 10) (sym text) ∙ f) in
        let no36 : (x == 36) ≡ false = other x 36 (λ k. p (same ∙ k)) in
        let no37 : (x == 37) ≡ false = other x 37 (λ k. q (same ∙ k)) in
        (n1, ap number_of text ∙ rw (no36, no37) value)

-- a number with a leading `$` or `%`
pub signed_by : (sign radix : ℕ) (here : List ℕ) (b : ℕ) (d : ℕ × ℕ) (o : Option (ℕ × ℕ)) → ((l : List ℕ) → number_of (sign ∷ l) ≡ digits radix l) → Some b ≡ slice_get here 0 → b ≡ sign → AreDigitsAhead radix (drop 1 here) d.0 d.1 → IfSome o (λ r. (r.0 ≡ d.0) × (r.1 ≡ 1 + d.1)) → IfSome o (λ r. IsPlainNumber here r.0 r.1)
signed_by sign radix here b d None h e s a k = tt
signed_by sign radix [] b d (Some r) h e s a k = absurd cc
signed_by sign radix (x ∷ bs) b d (Some r) h e s a k =
    let same : sign ≡ x = cc in
    let plain : IsPlainNumber (sign ∷ bs) d.0 (1 + d.1) = with_sign sign radix bs d.0 d.1 h a in
    rw (k.0, k.1, ← same) plain

pub unsigned : (here : List ℕ) (b : ℕ) (o : Option (ℕ × ℕ)) → Some b ≡ slice_get here 0 → b ≢ 36 → b ≢ 37 → IfSome o (λ r. AreDigitsAhead 10 here r.0 r.1) → IfSome o (λ r. IsPlainNumber here r.0 r.1)
unsigned here b None e p q k = tt
unsigned here b (Some r) e p q k = without_sign here b r.0 r.1 e p q k
