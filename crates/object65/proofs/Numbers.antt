-- Little-endian numbers: no other bytes of the same length encode the same number.
use Rattle.std.proofs.lemmas.Grind.{common_steps}
use Rattle.std.proofs.Common.{◌≡◌, ◌∙◌, ℕ, zero, suc, ◌+◌, ◌*◌, ◌<◌, ◌≤◌, ◌^◌, List, [], ◌∷◌, ◌++◌, length, take, drop, refl, sym, ap, arith}
use Rattle.std.proofs.Math.Nat.{mod-lt}
use Rattle.std.proofs.lemmas.List.{get_or-drop, length-take}
use Rattle.std.specs.Int.{bytes_low_first}
use Rattle.byteorder.specs.Endian.{little_from, little_number, little_bytes}
use Rattle.byteorder.specs.Numbers.{little_from-cons, little_from-take, little_from-lt, little_number-reads_back, length-bytes_low_first}
use Rattle.object65.specs.Record.{IsBytes}

pub bytes_drop : (n : ℕ) (xs : List ℕ) → IsBytes xs → IsBytes (drop n xs)
bytes_drop n xs is i = rw (get_or-drop n xs i 0) (is (n + i))

-- the first `n` items of a list of bytes are bytes
pub bytes_take : (n : ℕ) (xs : List ℕ) → IsBytes xs → IsBytes (take n xs)
bytes_take zero xs is i = omega arith
bytes_take (suc n) [] is i = omega arith
bytes_take (suc n) (x ∷ xs) is zero = is zero
bytes_take (suc n) (x ∷ xs) is (suc i) = bytes_take n xs (λ j. is (suc j)) i

-- the bytes of a number are bytes
pub bytes_of : (i n x : ℕ) → IsBytes (bytes_low_first i n x)
bytes_of i zero x k = omega arith
bytes_of zero (suc n) x zero = mod-lt x (omega arith)
bytes_of (suc i) (suc n) x zero = mod-lt _ (omega arith)
bytes_of i (suc n) x (suc k) = bytes_of (suc i) n x k

-- a number has only one encoding of each length
pub one_number : (n : ℕ) (a b : List ℕ) → IsBytes a → IsBytes b → length a ≡ n → length b ≡ n → little_number n a ≡ little_number n b → a ≡ b
one_number zero [] [] is_a is_b la lb e = refl
one_number zero [] (y ∷ b) is_a is_b la lb e = absurd (omega arith)
one_number zero (x ∷ a) b is_a is_b la lb e = absurd (omega arith)
one_number (suc n) [] b is_a is_b la lb e = absurd (omega arith)
one_number (suc n) (x ∷ a) [] is_a is_b la lb e = absurd (omega arith)
one_number (suc n) (x ∷ a) (y ∷ b) is_a is_b la lb e =
    let below_x : x < 256 = is_a zero in
    let below_y : y < 256 = is_b zero in
    let sum : x + 256 * little_from 0 n a ≡ y + 256 * little_from 0 n b = ap (λ r. x + 256 * r) (sym (little_from-cons 0 n x a)) ∙ e ∙ ap (λ r. y + 256 * r) (little_from-cons 0 n y b) in
    let first : x ≡ y = omega arith in
    let rest : little_from 0 n a ≡ little_from 0 n b = omega arith in
    let others = one_number n a b (λ i. is_a (suc i)) (λ i. is_b (suc i)) (omega arith) (omega arith) rest in
    λ i. first i ∷ others i

-- the first `n` bytes are the encoding of their number
pub front : (n : ℕ) (xs : List ℕ) → IsBytes xs → n ≤ length xs → little_bytes n (little_number n xs) ≡ take n xs
front n xs is long =
    let number : little_number n (little_bytes n (little_number n xs)) ≡ little_number n xs = ap (little_number n) (sym (nil (little_bytes n (little_number n xs)))) ∙ little_number-reads_back n (little_number n xs) [] (little_from-lt 0 n xs is) in
    one_number n (little_bytes n (little_number n xs)) (take n xs) (bytes_of 0 n (little_number n xs)) (bytes_take n xs is) (length-bytes_low_first 0 n (little_number n xs)) (omega (arith, length-take n xs)) (number ∙ sym (little_from-take 0 n n xs (omega arith)))
  where
    nil : (xs : List ℕ) → xs ++ [] ≡ xs
    nil [] = refl
    nil (x ∷ xs) = ap (λ ys. x ∷ ys) (nil xs)

-- decoding an encoded number
pub back : (n x : ℕ) (rest : List ℕ) → x < 256 ^ n → little_number n (little_bytes n x ++ rest) ≡ x
back n x rest fits = little_number-reads_back n x rest fits

pub two_bytes : (b c : ℕ) → b < 256 → c < 256 → little_bytes 2 (little_number 2 (b ∷ c ∷ [])) ≡ b ∷ c ∷ []
two_bytes b c hb hc = grind (arith, common_steps)
