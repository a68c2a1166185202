-- The value of digits, by the value so far and the rest.
use Rattle.std.proofs.lemmas.Grind.{common_steps}
use Rattle.std.proofs.Common.{◌≡◌, ℕ, ◌+◌, ◌*◌, ◌^◌, ◌<◌, ◌≤◌, Bool, true, false, List, [], ◌∷◌, length, drop, get_or, Option, Some, None, refl, sym, ap, ◌∙◌, arith, nat_lt, add-one}
use Rattle.std.specs.Prelude.{◌&&◌, if◌then◌else◌}
use Rattle.std.specs.List.{list_all}
use Rattle.std.specs.Char.{digit_value}
use Rattle.std.specs.Str.Parse.{digits_value_after}
use Rattle.std.proofs.lemmas.Bool.Decides.{nat_tests}
use Rattle.std.proofs.Math.Seq.{drop-cons}
use Rattle.std.proofs.lemmas.List.{drop_all}
use Rattle.std.proofs.Math.Nat.{le-mul_of_pos_right}
use Rattle.base65.specs.Digit.{is_digit, digits}

abbrev pub digits_from : ℕ → ℕ → List ℕ → Option ℕ
digits_from radix v ds =
    if list_all (is_digit radix) ds && nat_lt (digits_value_after radix v ds) (2 ^ 32)
    then Some (digits_value_after radix v ds)
    else None

test_true : (a b : ℕ) → a < b → nat_lt a b ≡ true
test_true a b h = grind (arith, nat_tests)

test_false : (a b : ℕ) → b ≤ a → nat_lt a b ≡ false
test_false a b h = grind (arith, nat_tests)

and_false : (a : Bool) → (a && false) ≡ false
and_false true = refl
and_false false = refl

grows : (radix v : ℕ) (ds : List ℕ) → 0 < radix → v ≤ digits_value_after radix v ds
grows radix v [] h = omega arith
grows radix v (d ∷ ds) h = omega (arith, grows radix (v * radix + digit_value d) ds h, le-mul_of_pos_right v h)

pub too_large : (radix v d : ℕ) (ds : List ℕ) → 0 < radix → 2 ^ 32 ≤ v * radix + digit_value d → digits_from radix v (d ∷ ds) ≡ None
too_large radix v d ds pos h = grind (arith, common_steps, test_false, grows, and_false)

pub no_more_digits : (radix v : ℕ) → v < 2 ^ 32 → digits_from radix v [] ≡ Some v
no_more_digits radix v h = let e : nat_lt v (2 ^ 32) ≡ true = test_true _ _ h in rw e refl

pub next_digit : (text : List ℕ) (i : ℕ) → i < length text → drop i text ≡ get_or text i 0 ∷ drop (i + 1) text
next_digit text i h = rw add-one (drop-cons text i 0 h)

pub stops : (text : List ℕ) (i v radix : ℕ) → i < length text → digits_from radix v (drop i text) ≡ digits radix text → 0 < radix → 2 ^ 32 ≤ v * radix + digit_value (get_or text i 0) → digits radix text ≡ None
stops text i v radix lt inv pos large = grind (arith, common_steps, next_digit, too_large)

pub ends : (text : List ℕ) (i v radix : ℕ) → length text ≤ i → digits_from radix v (drop i text) ≡ digits radix text → v < 2 ^ 32 → digits radix text ≡ Some v
ends text i v radix le inv small = sym inv ∙ ap (digits_from radix v) (drop_all i text le) ∙ no_more_digits radix v small
