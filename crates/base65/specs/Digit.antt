-- Values of digits.
use Rattle.std.specs.Prelude.{ℕ, Bool, ◌^◌, ◌≤◌, ◌&&◌, List, [], ◌∷◌, Option, Some, None, nat_lt, if◌then◌else◌}
use Rattle.std.specs.List.{list_all}
use Rattle.std.specs.Char.{digit_value}
use Rattle.std.specs.Str.Parse.{digits_value}

abbrev pub IsRadix : ℕ → Type 0
IsRadix r = (2 ≤ r) × (r ≤ 16)

abbrev pub is_digit : ℕ → ℕ → Bool
is_digit radix b = nat_lt (digit_value b) radix

-- the value of one or more digits, if below 2 ^ 32
abbrev pub digits : ℕ → List ℕ → Option ℕ
digits radix [] = None
digits radix (b ∷ bs) =
    if list_all (is_digit radix) (b ∷ bs) && nat_lt (digits_value radix (b ∷ bs)) (2 ^ 32)
    then Some (digits_value radix (b ∷ bs))
    else None
