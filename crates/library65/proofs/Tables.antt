-- The table of first exporters by name.
use Rattle.std.proofs.lemmas.Grind.{common_steps}
use Rattle.std.proofs.Common.{◌≡◌, ◌∙◌, ◌<◌, ℕ, ◌+◌, Bool, true, false, ◌||◌, cond, List, [], ◌∷◌, ◌++◌, length, take, get_or, Option, Some, refl, sym, ap, arith, if◌then◌else◌}
use Rattle.std.specs.Str.{bytes_eq}
use Rattle.std.proofs.lemmas.Cmp.{nat_list_eq_equiv}
use Rattle.std.proofs.lemmas.List.{take_more}
use Rattle.std.proofs.lemmas.List.Folds.{list_any-append}
use Rattle.object65.specs.Objects.{is_among}

-- one further item of a list
pub taken_more : {X : Type 0} (xs : List X) (i : ℕ) (x : X) → i < length xs → x ≡ get_or xs i x → take (i + 1) xs ≡ take i xs ++ x ∷ []
taken_more xs i x lt at = take_more xs i x lt ∙ ap (λ y. take i xs ++ y ∷ []) (sym at)

joined : (a b c : Bool) (index : ℕ) (old : Option ℕ) → b ≡ c → cond b (Some index) (if a then Some index else old) ≡ (if a || (c || false) then Some index else old)
joined true true c index old e = refl
joined true false c index old e = refl
joined false b true index old e = rw e refl
joined false b false index old e = rw e refl

-- one further export of a member
pub export_more : (names : List (List ℕ)) (i : ℕ) (n key name : List ℕ) (index : ℕ) (old mid new : Option ℕ) → i < length names → n ≡ get_or names i n → key ≡ n → new ≡ cond (bytes_eq key name) (Some index) mid → mid ≡ (if is_among (take i names) name then Some index else old) → new ≡ (if is_among (take (i + 1) names) name then Some index else old)
export_more names i n key name index old mid new lt at is step so_far = grind (arith, common_steps, joined, nat_list_eq_equiv, taken_more, list_any-append)
