-- Each step of a scan preserves the invariants of its state.
use Rattle.std.proofs.lemmas.Grind.{common_steps}
use Rattle.std.proofs.Common.{◌≡◌, ◌∙◌, ◌≤◌, ◌<◌, ◌+◌, ℕ, zero, suc, get_or, set, Bool, true, false, ◌&&◌, List, [], ◌∷◌, ◌++◌, length, refl, arith, nat_eq, cond, ◌==◌, Result, Ok}
use Rattle.std.proofs.lemmas.Bool.Decides.{nat_tests}
use Rattle.std.specs.List.{list_all, prefix_len}
use Rattle.object65.specs.declared.fault.ObjectError.{ObjectError}
use Rattle.object65.specs.declared.record.Item.{Item}
use Rattle.object65.specs.Record.{◌>>=◌, RawRecord}
use Rattle.object65.specs.Items.{State, with_item, with_items}
use Rattle.object65.specs.Laws.{ItemsBuildObject}
use Rattle.object65.specs.Scanning.{Outline, items_of, outline_of, scan_step, state_after_record, state_after_records}
use Rattle.object65.proofs.Scannings.{Leads, leads}

-- ---- Prefixes of items that satisfy a predicate.

one_more : (b : Bool) (n k m : ℕ) → (n ≤ k → n ≤ m) → suc n ≤ cond b (1 + k) 0 → suc n ≤ cond b (1 + m) 0
one_more true n k m less h = let rest = less (omega arith) in omega (arith, rest)
one_more false n k m less h = absurd (omega arith)

-- replacing the item at `n` doesn't shorten the prefix to less than `n`
pub front-set : {X : Type 0} (p : X → Bool) (xs : List X) (n : ℕ) (y : X) → n ≤ prefix_len p xs → n ≤ prefix_len p (set xs n y)
front-set p [] n y h = h
front-set p (x ∷ xs) zero y h = omega arith
front-set p (x ∷ xs) (suc n) y h = one_more (p x) n (prefix_len p xs) (prefix_len p (set xs n y)) (front-set p xs n y) h

at_least : (b : Bool) (k m : ℕ) → k ≤ m → cond b (1 + k) 0 ≤ cond b (1 + m) 0
at_least true k m h = omega (arith, h)
at_least false k m h = omega arith

longer : {X : Type 0} (p : X → Bool) (xs ys : List X) → prefix_len p xs ≤ prefix_len p (xs ++ ys)
longer p [] ys = omega arith
longer p (x ∷ xs) ys = at_least (p x) (prefix_len p xs) (prefix_len p (xs ++ ys)) (longer p xs ys)

-- appending items doesn't shorten the prefix
pub front-push : {X : Type 0} (p : X → Bool) (xs ys : List X) (n : ℕ) → n ≤ prefix_len p xs → n ≤ prefix_len p (xs ++ ys)
front-push p xs ys n h = omega (arith, longer p xs ys)

all_more : (b r : Bool) (k m : ℕ) → nat_eq k m ≡ r → nat_eq (cond b (1 + k) 0) (suc m) ≡ (b && r)
all_more true r k m h =
    let same : nat_eq (1 + k) (suc m) ≡ nat_eq k m = grind (arith, nat_tests) in
    same ∙ h
all_more false r k m h = grind (arith, nat_tests)

-- all items are in the prefix if and only if the prefix is as long as the list
pub front-all : {X : Type 0} (p : X → Bool) (xs : List X) → nat_eq (prefix_len p xs) (length xs) ≡ list_all p xs
front-all p [] = refl
front-all p (x ∷ xs) = all_more (p x) (list_all p xs) (prefix_len p xs) (length xs) (front-all p xs)

step_on : (b : Bool) (i k : ℕ) → (i ≤ k → i + 1 ≤ k) → suc i ≤ cond b (1 + k) 0 → suc i + 1 ≤ cond b (1 + k) 0
step_on true i k on h = let rest = on (omega arith) in omega (arith, rest)
step_on false i k on h = absurd (omega arith)

-- an item right after the prefix that satisfies the predicate belongs to the prefix
pub front-on : {X : Type 0} (p : X → Bool) (xs : List X) (i : ℕ) (d : X) → i < length xs → p (get_or xs i d) ≡ true → i ≤ prefix_len p xs → i + 1 ≤ prefix_len p xs
front-on p [] i d within passes h = absurd (omega arith)
front-on p (x ∷ xs) zero d within passes h = rw passes (omega arith)
front-on p (x ∷ xs) (suc i) d within passes h = step_on (p x) i (prefix_len p xs) (front-on p xs i d (omega arith) passes) h

step_ends : (b : Bool) (i k : ℕ) → (i ≤ k → i ≡ k) → suc i ≤ cond b (1 + k) 0 → suc i ≡ cond b (1 + k) 0
step_ends true i k ends h = let rest = ends (omega arith) in omega (arith, rest)
step_ends false i k ends h = absurd (omega arith)

-- the prefix ends at an item that doesn't satisfy the predicate
pub front-ends : {X : Type 0} (p : X → Bool) (xs : List X) (i : ℕ) (d : X) → p (get_or xs i d) ≡ false → i ≤ prefix_len p xs → i ≡ prefix_len p xs
front-ends p [] i d stops h = omega arith
front-ends p (x ∷ xs) zero d stops h = rw stops refl
front-ends p (x ∷ xs) (suc i) d stops h = step_ends (p x) i (prefix_len p xs) (front-ends p xs i d stops) h

-- ---- The items of records lead to the state of the records.

one_step : (s : State) (es : List RawRecord) (last : Bool) (q : Result (Outline × Item) ObjectError) → Leads s last q → ((t : State) → (items_of (outline_of t) es >>= (λ is. Ok (with_items t is))) ≡ state_after_records t es) → ((q >>= (λ x. items_of x.0 es >>= (λ is. Ok (x.1 ∷ is)))) >>= (λ is. Ok (with_items s is))) ≡ ((q >>= (λ x. Ok (with_item s x.1))) >>= (λ t. state_after_records t es))
one_step s es last x a rest = grind (arith, common_steps)

pub items_make : ItemsBuildObject
unfolding state_after_record
items_make s [] = refl
items_make s (e ∷ es) = one_step s es (e.kind == 8) (scan_step (outline_of s) e) (leads s e) (λ t. items_make t es)
