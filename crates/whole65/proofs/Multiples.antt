-- Powers of two, their multiples, and positions after a multiple.
use Rattle.std.proofs.lemmas.Grind.{common_steps}
use Rattle.std.proofs.Common.{◌≡◌, ℕ, true, nat_eq, arith, zero, suc, ◌+◌, ◌-◌, ◌*◌, ◌^◌, ◌%◌, ◌/◌, ◌≤◌, ◌<◌, ◌⊎◌, inl, inr, max, sym, ◌∙◌, ap, subst, refl, List, [], ◌∷◌, ◌++◌, map, Bool, Option, Some, None, min}
use Rattle.std.proofs.lemmas.Bool.Decides.{nat_tests}
use Rattle.std.specs.Int.{next_multiple_of}
use Rattle.std.proofs.Math.Nat.{mul-add-mod_self_left, div-add-mod, add_assoc, mul_assoc, mod-eq_of_lt, mod_self}
use Rattle.std.proofs.lemmas.Nat.{pow-add, pow_pos, mod_below}
use Rattle.whole65.specs.Offsets.{IsMultiple, IsPower, ArePowers}
use Rattle.semantics65.specs.Symbols.{LaidOutStatement, Symbols}
use Rattle.ast65.specs.declared.language.Statement.{Statement}
use Rattle.ast65.specs.declared.language.Statement.TheVariants.{Align}
use Rattle.whole65.specs.Segments.{SegmentItem, ModuleStatement, end_after, end_of, largest_multiple, statement_item, statement_end}
use Rattle.std.specs.Prelude.{ℤ, pos, negsuc, not, ◌==◌}
use Rattle.std.specs.List.{AllByRecursion, list_any}
use Rattle.ast65.specs.declared.fault.AsmFault.{AsmFault}
use Rattle.ast65.specs.declared.fault.AsmFault.TheVariants.{BadAlignment}
use Rattle.semantics65.specs.Layout.{Cursor, laid_out_statement, statement_alignment, powers, context_of, alignment_fault, line_fault, alignment_value_fault, fault_if}
use Rattle.semantics65.specs.Norms.{constant_in, nat_or_zero}
use Rattle.syntax65.specs.declared.source_location.SourceLocation.{SourceLocation}
use Rattle.script65.specs.Placing.{rounded_up}

-- ---- Decidable equality.

pub equal : (n m : ℕ) → nat_eq n m ≡ true → n ≡ m
equal n m e = grind (arith, nat_tests)

-- ---- Powers of two and their multiples.

-- of two powers the smaller divides the larger
power_divides : (a c : ℕ) → a ≤ c → IsMultiple (2 ^ c) (2 ^ a)
power_divides a c h =
    let whole : a + (c - a) ≡ c = omega arith in
    record { factor = 2 ^ (c - a); product = ap (λ n. 2 ^ n) (sym whole) ∙ pow-add 2 a (c - a) }

pub multiple_of_multiple : (b n m : ℕ) → IsMultiple b m → IsMultiple m n → IsMultiple b n
multiple_of_multiple b n m h k = grind (arith, common_steps, mul_assoc)

pub itself : (n : ℕ) → IsMultiple n n
itself n = record { factor = 1; product = omega arith }

-- the larger of two powers is a power and a multiple of both
pub record Larger (n m : ℕ) : Type 0 where
  pub is_power : IsPower (max n m)
  pub first : IsMultiple (max n m) n
  pub second : IsMultiple (max n m) m

split : (a c : ℕ) → (a ≤ c) ⊎ (c ≤ a)
split zero c = inl (omega arith)
split (suc a) zero = inr (omega arith)
split (suc a) (suc c) = grind (arith, common_steps, (split a c))

positive_multiple : (n m q : ℕ) → 0 < m → m ≡ n * q → n ≤ m
positive_multiple n m zero h e = absurd (omega (arith, h, e))
positive_multiple n m (suc q) h e = grind (arith, common_steps)

pub larger : (n m : ℕ) → IsPower n → IsPower m → Larger n m
larger n m p q = go (split p.exponent q.exponent)
  where
    go : (p.exponent ≤ q.exponent) ⊎ (q.exponent ≤ p.exponent) → Larger n m
    go (inl h) =
        let d : IsMultiple m n = subst (λ z. IsMultiple z n) (sym q.power) (subst (λ z. IsMultiple (2 ^ q.exponent) z) (sym p.power) (power_divides p.exponent q.exponent h)) in
        let pos_m : 0 < m = subst (λ z. 0 < z) (sym q.power) (pow_pos q.exponent) in
        let le : n ≤ m = positive_multiple n m d.factor pos_m d.product in
        let same : m ≡ max n m = omega (arith, le) in
        record { is_power = subst IsPower same q; first = subst (λ z. IsMultiple z n) same d; second = subst (λ z. IsMultiple z m) same (itself m) }
    go (inr h) =
        let d : IsMultiple n m = subst (λ z. IsMultiple z m) (sym p.power) (subst (λ z. IsMultiple (2 ^ p.exponent) z) (sym q.power) (power_divides q.exponent p.exponent h)) in
        let pos_n : 0 < n = subst (λ z. 0 < z) (sym p.power) (pow_pos p.exponent) in
        let le : m ≤ n = positive_multiple m n d.factor pos_n d.product in
        let same : n ≡ max n m = omega (arith, le) in
        record { is_power = subst IsPower same p; first = subst (λ z. IsMultiple z n) same (itself n); second = subst (λ z. IsMultiple z m) same d }

-- rounding up to a multiple of `n` commutes with adding a multiple of `n`
pub round_shift : (b o n : ℕ) → IsMultiple b n → next_multiple_of (b + o) n ≡ b + next_multiple_of o n
round_shift b o n h = grind (arith, common_steps, mul-add-mod_self_left, add_assoc)

of_parts : (x y q r : ℕ) → 0 < y → r < y → y * q + r ≡ x → IsMultiple (x + (y - r) % y) y
of_parts x y q zero pos_y h e =
    let same : y - 0 ≡ y = omega arith in
    let none : (y - 0) % y ≡ 0 = ap (λ n. n % y) same ∙ mod_self y in
    record { factor = q; product = omega (arith, none) }
of_parts x y q (suc r) pos_y h e =
    let less : y - suc r < y = omega arith in
    let small : (y - suc r) % y ≡ y - suc r = mod-eq_of_lt less in
    record { factor = suc q; product = omega (arith, small) }

-- a rounded number is a multiple
pub rounded : (x n : ℕ) → 0 < n → IsMultiple (next_multiple_of x n) n
rounded x n h = of_parts x n (x / n) (x % n) h (mod_below x n h) (div-add-mod x n)

pub power_positive : (n : ℕ) → IsPower n → 0 < n
power_positive n p = subst (λ z. 0 < z) (sym p.power) (pow_pos p.exponent)

-- ---- Statements that begin at a multiple of their alignment.

pub end_of-append : (position : ℕ) (xs ys : List SegmentItem) → end_of position (xs ++ ys) ≡ end_of (end_of position xs) ys
end_of-append position [] ys = refl
end_of-append position (x ∷ xs) ys = end_of-append (end_after position x) xs ys

pub largest_power : (xs : List ModuleStatement) → ArePowers xs → IsPower (largest_multiple xs)
largest_power [] h = record { exponent = 0; below = omega arith; power = refl }
largest_power (x ∷ xs) h = (larger x.alignment (largest_multiple xs) h.0 (largest_power xs h.1)).is_power

pub line_shift : (b o alignment : ℕ) (l : LaidOutStatement) → IsMultiple b alignment → statement_end (b + o) alignment l ≡ b + statement_end o alignment l
line_shift b o alignment l h = grind (arith, common_steps, round_shift, add_assoc)

pub end_shift : (xs : List ModuleStatement) (b o : ℕ) → ArePowers xs → IsMultiple b (largest_multiple xs) → end_of (b + o) (map statement_item xs) ≡ b + end_of o (map statement_item xs)
end_shift [] b o p h = refl
end_shift (x ∷ xs) b o p h =
    let both : Larger x.alignment (largest_multiple xs) = larger x.alignment (largest_multiple xs) p.0 (largest_power xs p.1) in
    let first = multiple_of_multiple b x.alignment (max x.alignment (largest_multiple xs)) h both.first in
    let others = multiple_of_multiple b (largest_multiple xs) (max x.alignment (largest_multiple xs)) h both.second in
    ap (λ n. end_of n (map statement_item xs)) (line_shift b o x.alignment x.laid first)
    ∙ end_shift xs b (statement_end o x.alignment x.laid) p.1 others

-- If statements begin at a multiple of their largest alignment, they end as far from there as from 0. So `.align` rounds a
-- position in the segment as it rounds an offset in the section.
pub shift_law : (xs : List ModuleStatement) (begin : ℕ) → ArePowers xs → IsMultiple begin (largest_multiple xs) → end_of begin (map statement_item xs) ≡ begin + end_of 0 (map statement_item xs)
shift_law xs b p h = let same : b ≡ b + 0 = omega arith in ap (λ n. end_of n (map statement_item xs)) same ∙ end_shift xs b 0 p h

-- ---- A statement ends its length after its offset, and its alignment is a power of two.

no_alignment_fault : (y : Symbols) (w : Cursor) (x : Statement) → line_fault y w x ≡ None → alignment_fault y (context_of w) x ≡ None
no_alignment_fault y w x h = grind (arith, common_steps)

-- ---- The operands of `.align`.

power_among : (n : ℕ) (ps : List ℕ) → AllByRecursion IsPower ps → list_any (λ m. m == n) ps ≡ true → IsPower n
power_among n [] h e = cc
power_among n (p ∷ ps) h e = grind (arith, common_steps, (power_among n ps h.1), equal)

power : (k n : ℕ) → k < 16 → n ≡ 2 ^ k → IsPower n
power k n lt e = record { exponent = k; below = lt; power = e }

all_powers : AllByRecursion IsPower powers
all_powers = (power 0 1 (omega arith) refl, (power 1 2 (omega arith) refl, (power 2 4 (omega arith) refl, (power 3 8 (omega arith) refl, (power 4 16 (omega arith) refl, (power 5 32 (omega arith) refl, (power 6 64 (omega arith) refl, (power 7 128 (omega arith) refl, (power 8 256 (omega arith) refl, (power 9 512 (omega arith) refl, (power 10 1024 (omega arith) refl, (power 11 2048 (omega arith) refl, (power 12 4096 (omega arith) refl, (power 13 8192 (omega arith) refl, (power 14 16384 (omega arith) refl, (power 15 32768 (omega arith) refl, tt))))))))))))))))

not_when : (b : Bool) (e : AsmFault) → fault_if (not b) e ≡ None → b ≡ true
not_when x1 e h = grind (arith, common_steps)

-- a constant that is a power of two
pub record IsAligned (r : Option ℤ) : Type 0 where
  pub alignment : ℕ
  pub value : r ≡ Some (pos alignment)
  pub is_power : IsPower alignment

aligned : (r : Option ℤ) → alignment_value_fault r ≡ None → IsAligned r
aligned (Some (pos n)) h = record { alignment = n; value = refl; is_power = power_among n powers all_powers (not_when (list_any (λ m. m == n) powers) BadAlignment h) }
aligned (Some (negsuc n)) h = absurd cc
aligned None h = absurd cc

pub multiple_power : (y : Symbols) (w : Cursor) (x : Statement) → line_fault y w x ≡ None → IsPower (statement_alignment y (context_of w) x)
multiple_power y w x h = go x (no_alignment_fault y w x h)
  where
    go : (x : Statement) → alignment_fault y (context_of w) x ≡ None → IsPower (statement_alignment y (context_of w) x)
    go (Align n v) h =
        let a = aligned (constant_in y (context_of w) n) h in
        subst (λ r. IsPower (nat_or_zero r)) (sym a.value) a.is_power
    go x h = record { exponent = 0; below = omega arith; power = refl }

-- ---- Ends.

pub line_ends : (y : Symbols) (w : Cursor) (place : SourceLocation) (x : Statement) → line_fault y w x ≡ None → statement_end (context_of w).offset (statement_alignment y (context_of w) x) (laid_out_statement y w place x) ≡ (context_of w).offset + (laid_out_statement y w place x).length
line_ends y w place x h = grind (arith, common_steps)

-- ---- Rounding up by quotients and by remainders.

by_parts : (x y q r : ℕ) → 0 < y → r < y → y * q + r ≡ x → (q + min 1 r) * y ≡ x + (y - r) % y
by_parts x y q x1 pos_y h e = grind (arith, common_steps)

-- the linker's `rounded_up` and the program's `next_multiple_of` are equal
pub rounding_law : (position n : ℕ) → 0 < n → rounded_up position n ≡ next_multiple_of position n
rounding_law position x1 h = grind (arith, common_steps, by_parts)
