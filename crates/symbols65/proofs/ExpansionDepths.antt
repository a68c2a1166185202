-- Normal forms at different depths of expansion.
use Rattle.std.proofs.lemmas.Grind.{common_steps}
use Rattle.std.proofs.Common.{◌≡◌, ℕ, zero, suc, ◌+◌, ◌-◌, ◌≤◌, refl, sym, ap, ◌∙◌, arith, Option, Some, None, slice_get, Result, Ok, Err, ◌⊎◌, inl, inr, ◌≢◌, List, [], ◌∷◌, length, Bool, true, false, nat_eq, append-nil}
use Rattle.base65.specs.Outcome.{◌>>=◌}
use Rattle.syntax65.specs.Trees.{Tree, number, here, name, cheap, forward, backward, unary, binary}
use Rattle.object65.specs.Form.{Form}
use Rattle.object65.specs.Folding.{fold1}
use Rattle.ast65.specs.declared.fault.AsmFault.{AsmFault}
use Rattle.ast65.specs.declared.fault.AsmFault.TheVariants.{Circular}
use Rattle.semantics65.specs.declared.contexts.Context.{Context}
use Rattle.semantics65.specs.Symbols.{Symbols, Definition, Binding, binding_of}
use Rattle.semantics65.specs.Norms.{fold_result, form_by, form_of_value, form_of_definition, form_of_binding, norm, norm_of}
use Rattle.std.proofs.Math.Path.{fun_ext}
use Rattle.std.specs.Prelude.{sum_by}
use Rattle.std.proofs.lemmas.Bool.Decides.{nat_tests}
use Rattle.std.proofs.lemmas.List.Sums.{sum_by-cons}
use Rattle.semantics65.specs.Norms.{Extends}

pub extends_itself : (y : Symbols) → Extends y y
extends_itself y = record { later_definitions = []; definitions = sym (append-nil y.definitions); later_scopes = []; scopes = sym (append-nil y.scopes) }

-- ---- Normal forms at different depths of expansion.

-- the results are equal, unless the first is circular
abbrev pub NormCache : Result Form AsmFault → Result Form AsmFault → Type 0
NormCache r s = (r ≡ Err Circular) ⊎ (r ≡ s)

pub known_then : (r s : Result Form AsmFault) (f g : Form → Result Form AsmFault) → NormCache r s → ((x : Form) → NormCache (f x) (g x)) → NormCache (r >>= f) (s >>= g)
known_then r s f g x h = grind (arith, common_steps)

known_form : (a b : Tree → Result Form AsmFault) (s : Context) → ((t : Tree) → NormCache (a t) (b t)) → (e : Tree) → NormCache (form_by a s e) (form_by b s e)
known_form a b s h (number v) = inr refl
known_form a b s h here = inr refl
known_form a b s h (name global parts) = h (name global parts)
known_form a b s h (cheap n) = h (cheap n)
known_form a b s h (forward n) = h (forward n)
known_form a b s h (backward n) = h (backward n)
known_form a b s h (unary op e) = known_then (form_by a s e) (form_by b s e) (λ f. fold_result (fold1 op f)) (λ f. fold_result (fold1 op f)) (known_form a b s h e) (λ x. inr refl)
known_form a b s h (binary op e g) = grind (arith, common_steps, (known_form a b s h e), (known_form a b s h g), known_then)

pub known_definition : (a b : Context → Tree → Result Form AsmFault) → ((s : Context) (e : Tree) → NormCache (a s e) (b s e)) → (o : Option Definition) → NormCache (form_of_definition a o) (form_of_definition b o)
known_definition a b h x = grind (arith, common_steps)

known_meaning : (a b : Context → Tree → Result Form AsmFault) (table : Symbols) → ((s : Context) (e : Tree) → NormCache (a s e) (b s e)) → (m : Binding) → NormCache (form_of_binding a table m) (form_of_binding b table m)
known_meaning a b table h x = grind (arith, common_steps, known_definition)

known_result : (a b : Context → Tree → Result Form AsmFault) (table : Symbols) → ((s : Context) (e : Tree) → NormCache (a s e) (b s e)) → (m : Result Binding AsmFault) → NormCache (m >>= form_of_binding a table) (m >>= form_of_binding b table)
known_result a b table h x = grind (arith, common_steps, known_meaning)

pub norm_known : (n : ℕ) (table : Symbols) (s : Context) (e : Tree) → NormCache (norm n table s e) (norm (suc n) table s e)
norm_known zero table s e = inl refl
norm_known (suc n) table s e =
    known_form (λ t. binding_of table s t >>= form_of_binding (norm n table) table) (λ t. binding_of table s t >>= form_of_binding (norm (suc n) table) table) s
    (λ t. known_result (norm n table) (norm (suc n) table) table (norm_known n table) (binding_of table s t)) e

-- ---- Courses: results at increasing depths.

-- the results of an expression or a constant at each depth of expansion
abbrev pub Course : Type 0
Course = ℕ → Result Form AsmFault

abbrev pub IsCourse : Course → Type 0
IsCourse v = (n : ℕ) → NormCache (v n) (v (suc n))

abbrev pub expression_course : Symbols → Context → Tree → Course
expression_course table s e n = norm n table s e

-- the course of the definition at an index
abbrev pub constant_course : Symbols → ℕ → Course
constant_course table j n = form_of_definition (norm n table) (slice_get table.definitions j)

-- the result at all sufficiently large depths
abbrev pub EventuallyEquals : Course → Result Form AsmFault → Type 0
EventuallyEquals v r = (n : ℕ) × ((k : ℕ) → n ≤ k → v k ≡ r)

pub expression_is : (table : Symbols) (s : Context) (e : Tree) → IsCourse (expression_course table s e)
expression_is table s e n = norm_known n table s e

pub constant_is : (table : Symbols) (j : ℕ) → IsCourse (constant_course table j)
constant_is table j n = known_definition (norm n table) (norm (suc n) table) (norm_known n table) (slice_get table.definitions j)

pub further : (v : Course) → IsCourse v → (d k : ℕ) → NormCache (v k) (v (d + k))
further v h zero k = let same : zero + k ≡ k = omega arith in rw same (inr refl)
further v h (suc d) k = grind (arith, common_steps, (further v h d k))

-- a form is preserved at larger depths
pub ok_later : (v : Course) → IsCourse v → (k n : ℕ) (f : Form) → k ≤ n → v k ≡ Ok f → v n ≡ Ok f
ok_later v h k n f le e = go (further v h (n - k) k)
  where
    go : NormCache (v k) (v (n - k + k)) → v n ≡ Ok f
    go (inl c) = cc
    go (inr same) = let here' : n - k + k ≡ n = omega arith in sym (ap v here') ∙ sym same ∙ e

-- a course with a form at some depth is circular or has the same form at each depth
pub ok_before : (v : Course) → IsCourse v → (k n : ℕ) (f : Form) → v n ≡ Ok f → NormCache (v k) (Ok f)
ok_before v h k n f e = go (further v h n k)
  where
    go : NormCache (v k) (v (n + k)) → NormCache (v k) (Ok f)
    go (inl c) = inl c
    go (inr same) = let swap : n + k ≡ k + n = omega arith in inr (same ∙ ap v swap ∙ stays (further v h k n))
      where
        stays : NormCache (v n) (v (k + n)) → v (k + n) ≡ Ok f
        stays (inl c) = cc
        stays (inr s) = sym s ∙ e

-- a circular course is circular at smaller depths
pub circular_before : (v : Course) → IsCourse v → (k n : ℕ) → k ≤ n → v n ≡ Err Circular → v k ≡ Err Circular
circular_before v h k n le e = go (further v h (n - k) k)
  where
    go : NormCache (v k) (v (n - k + k)) → v k ≡ Err Circular
    go (inl c) = c
    go (inr same) = let here' : n - k + k ≡ n = omega arith in same ∙ ap v here' ∙ e

-- ---- The number of circular definitions.

abbrev is_circular : Result Form AsmFault → ℕ
is_circular (Err Circular) = 1
is_circular _ = 0

at_most_one : (r : Result Form AsmFault) → is_circular r ≤ 1
at_most_one x = grind (arith, common_steps)

circular_is : (r : Result Form AsmFault) → 1 ≤ is_circular r → r ≡ Err Circular
circular_is x h = grind (arith, common_steps)

module _ (y : Symbols) where
  abbrev course_of : ℕ → Definition → Result Form AsmFault
  course_of n d = form_of_definition (norm n y) (Some d)

  course_known : (n : ℕ) (d : Definition) → NormCache (course_of n d) (course_of (suc n) d)
  course_known n d = known_definition (norm n y) (norm (suc n) y) (norm_known n y) (Some d)

  abbrev circular_at : ℕ → Definition → ℕ
  circular_at n d = is_circular (course_of n d)

  -- the number of circular definitions at a depth
  abbrev count : ℕ → List Definition → ℕ
  count n ds = sum_by (circular_at n) ds

  fewer_at : (n : ℕ) (d : Definition) → circular_at (suc n) d ≤ circular_at n d
  fewer_at n d = grind (arith, common_steps, course_known, at_most_one)

  fewer : (n : ℕ) (ds : List Definition) → count (suc n) ds ≤ count n ds
  fewer n [] = omega arith
  fewer n (d ∷ ds) =
      let one = fewer_at n d in
      let rest = fewer n ds in
      let sum : count n (d ∷ ds) ≡ circular_at n d + count n ds = sum_by-cons (circular_at n) d ds in
      let later : count (suc n) (d ∷ ds) ≡ circular_at (suc n) d + count (suc n) ds = sum_by-cons (circular_at (suc n)) d ds in
      omega (arith, one, rest, sum, later)

  at_most_all : (n : ℕ) (ds : List Definition) → count n ds ≤ length ds
  at_most_all n [] = omega arith
  at_most_all n (d ∷ ds) =
      let one = at_most_one (course_of n d) in
      let rest = at_most_all n ds in
      let sum : count n (d ∷ ds) ≡ circular_at n d + count n ds = sum_by-cons (circular_at n) d ds in
      omega (arith, one, rest, sum)

  -- a definition has the same result at the next depth, unless it is circular only at this one
  same_at : (n : ℕ) (d : Definition) → circular_at n d ≤ circular_at (suc n) d → course_of n d ≡ course_of (suc n) d
  same_at n d le = grind (arith, common_steps, course_known, circular_is)

  same_all : (n : ℕ) (ds : List Definition) → count n ds ≡ count (suc n) ds → (j : ℕ) → form_of_definition (norm n y) (slice_get ds j) ≡ form_of_definition (norm (suc n) y) (slice_get ds j)
  same_all n [] e j = refl
  same_all n (d ∷ ds) e zero =
      let sum : count n (d ∷ ds) ≡ circular_at n d + count n ds = sum_by-cons (circular_at n) d ds in
      let later : count (suc n) (d ∷ ds) ≡ circular_at (suc n) d + count (suc n) ds = sum_by-cons (circular_at (suc n)) d ds in
      let rest = fewer n ds in
      same_at n d (omega (arith, e, sum, later, rest))
  same_all n (d ∷ ds) e (suc j) =
      let sum : count n (d ∷ ds) ≡ circular_at n d + count n ds = sum_by-cons (circular_at n) d ds in
      let later : count (suc n) (d ∷ ds) ≡ circular_at (suc n) d + count (suc n) ds = sum_by-cons (circular_at (suc n)) d ds in
      let rest = fewer n ds in
      let one = fewer_at n d in
      same_all n ds (omega (arith, e, sum, later, rest, one)) j

  -- each definition has the same result at the next depth
  abbrev IsStill : ℕ → Type 0
  IsStill n = (j : ℕ) → constant_course y j n ≡ constant_course y j (suc n)

  still_somewhere : (d n : ℕ) → count n y.definitions ≤ d → (m : ℕ) × (m ≤ n + d) × IsStill m
  still_somewhere zero n le =
      let fewer_there = fewer n y.definitions in
      (n, omega arith, same_all n y.definitions (omega (arith, le, fewer_there)))
  still_somewhere (suc d) n le = by (nat_eq (count n y.definitions) (count (suc n) y.definitions)) refl (λ less. still_somewhere d (suc n) less)
    where
      by : (b : Bool) → nat_eq (count n y.definitions) (count (suc n) y.definitions) ≡ b → (count (suc n) y.definitions ≤ d → (m : ℕ) × (m ≤ suc n + d) × IsStill m) → (m : ℕ) × (m ≤ n + suc d) × IsStill m
      by true b rest =
          let same : count n y.definitions ≡ count (suc n) y.definitions = grind (arith, nat_tests) in
          (n, omega arith, same_all n y.definitions same)
      by false b rest =
          let other : count n y.definitions ≢ count (suc n) y.definitions = grind (arith, nat_tests) in
          let fewer_there = fewer n y.definitions in
          let (m, le_m, still) = rest (omega (arith, le, fewer_there, other)) in
          (m, omega (arith, le_m), still)

  operand_still : (n : ℕ) → IsStill n → (m : Result Binding AsmFault) → (m >>= form_of_binding (norm n y) y) ≡ (m >>= form_of_binding (norm (suc n) y) y)
  operand_still n h x = grind (arith, common_steps)

  form_still : (n : ℕ) → IsStill n → (s : Context) (e : Tree) → norm (suc n) y s e ≡ norm (suc (suc n)) y s e
  form_still n h s e =
      let a : Tree → Result Form AsmFault = λ t. binding_of y s t >>= form_of_binding (norm n y) y in
      let b : Tree → Result Form AsmFault = λ t. binding_of y s t >>= form_of_binding (norm (suc n) y) y in
      let same : a ≡ b = fun_ext (λ t. operand_still n h (binding_of y s t)) in
      ap (λ (o : Tree → Result Form AsmFault). form_by o s e) same

  value_still : (n : ℕ) → IsStill n → (o : Option Definition) → form_of_definition (norm (suc n) y) o ≡ form_of_definition (norm (suc (suc n)) y) o
  value_still n h None = refl
  value_still n h (Some d) = at d.value
    where
      at : (v : Option Tree) → form_of_value (norm (suc n) y) d.context v ≡ form_of_value (norm (suc (suc n)) y) d.context v
      at None = refl
      at (Some e) = form_still n h d.context e

  still_later : (n : ℕ) → IsStill n → IsStill (suc n)
  still_later n h = λ j. value_still n h (slice_get y.definitions j)

  still_further : (d n : ℕ) → IsStill n → (s : Context) (e : Tree) → norm (suc n) y s e ≡ norm (suc (d + n)) y s e
  still_further zero n h s e = let same : zero + n ≡ n = omega arith in rw same refl
  still_further (suc d) n h s e =
      let same : suc d + n ≡ d + suc n = omega arith in
      form_still n h s e ∙ still_further d (suc n) (still_later n h) s e ∙ ap (λ (k : ℕ). norm (suc k) y s e) (sym same)

  -- the normal form is the result at each depth above the number of definitions
  pub norm_is_last : (d : ℕ) (s : Context) (e : Tree) → norm_of y s e ≡ norm (suc (d + length y.definitions)) y s e
  norm_is_last d s e =
      let whole : ℕ = length y.definitions in
      let (m, le, still) = still_somewhere whole 0 (at_most_all 0 y.definitions) in
      let there : whole - m + m ≡ whole = omega (arith, le) in
      let far : d + whole - m + m ≡ d + whole = omega (arith, le) in
      sym (still_further (whole - m) m still s e ∙ ap (λ (k : ℕ). norm (suc k) y s e) there)
      ∙ still_further (d + whole - m) m still s e ∙ ap (λ (k : ℕ). norm (suc k) y s e) far

  pub constant_is_last : (d j : ℕ) → constant_course y j (suc (length y.definitions)) ≡ constant_course y j (suc (d + length y.definitions))
  constant_is_last d j = by (slice_get y.definitions j)
    where
      by : (o : Option Definition) → form_of_definition (norm (suc (length y.definitions)) y) o ≡ form_of_definition (norm (suc (d + length y.definitions)) y) o
      by None = refl
      by (Some q) = value q.value
        where
          value : (v : Option Tree) → form_of_value (norm (suc (length y.definitions)) y) q.context v ≡ form_of_value (norm (suc (d + length y.definitions)) y) q.context v
          value None = refl
          value (Some e) = norm_is_last d q.context e

  -- the result at all large depths is the normal form
  pub comes_to_norm : (s : Context) (e : Tree) (r : Result Form AsmFault) → EventuallyEquals (expression_course y s e) r → norm_of y s e ≡ r
  comes_to_norm s e r (n, h) = norm_is_last n s e ∙ h (suc (n + length y.definitions)) (omega arith)
