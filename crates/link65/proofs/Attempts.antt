-- The result of an attempt to evaluate a form determines the form's result, and exports that need each other are circular.
use Rattle.std.proofs.lemmas.Grind.{common_steps}
use Rattle.std.proofs.Common.{◌≡◌, ℕ, zero, suc, ◌+◌, refl, sym, ◌∙◌, ap, subst, arith, ◌⊎◌, inl, inr, Result, Ok, Err, List, slice_get, Option, Some, None, [], ◌∷◌, ◌++◌}
use Rattle.std.specs.Prelude.{ℤ, ⊤, ◌+ℤ◌}
use Rattle.link65.specs.declared.parts.ValueFault.{ValueFault}
use Rattle.link65.specs.declared.parts.ValueFault.TheVariants.{Circular, NoValue, Unresolved}
use Rattle.link65.specs.Values.{ConvergesTo, ExportEvaluatesTo, Exports, Linkage, base_of, export_value, exports_to_depth, provider_at, import_value, value_of_form}
use Rattle.base65.specs.Outcome.{◌>>=◌}
use Rattle.base65.specs.Values.{value2, wrap_signed}
use Rattle.object65.specs.Form.{Form, lit, sec, imp, prefix, binary}
use Rattle.object65.specs.FormValue.{or_none, value_in}
use Rattle.link65.specs.declared.evaluation.ExportState.{ExportState}
use Rattle.link65.specs.declared.evaluation.ExportState.TheVariants.{Untouched, BeingEvaluated, Found}
use Rattle.link65.specs.declared.evaluation.EvalBlocked.{EvalBlocked}
use Rattle.link65.specs.declared.evaluation.EvalBlocked.TheVariants.{Fault, Needs}
use Rattle.link65.specs.declared.parts.ModuleExport.{ModuleExport}
use Rattle.link65.specs.declared.parts.Provider.{Provider}
use Rattle.link65.specs.declared.parts.Provider.TheVariants.{ByModule, ByScript, Nobody}
use Rattle.link65.specs.Placed.{AreCorrect, known_result, import_attempt, circular_if_active, form_attempt}

-- ---- Results at increasing depths of nested exports: a result that isn't circular is final.

abbrev pub Answer : Type 0
Answer = Result ℤ ValueFault

-- `s` equals `r`, unless `r` is circular
abbrev pub Known : Answer → Answer → Type 0
Known (Err Circular) s = ⊤
Known r s = s ≡ r

pub known_same : (r : Answer) → Known r r
known_same x = grind (arith, common_steps)

pub known_trans : (r s t : Answer) → Known r s → Known s t → Known r t
known_trans x s t h k = grind (arith, common_steps)

-- a sequence of results, each equal to the one before it unless that one is circular
abbrev pub Grows : (ℕ → Answer) → Type 0
Grows at = (n : ℕ) → Known (at n) (at (suc n))

pub further : (at : ℕ → Answer) → Grows at → (j n : ℕ) → Known (at n) (at (j + n))
further at g zero n = let same : zero + n ≡ n = omega arith in rw same (known_same (at n))
further at g (suc j) n = grind (arith, common_steps, (further at g j n), known_trans)

-- a result that isn't circular, and an index at which the sequence reaches it
pub record Reaches (at : ℕ → Answer) (r : Answer) : Type 0 where
  pub turns : ℕ
  pub found : at turns ≡ r
  pub firm : (s : Answer) → Known r s → s ≡ r

known_or : (r s : Answer) → Known r s → (r ≡ s) ⊎ (r ≡ Err Circular)
known_or x s h = grind (arith, common_steps)

-- from that index on the sequence is constant
pub stands : (at : ℕ → Answer) (r : Answer) → Grows at → (h : Reaches at r) → (j : ℕ) → at (j + h.turns) ≡ r
stands at r g h j =
    let P : Answer → Type 0 = λ x. Known x (at (j + h.turns)) in
    h.firm (at (j + h.turns)) (subst P h.found (further at g j h.turns))

-- at every index the result is `r` or circular
pub stands_or : (at : ℕ → Answer) (r : Answer) → Grows at → Reaches at r → (n : ℕ) → (at n ≡ r) ⊎ (at n ≡ Err Circular)
stands_or at r g h n = go (known_or (at n) (at (h.turns + n)) (further at g h.turns n))
  where
    later : at (h.turns + n) ≡ r
    later = let same : h.turns + n ≡ n + h.turns = omega arith in rw same (stands at r g h n)

    go : ((at n ≡ at (h.turns + n)) ⊎ (at n ≡ Err Circular)) → (at n ≡ r) ⊎ (at n ≡ Err Circular)
    go (inl e) = inl (e ∙ later)
    go (inr e) = inr e

pub reaches_value : (at : ℕ → Answer) (v : ℤ) → ConvergesTo at (Ok v) → Reaches at (Ok v)
reaches_value at v (n, e) = record { turns = n; found = e; firm = λ s h. h }

pub reaches_no_value : (at : ℕ → Answer) → ConvergesTo at (Err NoValue) → Reaches at (Err NoValue)
reaches_no_value at (n, e) = record { turns = n; found = e; firm = λ s h. h }

pub reaches_unresolved : (at : ℕ → Answer) → ConvergesTo at (Err Unresolved) → Reaches at (Err Unresolved)
reaches_unresolved at (n, e) = record { turns = n; found = e; firm = λ s h. h }

-- a result before a circular one is circular
known_circular : (r s : Answer) → Known r s → s ≡ Err Circular → r ≡ Err Circular
known_circular x s h e = grind (arith, common_steps)

pub circular_before : (at : ℕ → Answer) → Grows at → (j n : ℕ) → at (j + n) ≡ Err Circular → at n ≡ Err Circular
circular_before at g j n e = known_circular (at n) (at (j + n)) (further at g j n) e

-- a sequence is circular at every index if it is at 0, and if circular at `n` implies circular at `c + n + 1`
pub loops : (at : ℕ → Answer) → Grows at → at zero ≡ Err Circular → (c : ℕ) → ((n : ℕ) → at n ≡ Err Circular → at (suc (c + n)) ≡ Err Circular) → (n : ℕ) → at n ≡ Err Circular
loops at g start c h zero = start
loops at g start c h (suc n) =
    let same : suc (c + n) ≡ c + suc n = omega arith in
    let P : ℕ → Type 0 = λ k. at k ≡ Err Circular in
    circular_before at g c (suc n) (subst P same (h n (loops at g start c h n)))

-- ---- A sequence converges to at most one result.

two_reach : (at : ℕ → Answer) (r q : Answer) → Grows at → Reaches at r → Reaches at q → r ≡ q
two_reach at r q g h k =
    let same : h.turns + k.turns ≡ k.turns + h.turns = omega arith in
    sym (stands at r g h k.turns) ∙ ap at (sym same) ∙ stands at q g k h.turns

never : (at : ℕ → Answer) (r : Answer) → ((n : ℕ) → at n ≡ Err Circular) → Reaches at r → r ≡ Err Circular
never at r h k = sym k.found ∙ h k.turns

pub settles_once : (at : ℕ → Answer) (r q : Answer) → Grows at → ConvergesTo at r → ConvergesTo at q → r ≡ q
settles_once at (Err Circular) (Err Circular) g h k = refl
settles_once at (Err Circular) (Ok w) g h k = sym (never at (Ok w) h (reaches_value at w k))
settles_once at (Err Circular) (Err NoValue) g h k = sym (never at (Err NoValue) h (reaches_no_value at k))
settles_once at (Err Circular) (Err Unresolved) g h k = sym (never at (Err Unresolved) h (reaches_unresolved at k))
settles_once at (Ok v) (Err Circular) g h k = never at (Ok v) k (reaches_value at v h)
settles_once at (Ok v) (Ok w) g h k = two_reach at (Ok v) (Ok w) g (reaches_value at v h) (reaches_value at w k)
settles_once at (Ok v) (Err NoValue) g h k = two_reach at (Ok v) (Err NoValue) g (reaches_value at v h) (reaches_no_value at k)
settles_once at (Ok v) (Err Unresolved) g h k = two_reach at (Ok v) (Err Unresolved) g (reaches_value at v h) (reaches_unresolved at k)
settles_once at (Err NoValue) (Err Circular) g h k = never at (Err NoValue) k (reaches_no_value at h)
settles_once at (Err NoValue) (Ok w) g h k = two_reach at (Err NoValue) (Ok w) g (reaches_no_value at h) (reaches_value at w k)
settles_once at (Err NoValue) (Err NoValue) g h k = refl
settles_once at (Err NoValue) (Err Unresolved) g h k = two_reach at (Err NoValue) (Err Unresolved) g (reaches_no_value at h) (reaches_unresolved at k)
settles_once at (Err Unresolved) (Err Circular) g h k = never at (Err Unresolved) k (reaches_unresolved at h)
settles_once at (Err Unresolved) (Ok w) g h k = two_reach at (Err Unresolved) (Ok w) g (reaches_unresolved at h) (reaches_value at w k)
settles_once at (Err Unresolved) (Err NoValue) g h k = two_reach at (Err Unresolved) (Err NoValue) g (reaches_unresolved at h) (reaches_no_value at k)
settles_once at (Err Unresolved) (Err Unresolved) g h k = refl

-- ---- The results of exports and forms at greater depths preserve those at smaller depths.

bind_known : (r s : Answer) (f h : ℤ → Answer) → Known r s → ((v : ℤ) → Known (f v) (h v)) → Known (r >>= f) (s >>= h)
bind_known x s f h e k = grind (arith, common_steps)

import_known : (o p : Exports) → ((x : ℕ) → Known (o x) (p x)) → (g : Provider) → Known (import_value o g) (import_value p g)
import_known o p h x = grind (arith, common_steps)

form_known : (base : ℕ → ℤ) (o p : ℕ → Answer) → ((j : ℕ) → Known (o j) (p j)) → (f : Form) → Known (value_in NoValue base o f) (value_in NoValue base p f)
form_known base o p h (lit v) = refl
form_known base o p h (sec k a) = refl
form_known base o p h (imp j) = h j
form_known base o p h (prefix op f) = grind (arith, common_steps, (form_known base o p h f), bind_known)
form_known base o p h (binary op f g) = grind (arith, common_steps, (form_known base o p h f), (form_known base o p h g), bind_known, known_same)

pub value_known : (l : Linkage) (o p : Exports) → ((x : ℕ) → Known (o x) (p x)) → (owner : ℕ) (f : Form) → Known (value_of_form l o owner f) (value_of_form l p owner f)
value_known l o p h owner f = grind (arith, common_steps, form_known, import_known)

export_known : (l : Linkage) (o p : Exports) → ((x : ℕ) → Known (o x) (p x)) → (e : Option ModuleExport) → Known (export_value l o e) (export_value l p e)
export_known l o p h None = refl
export_known l o p h (Some e) = value_known l o p h e.owner e.form

pub exports_grow : (l : Linkage) (n x : ℕ) → Known (exports_to_depth l n x) (exports_to_depth l (suc n) x)
exports_grow l zero x = tt
exports_grow l (suc n) x = export_known l (exports_to_depth l n) (exports_to_depth l (suc n)) (exports_grow l n) (slice_get l.exports x)

pub form_grows : (l : Linkage) (owner : ℕ) (f : Form) → Grows (λ n. value_of_form l (exports_to_depth l n) owner f)
form_grows l owner f n = value_known l (exports_to_depth l n) (exports_to_depth l (suc n)) (exports_grow l n) owner f

-- ---- Attempts.

-- if export `x` is circular at depth `n`, so is `at n`
abbrev pub Follows : Linkage → (ℕ → Answer) → ℕ → Type 0
Follows l at x = (n : ℕ) → exports_to_depth l n x ≡ Err Circular → at n ≡ Err Circular

-- an export that is being evaluated, and that `at` follows
pub record Meets (l : Linkage) (states : List ExportState) (at : ℕ → Answer) : Type 0 where
  pub export : ℕ
  pub is : slice_get states export ≡ Some BeingEvaluated
  pub follows : Follows l at export

-- the result of an attempt determines the limit of `at`, or an export that `at` follows
abbrev pub Tells : Linkage → List ExportState → (ℕ → Answer) → Result ℤ EvalBlocked → Type 0
Tells l states at (Ok v) = Reaches at (Ok v)
Tells l states at (Err (Fault Circular)) = ConvergesTo at (Err Circular) ⊎ Meets l states at
Tells l states at (Err (Fault e)) = Reaches at (Err e)
Tells l states at (Err (Needs x)) = (slice_get states x ≡ Some Untouched) × Follows l at x

at_once : (r : Answer) → ((s : Answer) → Known r s → s ≡ r) → Reaches (λ n. r) r
at_once r h = record { turns = 0; found = refl; firm = h }

-- ---- An attempt at an import.

found_tells : (l : Linkage) (states : List ExportState) (x : ℕ) (r : Answer) → ExportEvaluatesTo l x r → Tells l states (λ n. exports_to_depth l n x) (known_result r)
found_tells l states x y h = grind (arith, common_steps)

-- an index without a state has no export
abbrev pub AreLong : Linkage → List ExportState → Type 0
AreLong l states = (x : ℕ) → slice_get states x ≡ None → slice_get l.exports x ≡ None

none_reaches : (l : Linkage) (x : ℕ) → slice_get l.exports x ≡ None → Reaches (λ n. exports_to_depth l n x) (Err Unresolved)
none_reaches l x e = record { turns = 1; found = rw e refl; firm = λ s h. h }

marked_tells : (l : Linkage) (states : List ExportState) → AreCorrect l states → AreLong l states → (x : ℕ) (o : Option ExportState) → slice_get states x ≡ o → Tells l states (λ n. exports_to_depth l n x) (circular_if_active x o)
marked_tells l states h long x None e = none_reaches l x (long x e)
marked_tells l states h long x (Some Untouched) e = (e, λ n c. c)
marked_tells l states h long x (Some BeingEvaluated) e = inr (record { export = x; is = e; follows = λ n c. c })
marked_tells l states h long x (Some (Found r)) e = found_tells l states x r (h x r e)

import_tells : (l : Linkage) (states : List ExportState) → AreCorrect l states → AreLong l states → (g : Provider) → Tells l states (λ n. import_value (exports_to_depth l n) g) (import_attempt states g)
import_tells l states h long (ByModule x) = marked_tells l states h long x (slice_get states x) refl
import_tells l states h long (ByScript v) = at_once (Ok v) (λ s k. k)
import_tells l states h long Nobody = at_once (Err Unresolved) (λ s k. k)

-- ---- An attempt at a first operand and then at the rest.

first_refuses : (at : ℕ → Answer) (b : ℕ → ℤ → Answer) (e : ValueFault) → (firm : (s : Answer) → Known (Err e) s → s ≡ Err e) → Reaches at (Err e) → Reaches (λ n. at n >>= b n) (Err e)
first_refuses at b e firm h = record { turns = h.turns; found = rw h.found refl; firm = firm }

first_circular : (at : ℕ → Answer) (b : ℕ → ℤ → Answer) (n : ℕ) → at n ≡ Err Circular → (at n >>= b n) ≡ Err Circular
first_circular at b n e = rw e refl

then_circular : (at : ℕ → Answer) (b : ℕ → ℤ → Answer) (v : ℤ) → Grows at → Reaches at (Ok v) → (n : ℕ) → b n v ≡ Err Circular → (at n >>= b n) ≡ Err Circular
then_circular at b v g h n e = go (stands_or at (Ok v) g h n)
  where
    go : ((at n ≡ Ok v) ⊎ (at n ≡ Err Circular)) → (at n >>= b n) ≡ Err Circular
    go (inl k) = rw k e
    go (inr k) = rw k refl

then_reaches : (at : ℕ → Answer) (b : ℕ → ℤ → Answer) (v : ℤ) (r : Answer) → Grows at → Grows (λ n. b n v) → Reaches at (Ok v) → Reaches (λ n. b n v) r → Reaches (λ n. at n >>= b n) r
then_reaches at b v r g k h t = record {
  turns = t.turns + h.turns;
  found =
      (let one : at (t.turns + h.turns) ≡ Ok v = stands at (Ok v) g h t.turns in
      let same : t.turns + h.turns ≡ h.turns + t.turns = omega arith in
      let two : b (t.turns + h.turns) v ≡ r = ap (λ n. b n v) same ∙ stands (λ n. b n v) r k t h.turns in
      rw one two);
  firm = t.firm;
}

bind_ok : (l : Linkage) (states : List ExportState) (at : ℕ → Answer) (b : ℕ → ℤ → Answer) (v : ℤ) (u : Result ℤ EvalBlocked) → Grows at → Grows (λ n. b n v) → Reaches at (Ok v) → Tells l states (λ n. b n v) u → Tells l states (λ n. at n >>= b n) u
bind_ok l states at b v (Ok w) g k h t = then_reaches at b v (Ok w) g k h t
bind_ok l states at b v (Err (Fault NoValue)) g k h t = then_reaches at b v (Err NoValue) g k h t
bind_ok l states at b v (Err (Fault Unresolved)) g k h t = then_reaches at b v (Err Unresolved) g k h t
bind_ok l states at b v (Err (Fault Circular)) g k h (inl t) = inl (λ n. then_circular at b v g h n (t n))
bind_ok l states at b v (Err (Fault Circular)) g k h (inr t) =
    inr (record { export = t.export; is = t.is; follows = λ n c. then_circular at b v g h n (t.follows n c) })
bind_ok l states at b v (Err (Needs x)) g k h t = (t.0, λ n c. then_circular at b v g h n (t.1 n c))

bind_tells : (l : Linkage) (states : List ExportState) (at : ℕ → Answer) (b : ℕ → ℤ → Answer) (t : Result ℤ EvalBlocked) (u : ℤ → Result ℤ EvalBlocked) → Grows at → ((v : ℤ) → Grows (λ n. b n v)) → Tells l states at t → ((v : ℤ) → Tells l states (λ n. b n v) (u v)) → Tells l states (λ n. at n >>= b n) (t >>= u)
bind_tells l states at b x u g k h f = grind (arith, common_steps, bind_ok, first_refuses, first_circular)

-- ---- An attempt at a form.

operation_tells : (l : Linkage) (states : List ExportState) (o : Option ℤ) → Tells l states (λ n. or_none NoValue o) (or_none (Fault NoValue) o)
operation_tells l states x = grind (arith, common_steps)

pub form_tells : (l : Linkage) (states : List ExportState) → AreCorrect l states → AreLong l states → (owner : ℕ) (f : Form) → Tells l states (λ n. value_of_form l (exports_to_depth l n) owner f) (form_attempt (slice_get l.modules owner) states f)
form_tells l states h long owner (lit v) = at_once (Ok v) (λ s k. k)
form_tells l states h long owner (sec k a) = at_once (Ok (wrap_signed (base_of (slice_get l.modules owner) k +ℤ a))) (λ s e. e)
form_tells l states h long owner (imp j) = import_tells l states h long (provider_at (slice_get l.modules owner) j)
form_tells l states h long owner (prefix op f) = grind (arith, common_steps, (form_tells l states h long owner f), bind_tells, form_grows, at_once)
form_tells l states h long owner (binary op f g) =
    bind_tells l states (λ n. value_of_form l (exports_to_depth l n) owner f) (λ n a. value_of_form l (exports_to_depth l n) owner g >>= (λ b. or_none NoValue (value2 op a b))) (form_attempt (slice_get l.modules owner) states f) (λ a. form_attempt (slice_get l.modules owner) states g >>= (λ b. or_none (Fault NoValue) (value2 op a b))) (form_grows l owner f)
    (λ v n. bind_known (value_of_form l (exports_to_depth l n) owner g) (value_of_form l (exports_to_depth l (suc n)) owner g) (λ b. or_none NoValue (value2 op v b)) (λ b. or_none NoValue (value2 op v b)) (form_grows l owner g n) (λ b. known_same (or_none NoValue (value2 op v b))))
    (form_tells l states h long owner f)
    (λ v. bind_tells l states (λ n. value_of_form l (exports_to_depth l n) owner g) (λ n b. or_none NoValue (value2 op v b)) (form_attempt (slice_get l.modules owner) states g) (λ b. or_none (Fault NoValue) (value2 op v b)) (form_grows l owner g) (λ b n. known_same (or_none NoValue (value2 op v b))) (form_tells l states h long owner g) (λ b. operation_tells l states (value2 op v b)))

-- ---- Exports that need each other.

-- if `y` is circular at depth `n`, `x` is circular at depth `n + 1`
abbrev pub Leads : Linkage → ℕ → ℕ → Type 0
Leads l x y = (n : ℕ) → exports_to_depth l n y ≡ Err Circular → exports_to_depth l (suc n) x ≡ Err Circular

-- a chain from `root` through the exports of the list to `top`: each leads to the next
abbrev pub IsChain : Linkage → ℕ → List ℕ → ℕ → Type 0
IsChain l root [] top = root ≡ top
IsChain l root (w ∷ ws) top = (next : ℕ) × (root ≡ w) × Leads l w next × IsChain l next ws top

pub chain_more : (l : Linkage) (root : ℕ) (ws : List ℕ) (top next : ℕ) → IsChain l root ws top → Leads l top next → IsChain l root (ws ++ top ∷ []) next
chain_more l root [] top next e h = (next, e, h, refl)
chain_more l root (w ∷ ws) top next (n, e, u, c) h = (n, e, u, chain_more l n ws top next c h)

pub chain_less : (l : Linkage) (root : ℕ) (ws : List ℕ) (below top : ℕ) → IsChain l root (ws ++ below ∷ []) top → IsChain l root ws below
chain_less l root [] below top (n, e, u, c) = e
chain_less l root (w ∷ ws) below top (n, e, u, c) = (n, e, u, chain_less l n ws below top c)

-- if `y` is circular at depth `n`, `x` is circular at depth `c + n`
abbrev pub After : Linkage → ℕ → ℕ → ℕ → Type 0
After l c x y = (n : ℕ) → exports_to_depth l n y ≡ Err Circular → exports_to_depth l (c + n) x ≡ Err Circular

after_next : (l : Linkage) (c x y z : ℕ) → Leads l x y → After l c y z → After l (suc c) x z
after_next l c x y z h a n e = grind (arith, common_steps)

after_self : (l : Linkage) (x : ℕ) → After l 0 x x
after_self l x n e = grind (arith, common_steps)

chain_after : (l : Linkage) (root : ℕ) (ws : List ℕ) (top : ℕ) → IsChain l root ws top → (c : ℕ) × After l c root top
chain_after l root [] top e = (0, (let P : ℕ → Type 0 = λ n. After l 0 n top in subst P (sym e) (after_self l top)))
chain_after l root (w ∷ ws) top (n, e, u, c) =
    let (d, a) = chain_after l n ws top c in
    (suc d, (let P : ℕ → Type 0 = λ z. After l (suc d) z top in subst P (sym e) (after_next l d w n top u a)))

-- `x` is in the list
abbrev pub Among : ℕ → List ℕ → Type 0
Among x [] = ⊥
Among x (w ∷ ws) = (x ≡ w) ⊎ Among x ws

chain_among : (l : Linkage) (x root : ℕ) (ws : List ℕ) (top : ℕ) → IsChain l root ws top → Among x ws → (c : ℕ) × After l c x top
chain_among l x root [] top e h = absurd h
chain_among l x root (w ∷ ws) top (n, e, u, c) (inl z) =
    let (d, a) = chain_after l n ws top c in
    (suc d, (let P : ℕ → Type 0 = λ y. After l (suc d) y top in subst P (sym z) (after_next l d w n top u a)))
chain_among l x root (w ∷ ws) top (n, e, u, c) (inr z) = chain_among l x n ws top c z

again_after : (l : Linkage) (root : ℕ) (ws : List ℕ) (top next : ℕ) → IsChain l root ws top → (Among next ws ⊎ (next ≡ top)) → (c : ℕ) × After l c next top
again_after l root ws top next c x = grind (arith, common_steps, chain_among, after_self)

-- if the top of a chain leads to an export of the chain or to itself, the top is circular at every depth
pub met_again : (l : Linkage) (root : ℕ) (ws : List ℕ) (top next : ℕ) → IsChain l root ws top → Leads l top next → (Among next ws ⊎ (next ≡ top)) → (n : ℕ) → exports_to_depth l n top ≡ Err Circular
met_again l root ws top next c h again =
    let (d, a) = again_after l root ws top next c again in
    loops (λ n. exports_to_depth l n top) (λ n. exports_grow l n top) refl d (λ n e. h (d + n) (a n e))

-- an export leads to each export that its form follows
pub leads_to : (l : Linkage) (top next : ℕ) (e : ModuleExport) → slice_get l.exports top ≡ Some e → Follows l (λ n. value_of_form l (exports_to_depth l n) e.owner e.form) next → Leads l top next
leads_to l top next e is h n c = rw is (h n c)
