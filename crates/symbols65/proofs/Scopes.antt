-- Scopes, and the lookup of the parts of names in them.
use Rattle.std.proofs.lemmas.Grind.{common_steps}
use Rattle.std.proofs.Common.{arith, ◌≡◌, ℕ, List, ◌⊎◌, inl, inr, sym, Bool, true, false, [], ◌∷◌, ◌++◌, Option, Some, None, refl, ap, ◌∙◌, zero, suc, ◌+◌, ◌-◌, ◌<◌, ◌≤◌, cond, nat_lt, take, position}
use Rattle.syntax65.specs.Trees.{Tree, name}
use Rattle.syntax65.specs.Kinds.{tree_of}
use Rattle.syntax65.specs.declared.expressions.trees.ExprKind.{ExprKind}
use Rattle.syntax65.specs.declared.expressions.trees.ExprKind.TheVariants as kind
use Rattle.syntax65.specs.declared.expressions.trees.Name.{Name}
use Rattle.symbols65.specs.Resolving.{IsReference, defined_index, plain_part}
use Rattle.std.specs.Prelude.{Result, codes, slice_get}
use Rattle.std.proofs.lemmas.List.{append_assoc}
use Rattle.semantics65.specs.declared.contexts.Context.{Context}
use Rattle.ast65.specs.declared.fault.AsmFault.{AsmFault}
use Rattle.semantics65.specs.Symbols.{Symbols, Binding, definition_index, named, Scope, first_found, qualified_name, last_of, binding_of, or_else, binding_or_fault, outward_from, plain_binding, scoped_binding, scopes_from, scope_path, enclosing, nested_scope, scope_in, parent_scope}
use Rattle.std.specs.List.{position_from}
use Rattle.std.proofs.lemmas.Bool.Decides.{nat_tests}
use Rattle.std.proofs.lemmas.Iterator.Adapters.{position_from-zero}

-- ---- Kinds of expressions that are references.

-- the kind of a reference: a plain name, a name with `::`, a cheap local label or an unnamed label
abbrev pub Taken : ExprKind → Type 0
Taken k = ((x : List ℕ) × (k ≡ kind.Plain x)) ⊎ (((x : Name) × (k ≡ kind.Scoped x)) ⊎ (((x : List ℕ) × (k ≡ kind.Cheap x)) ⊎ (((x : ℕ) × (k ≡ kind.Forward x)) ⊎ ((x : ℕ) × (k ≡ kind.Backward x)))))

pub reference : (k : ExprKind) (e : Tree) → tree_of k ≡ e → Taken k → IsReference e
reference k e is taken = grind (arith, common_steps)

-- ---- The parts of names.

pub scopes_before : (rest : List (List ℕ)) (n : List ℕ) → scope_path (rest ++ n ∷ []) ≡ rest
scopes_before [] n = refl
scopes_before (m ∷ []) n = refl
scopes_before (m ∷ k ∷ rest) n = ap (λ l. m ∷ l) (scopes_before (k ∷ rest) n)

pub last_after : (rest : List (List ℕ)) (n : List ℕ) → last_of (rest ++ n ∷ []) ≡ n
last_after [] n = refl
last_after (m ∷ []) n = refl
last_after (m ∷ k ∷ rest) n = last_after (k ∷ rest) n

-- the parts after the first, each after `::`, as they are printed
abbrev pub joined_after : List (List ℕ) → List ℕ
joined_after [] = []
joined_after (n ∷ names) = codes "::" ++ n ++ joined_after names

pub joined_first : (n : List ℕ) (names : List (List ℕ)) → qualified_name (n ∷ names) ≡ n ++ joined_after names
joined_first n [] = grind (arith, common_steps)
joined_first n (m ∷ names) = append_assoc n (codes "::") (qualified_name (m ∷ names)) ∙ ap (λ l. n ++ l) (ap (λ l. codes "::" ++ l) (joined_first m names) ∙ sym (append_assoc (codes "::") m (joined_after names)))

-- the binding of a name in a context, given its only part if the name is plain
abbrev pub name_meaning : Symbols → Context → Bool → List (List ℕ) → Option (List ℕ) → Result Binding AsmFault
name_meaning y s global parts (Some n) = plain_binding y s.scope n
name_meaning y s global parts None = scoped_binding y s global parts

pub name_is : (y : Symbols) (s : Context) (global : Bool) (parts : List (List ℕ)) → binding_of y s (name global parts) ≡ name_meaning y s global parts (plain_part global parts)
name_is y s false [] = refl
name_is y s false (n ∷ []) = refl
name_is y s false (n ∷ m ∷ names) = refl
name_is y s true [] = refl
name_is y s true (n ∷ names) = refl

defined_first : (e : AsmFault) (o other : Option ℕ) → o ≡ defined_index (binding_or_fault e o other)
defined_first e x other = grind (arith, common_steps)

-- the definition of a plain name is the one in the innermost scope around its use that has one
pub defined_outward_at : (y : Symbols) (s : Context) (global : Bool) (parts : List (List ℕ)) (n : List ℕ) → plain_part global parts ≡ Some n → first_found (λ c. definition_index y (named c n)) (scopes_from y.scopes s.scope) ≡ defined_index (binding_of y s (name global parts))
defined_outward_at y s false [] n e = absurd cc
defined_outward_at y s false (m ∷ []) n e = grind (arith, common_steps, defined_first)
defined_outward_at y s false (m ∷ k ∷ parts) n e = absurd cc
defined_outward_at y s true parts n e = absurd cc

-- ---- The search from a scope outward.

module _ (cs : List Scope) (f : ℕ → Option ℕ) where
  -- the result in the scope itself is found first
  pub outward_first : (n s j : ℕ) → Some j ≡ f s → Some j ≡ first_found f (outward_from cs n s)
  outward_first n zero j e = ap (λ o. or_else o None) e
  outward_first zero (suc i) j e = ap (λ o. or_else o None) e
  outward_first (suc n) (suc i) j e = ap (λ o. or_else o (first_found f (outward_from cs n (enclosing cs (suc i))))) e

  -- without a result there, the search continues in the parent, if there is one
  pub outward_last : (n s : ℕ) → None ≡ f s → (s ≡ 0) ⊎ (n ≡ 0) → None ≡ first_found f (outward_from cs n s)
  outward_last n zero e h = ap (λ o. or_else o None) e
  outward_last zero (suc i) e h = ap (λ o. or_else o None) e
  outward_last (suc n) (suc i) e (inl h) = absurd cc
  outward_last (suc n) (suc i) e (inr h) = absurd cc

  pub outward_next : (n s : ℕ) → None ≡ f s → (s ≡ 0 → ⊥) → (n ≡ 0 → ⊥) → first_found f (outward_from cs (n - 1) (enclosing cs s)) ≡ first_found f (outward_from cs n s)
  outward_next n zero e h k = absurd (h refl)
  outward_next zero (suc i) e h k = absurd (k refl)
  outward_next (suc n) (suc i) e h k =
      let less : suc n - 1 ≡ n = omega arith in
      ap (λ q. first_found f (outward_from cs q (enclosing cs (suc i)))) less ∙ ap (λ o. or_else o (first_found f (outward_from cs n (enclosing cs (suc i))))) e

  pub found_nowhere : ((s : ℕ) → f s ≡ None) → (ss : List ℕ) → None ≡ first_found f ss
  found_nowhere none [] = refl
  found_nowhere none (s ∷ ss) = found_nowhere none ss ∙ ap (λ o. or_else o (first_found f ss)) (sym (none s))

-- ---- The items before an index.

from_above : {A : Type 0} (p : A → Bool) (k : ℕ) (xs : List A) (j : ℕ) → position_from p k xs ≡ Some j → k ≤ j
from_above p k [] j e = absurd cc
from_above {A = A} p k (x ∷ xs) j e = grind (arith, common_steps, (from_above p (k + 1) xs j))

-- an index, if it is below a bound
abbrev pub below : ℕ → Option ℕ → Option ℕ
below i None = None
below i (Some j) = cond (nat_lt j i) (Some j) None

below_none : (i : ℕ) (o : Option ℕ) → ((j : ℕ) → o ≡ Some j → i ≤ j) → None ≡ below i o
below_none i x h = grind (arith, common_steps)

pub position_before : {A : Type 0} (p : A → Bool) (i : ℕ) (xs : List A) → position p (take i xs) ≡ below i (position p xs)
position_before {A = A} p i xs = position_from-zero p (take i xs) ∙ go 0 i xs ∙ ap (λ n. below n (position_from p 0 xs)) (let none : 0 + i ≡ i = omega arith in none) ∙ ap (below i) (sym (position_from-zero p xs))
  where
    go : (k i : ℕ) (xs : List A) → position_from p k (take i xs) ≡ below (k + i) (position_from p k xs)
    go k zero [] = refl
    go k (suc i) [] = refl
    go k zero (x ∷ xs) = below_none (k + 0) (position_from p k (x ∷ xs)) (λ j e. (let le = from_above p k (x ∷ xs) j e in omega (arith, le)))
    go k (suc i) (x ∷ xs) = by (p x) (go (k + 1) i xs)
      where
        by : (b : Bool) → position_from p (k + 1) (take i xs) ≡ below (k + 1 + i) (position_from p (k + 1) xs) → cond b (Some k) (position_from p (k + 1) (take i xs)) ≡ below (k + suc i) (cond b (Some k) (position_from p (k + 1) xs))
        by true h = (let under : nat_lt k (k + suc i) ≡ true = grind (arith, nat_tests) in sym (ap (λ b. cond b (Some k) None) under))
        by false h = h ∙ ap (λ n. below n (position_from p (k + 1) xs)) (let same : k + 1 + i ≡ k + suc i = omega arith in same)

-- ---- The first scopes that were opened.

module _ (cs : List Scope) (opened s : ℕ) (n : List ℕ) where
  pub scope_before : (i : ℕ) → scope_in cs s n ≡ Some i → i ≤ opened → scope_in (take opened cs) s n ≡ Some i
  scope_before i e le = grind (arith, common_steps, position_before, nat_tests)

  pub scope_after : (i : ℕ) → scope_in cs s n ≡ Some i → opened < i → scope_in (take opened cs) s n ≡ None
  scope_after i e lt = grind (arith, common_steps, position_before, nat_tests)

  pub no_scope : scope_in cs s n ≡ None → scope_in (take opened cs) s n ≡ None
  no_scope e = grind (arith, common_steps, position_before)

get_before : {A : Type 0} (xs : List A) (n i : ℕ) → i < n → slice_get (take n xs) i ≡ slice_get xs i
get_before xs zero i lt = absurd (omega arith)
get_before [] (suc n) i lt = refl
get_before (x ∷ xs) (suc n) zero lt = refl
get_before (x ∷ xs) (suc n) (suc i) lt = get_before xs n i (omega arith)

get_after : {A : Type 0} (xs : List A) (n i : ℕ) → n ≤ i → slice_get (take n xs) i ≡ None
get_after xs zero i le = refl
get_after [] (suc n) i le = refl
get_after (x ∷ xs) (suc n) zero le = absurd (omega arith)
get_after (x ∷ xs) (suc n) (suc i) le = get_after xs n i (omega arith)

pub enclosing_before : (cs : List Scope) (opened s : ℕ) → s ≤ opened → enclosing (take opened cs) s ≡ enclosing cs s
enclosing_before cs opened zero le = refl
enclosing_before cs opened (suc i) le = ap parent_scope (get_before cs opened i (omega arith))

pub enclosing_after : (cs : List Scope) (opened s : ℕ) → opened < s → enclosing (take opened cs) s ≡ zero
enclosing_after cs opened zero lt = absurd (omega arith)
enclosing_after cs opened (suc i) lt = ap parent_scope (get_after cs opened i (omega arith))

pub inside_none : (cs : List Scope) (names : List (List ℕ)) → nested_scope cs names None ≡ None
inside_none cs x = grind (arith, common_steps)
