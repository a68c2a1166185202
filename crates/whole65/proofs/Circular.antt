-- An expression that is needed for its own value has none: a derivation visits each needed expression and is finite.
use Rattle.std.proofs.lemmas.Grind.{common_steps}
use Rattle.std.proofs.Common.{◌≡◌, ℕ, false, Option, Some, None, arith, List, [], ◌∷◌, refl, subst, sym}
use Rattle.std.specs.Prelude.{ℤ, ⊤}
use Rattle.syntax65.specs.Trees.{Tree, name}
use Rattle.syntax65.specs.Trees as tree
use Rattle.whole65.specs.Values.{Provider, by_module, by_script, by_nobody, Program, SymbolBinding, label_at, constant_at, import_of, operand_binding, Value, number, here, label, constant, exported, scripted, prefixed, joined, LocatedExpr, located_expr, NeedsNext, NeedsValueOf, next, following}
use Rattle.whole65.specs.Laws.{CircularHasNoValue}

-- each chain of expressions that `x` needs is finite (accessibility by `NeedsNext`)
data Ends (p : Program) : LocatedExpr → Type 0 where
  ends : {x : LocatedExpr} → ((y : LocatedExpr) → NeedsNext p x y → Ends p y) → Ends p x

-- the expressions that are needed next have this property, by the provider of an import, the binding of a name and the tree
abbrev EndsBy : Program → Provider → List ℕ → Type 0
EndsBy p (by_module provider) x = Ends p (located_expr provider (p.global_index provider) (name false (x ∷ [])))
EndsBy p (by_script v) x = ⊤
EndsBy p by_nobody x = ⊤

abbrev EndsAs : Program → ℕ → Option SymbolBinding → Type 0
EndsAs p owner None = ⊤
EndsAs p owner (Some (label_at index)) = ⊤
EndsAs p owner (Some (constant_at index f)) = Ends p (located_expr owner index f)
EndsAs p owner (Some (import_of x)) = EndsBy p (p.provider x) x

abbrev EndsAfter : Program → ℕ → ℕ → Tree → Type 0
EndsAfter p owner index (tree.number n) = ⊤
EndsAfter p owner index tree.here = ⊤
EndsAfter p owner index (tree.unary op e) = Ends p (located_expr owner index e)
EndsAfter p owner index (tree.binary op e f) = Ends p (located_expr owner index e) × Ends p (located_expr owner index f)
EndsAfter p owner index e = EndsAs p owner (p.binding owner index e)

of_meaning : (p : Program) (owner index : ℕ) (e : Tree) (m : SymbolBinding) → operand_binding p owner index e ≡ Some m → EndsAfter p owner index e → EndsAs p owner (Some m)
of_meaning p owner index x m q h = grind (arith, common_steps)

by_meaning : (p : Program) (owner index : ℕ) (e : Tree) (m : SymbolBinding) → operand_binding p owner index e ≡ Some m → EndsAs p owner (Some m) → EndsAfter p owner index e
by_meaning p owner index x m q h = grind (arith, common_steps)

step_ends : (p : Program) {x y : LocatedExpr} → NeedsNext p x y → EndsAfter p x.owner x.index x.tree → Ends p y
step_ends p x1 h = grind (arith, common_steps)

here_ends : (p : Program) (owner index : ℕ) (e : Tree) → EndsAfter p owner index e → Ends p (located_expr owner index e)
here_ends p owner index e h = ends (λ y s. step_ends p s h)

value_ends : (p : Program) {owner index : ℕ} {e : Tree} {v : ℤ} → Value p owner index e v → EndsAfter p owner index e
value_ends p number = tt
value_ends p here = tt
value_ends p (label {owner = owner} {index = index} {definer = w} {e = e} m) = by_meaning p owner index e (label_at w) m tt
value_ends p (constant {owner = owner} {index = index} {definer = w} {e = e} {f = f} m d) = by_meaning p owner index e (constant_at w f) m (here_ends p owner w f (value_ends p d))
value_ends p (exported {owner = owner} {index = index} {provider = provider} {e = e} {x = x} m g d) = grind (arith, common_steps, here_ends, (value_ends p d))
value_ends p (scripted {owner = owner} {index = index} {e = e} {x = x} {v = v} m g) = by_meaning p owner index e (import_of x) m (subst (λ g. EndsBy p g x) (sym g) tt)
value_ends p (prefixed {owner = owner} {index = index} {e = e} d) = here_ends p owner index e (value_ends p d)
value_ends p (joined {owner = owner} {index = index} {e = e} {f = f} c d q) = (here_ends p owner index e (value_ends p c), here_ends p owner index f (value_ends p d))

-- append a step to a chain
and_then : (p : Program) {x y z : LocatedExpr} → NeedsValueOf p x y → NeedsNext p y z → NeedsValueOf p x z
and_then p (next s) t = following s (next t)
and_then p (following s n) t = following s (and_then p n t)

never_back : (p : Program) {x : LocatedExpr} → Ends p x → {y : LocatedExpr} → NeedsValueOf p x y → y ≡ x → ⊥
never_back p (ends {x = x} h) (next {y = y} s) q = never_back p (h y s) (next (subst (λ z. NeedsNext p z y) (sym q) s)) refl
never_back p (ends {x = x} h) (following {y = y} {z = z} s n) q = never_back p (h y s) (and_then p n (subst (λ w. NeedsNext p w y) (sym q) s)) refl

pub circular_law : CircularHasNoValue
circular_law p x v n d = never_back p (here_ends p x.owner x.index x.tree (value_ends p d)) n refl
