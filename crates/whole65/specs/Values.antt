-- The value of an expression in a program of several modules, by derivations over the sources.
use Rattle.std.specs.Prelude.{◌≡◌, ℕ, ℤ, pos, List, [], ◌∷◌, false, Option, Some, None}
use Rattle.syntax65.specs.Trees.{Tree, name}
use Rattle.syntax65.specs.Trees as tree
use Rattle.base65.specs.Values.{value1, value2}
use Rattle.base65.specs.declared.values.Op1.{Op1}
use Rattle.base65.specs.declared.values.Op2.{Op2}

-- the binding of a name or label in an expression
pub data SymbolBinding : Type 0 where
  -- a label, by the index of its statement in the module
  label_at : (index : ℕ) → SymbolBinding
  -- a constant, by the index of its statement in the module, and its expression
  constant_at : (index : ℕ) → Tree → SymbolBinding
  -- an import of a name
  import_of : List ℕ → SymbolBinding

-- the provider of a name's value
pub data Provider : Type 0 where
  -- the module with this index, which exports the name
  by_module : ℕ → Provider
  -- the script, which gives the name this value
  by_script : ℤ → Provider
  by_nobody : Provider

-- A module is referred to by its index in the order of linking, which is called `owner`; a statement by `owner` and its index
-- in the module.
pub record Program : Type 0 where
  -- the binding of a name in an expression of a statement, if it has one
  pub binding : (owner index : ℕ) → Tree → Option SymbolBinding
  -- the index after the last statement of a module. No statement has it; exported names are evaluated there, in the global
  -- scope (`global_context` of Modules).
  pub global_index : (owner : ℕ) → ℕ
  pub provider : List ℕ → Provider
  -- the address of a statement
  pub address : (owner index : ℕ) → ℤ

-- the definition that an expression refers to if it is a name; numbers, `*` and operations have values of their own
abbrev pub operand_binding : Program → (owner index : ℕ) → Tree → Option SymbolBinding
operand_binding p owner index (tree.number n) = None
operand_binding p owner index tree.here = None
operand_binding p owner index (tree.unary op e) = None
operand_binding p owner index (tree.binary op e f) = None
operand_binding p owner index e = p.binding owner index e

-- The value of an expression at its statement. A derivation is finite, so a name that is needed for its own
-- value has none.
pub data Value (p : Program) : (owner index : ℕ) → Tree → ℤ → Type 0 where
  -- a number is its own value
  number : {owner index n : ℕ} → Value p owner index (tree.number n) (pos n)
  -- `*` is the address of its statement
  here : {owner index : ℕ} → Value p owner index tree.here (p.address owner index)
  -- a label has the address of its statement
  label :
      {owner index definer : ℕ} {e : Tree} →
      operand_binding p owner index e ≡ Some (label_at definer) → Value p owner index e (p.address owner definer)
  -- a constant has the value of its expression at the statement that defines it
  constant :
      {owner index definer : ℕ} {e f : Tree} {v : ℤ} →
      operand_binding p owner index e ≡ Some (constant_at definer f) → Value p owner definer f v → Value p owner index e v
  -- an import has the value of the name in the global scope of the module that exports it; `name false (x ∷ [])` is the plain
  -- name `x`, without a leading `::`
  exported :
      {owner index provider : ℕ} {e : Tree} {x : List ℕ} {v : ℤ} →
      operand_binding p owner index e ≡ Some (import_of x) → p.provider x ≡ by_module provider →
      Value p provider (p.global_index provider) (name false (x ∷ [])) v → Value p owner index e v
  -- or the value that the script gives it
  scripted :
      {owner index : ℕ} {e : Tree} {x : List ℕ} {v : ℤ} →
      operand_binding p owner index e ≡ Some (import_of x) → p.provider x ≡ by_script v → Value p owner index e v
  -- an operation has the value that it computes from those of its operands
  prefixed :
      {owner index : ℕ} {op : Op1} {e : Tree} {a : ℤ} →
      Value p owner index e a → Value p owner index (tree.unary op e) (value1 op a)
  joined :
      {owner index : ℕ} {op : Op2} {e f : Tree} {a b v : ℤ} →
      Value p owner index e a → Value p owner index f b → value2 op a b ≡ Some v → Value p owner index (tree.binary op e f) v

-- ---- The expressions whose values an expression needs.

-- an expression, the index of its module and that of its statement
pub record LocatedExpr : Type 0 where
  pub owner : ℕ
  pub index : ℕ
  pub tree : Tree

abbrev pub located_expr : (owner index : ℕ) → Tree → LocatedExpr
located_expr owner index e = record { owner = owner; index = index; tree = e }

-- A constant needs its own expression, an import the name that its module exports, an operation its operands.
pub data NeedsNext (p : Program) : LocatedExpr → LocatedExpr → Type 0 where
  of_constant :
      {owner index definer : ℕ} {e f : Tree} →
      operand_binding p owner index e ≡ Some (constant_at definer f) →
      NeedsNext p (located_expr owner index e) (located_expr owner definer f)
  of_import :
      {owner index provider : ℕ} {e : Tree} {x : List ℕ} →
      operand_binding p owner index e ≡ Some (import_of x) → p.provider x ≡ by_module provider →
      NeedsNext p (located_expr owner index e) (located_expr provider (p.global_index provider) (name false (x ∷ [])))
  of_prefix :
      {owner index : ℕ} {op : Op1} {e : Tree} →
      NeedsNext p (located_expr owner index (tree.unary op e)) (located_expr owner index e)
  of_left :
      {owner index : ℕ} {op : Op2} {e f : Tree} →
      NeedsNext p (located_expr owner index (tree.binary op e f)) (located_expr owner index e)
  of_right :
      {owner index : ℕ} {op : Op2} {e f : Tree} →
      NeedsNext p (located_expr owner index (tree.binary op e f)) (located_expr owner index f)

-- the expressions that an expression needs, directly or through others
pub data NeedsValueOf (p : Program) : LocatedExpr → LocatedExpr → Type 0 where
  next : {x y : LocatedExpr} → NeedsNext p x y → NeedsValueOf p x y
  following : {x y z : LocatedExpr} → NeedsNext p x y → NeedsValueOf p y z → NeedsValueOf p x z
