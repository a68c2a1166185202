-- The contract view of expressions, without their boxes.
use Rattle.std.specs.Prelude.{◌≡◌, refl, ℕ, ◌+◌, Bool, List}
use Rattle.std.proofs.Common.{ap}
use Rattle.std.specs.Coded.{Coded, coded_bool, coded_list, coded_ℕ}
use base.Stored.{Gv, gnum, gcons}
use Rattle.base65.specs.declared.values.Op1.{Op1}
use Rattle.base65.specs.declared.values.Op2.{Op2}
use Rattle.base65.specs.contracts.values.Op1 as op1
use Rattle.base65.specs.contracts.values.Op2 as op2

pub data Tree : Type 0 where
  number : ℕ → Tree
  here : Tree
  name : Bool → List (List ℕ) → Tree
  cheap : List ℕ → Tree
  forward : ℕ → Tree
  backward : ℕ → Tree
  unary : Op1 → Tree → Tree
  binary : Op2 → Tree → Tree → Tree

abbrev pub nodes : Tree → ℕ
nodes (unary op e) = nodes e + 1
nodes (binary op e f) = nodes e + nodes f + 1
nodes _ = 1

abbrev texts : Coded (List (List ℕ))
texts = coded_list (coded_list coded_ℕ)

abbrev text : Coded (List ℕ)
text = coded_list coded_ℕ

-- an expression encoded as a tree of numbers, one to one
abbrev pub tree_encoding : Tree → Gv
tree_encoding (number v) = gcons (gnum 0) (gnum v)
tree_encoding here = gcons (gnum 1) (gnum 0)
tree_encoding (name g parts) = gcons (gnum 2) (gcons (coded_bool.code g) (texts.code parts))
tree_encoding (cheap n) = gcons (gnum 3) (text.code n)
tree_encoding (forward n) = gcons (gnum 4) (gnum n)
tree_encoding (backward n) = gcons (gnum 5) (gnum n)
tree_encoding (unary op e) = gcons (gnum 6) (gcons (op1.the_row.coded.code op) (tree_encoding e))
tree_encoding (binary op e f) = gcons (gnum 7) (gcons (op2.the_row.coded.code op) (gcons (tree_encoding e) (tree_encoding f)))

pub same_tree : (s t : Tree) → tree_encoding s ≡ tree_encoding t → s ≡ t
same_tree (number v) (number w) x = let same : v ≡ w = cc in ap number same
same_tree here here x = refl
same_tree (name g ps) (name h qs) x = let one : coded_bool.code g ≡ coded_bool.code h = cc in let two : texts.code ps ≡ texts.code qs = cc in let left = coded_bool.inj g h one in let right = texts.inj ps qs two in λ i. name (left i) (right i)
same_tree (cheap n) (cheap m) x = let same : text.code n ≡ text.code m = cc in ap cheap (text.inj n m same)
same_tree (forward k) (forward l) x = let same : k ≡ l = cc in ap forward same
same_tree (backward k) (backward l) x = let same : k ≡ l = cc in ap backward same
same_tree (unary op e) (unary oq a) x = let same : tree_encoding e ≡ tree_encoding a = cc in let one : op1.the_row.coded.code op ≡ op1.the_row.coded.code oq = cc in let o = op1.the_row.coded.inj op oq one in let r = same_tree e a same in λ i. unary (o i) (r i)
same_tree (binary op e f) (binary oq a b) x = let left : tree_encoding e ≡ tree_encoding a = cc in let right : tree_encoding f ≡ tree_encoding b = cc in let one : op2.the_row.coded.code op ≡ op2.the_row.coded.code oq = cc in let o = op2.the_row.coded.inj op oq one in let l = same_tree e a left in let r = same_tree f b right in λ i. binary (o i) (l i) (r i)
same_tree _ _ x = cc

abbrev pub tree_code : Coded Tree
tree_code = record { code = tree_encoding; inj = same_tree }
