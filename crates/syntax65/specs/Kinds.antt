-- Expressions as contracts see them.
use Rattle.std.specs.Prelude.{false, ◌∷◌, []}
use Rattle.syntax65.specs.Trees.{Tree, number, here, name, cheap, forward, backward, unary, binary}
use Rattle.syntax65.specs.declared.expressions.trees.ExprKind.{ExprKind}
use Rattle.syntax65.specs.declared.expressions.trees.ExprKind.TheVariants.{Number, Here, Plain, Scoped, Cheap, Forward, Backward, Prefix, Binary}

abbrev pub tree_of : ExprKind → Tree
tree_of (Number v) = number v
tree_of Here = here
tree_of (Plain n) = name false (n ∷ [])
tree_of (Scoped n) = name n.is_global n.parts
tree_of (Cheap text) = cheap text
tree_of (Forward n) = forward n
tree_of (Backward n) = backward n
tree_of (Prefix op e) = unary op e.value
tree_of (Binary op b) = binary op b.value.left b.value.right
