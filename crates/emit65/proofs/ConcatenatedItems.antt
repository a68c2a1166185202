-- A property of all items of two lists is one of all items of their concatenation.
use Rattle.std.proofs.Common.{List, [], ◌∷◌, ◌++◌}
use Rattle.std.specs.List.{AllByRecursion}

pub all_more : {A : Type 0} (P : A → Type 0) (xs ys : List A) → AllByRecursion P xs → AllByRecursion P ys → AllByRecursion P (xs ++ ys)
all_more P [] ys h g = g
all_more P (x ∷ xs) ys h g = (h.0, all_more P xs ys h.1 g)
