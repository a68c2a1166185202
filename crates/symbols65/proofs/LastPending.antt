-- The attempt at the last of the pending constants.
use Rattle.std.proofs.Common.{◌≡◌, ℕ, suc, ◌-◌, sym, ap, ◌∙◌, arith, List, [], ◌∷◌, ◌++◌, length, refl, Some, slice_get}
use Rattle.symbols65.specs.Resolving.{last_attempt}

pub last_is : {A : Type 0} (at : ℕ → A) (a : A) (ws : List ℕ) (w : ℕ) → Some w ≡ slice_get ws (length ws - 1) → last_attempt at a ws ≡ at w
last_is at a [] w e = absurd cc
last_is at a (u ∷ []) w e = let same : u ≡ w = cc in ap at same
last_is at a (u ∷ x ∷ ws) w e =
    let one : suc (suc (length ws)) - 1 ≡ suc (length ws) = omega arith in
    let less : suc (length ws) - 1 ≡ length ws = omega arith in
    last_is at (at u) (x ∷ ws) w (e ∙ ap (slice_get (u ∷ x ∷ ws)) one ∙ ap (slice_get (x ∷ ws)) (sym less))

-- the attempt at the last constant is at the one that is popped
pub last_tried : {A : Type 0} (at : ℕ → A) (others : List ℕ) (first : A) (j : ℕ) → last_attempt at first (others ++ j ∷ []) ≡ at j
last_tried at [] first j = refl
last_tried at (w ∷ ws) first j = last_tried at ws (at w) j
