-- Chains of constants, each of which needs the next, and the case that one of them is needed again.
use Rattle.std.proofs.lemmas.Grind.{common_steps}
use Rattle.std.proofs.Common.{◌≡◌, ℕ, zero, suc, ◌+◌, ◌≤◌, sym, subst, arith, List, [], ◌∷◌, ◌++◌, length, ◌⊎◌, inl, inr}
use Rattle.std.specs.Prelude.{⊤}
use Rattle.semantics65.specs.Symbols.{Symbols}
use Rattle.symbols65.proofs.ExpansionDepths.{Course, constant_course}

-- ---- Elements of a list.

abbrev pub Among : ℕ → List ℕ → Type 0
Among x [] = ⊥
Among x (w ∷ ws) = (x ≡ w) ⊎ Among x ws

pub among_more : (x w : ℕ) (ws : List ℕ) → Among x ws → Among x (ws ++ w ∷ [])
among_more x w [] h = absurd h
among_more x w (v ∷ ws) (inl e) = inl e
among_more x w (v ∷ ws) (inr h) = inr (among_more x w ws h)

pub among_last : (x w : ℕ) (ws : List ℕ) → x ≡ w → Among x (ws ++ w ∷ [])
among_last x w [] e = inl e
among_last x w (v ∷ ws) e = inr (among_last x w ws e)

pub among_cases : (x w : ℕ) (ws : List ℕ) → Among x (ws ++ w ∷ []) → Among x ws ⊎ (x ≡ w)
among_cases x w [] (inl e) = inr e
among_cases x w [] (inr h) = absurd h
among_cases x w (v ∷ ws) (inl e) = inl (inl e)
among_cases x w (v ∷ ws) (inr h) = grind (arith, common_steps, (among_cases x w ws h))

-- ---- Chains.

-- the course of the last constant of a list, or `v` if the list is empty
abbrev pub last_course : Symbols → Course → List ℕ → Course
last_course table v [] = v
last_course table v (w ∷ ws) = last_course table (constant_course table w) ws

-- `Needs v j`: the course `v` needs constant `j`
module _ (table : Symbols) (Needs : Course → ℕ → Type 0) where
  -- the first course needs the first constant, and each constant needs the next
  abbrev pub IsChain : Course → List ℕ → Type 0
  IsChain v [] = ⊤
  IsChain v (w ∷ ws) = Needs v w × IsChain (constant_course table w) ws

  pub chain_more : (v : Course) (ws : List ℕ) (j : ℕ) → IsChain v ws → Needs (last_course table v ws) j → IsChain v (ws ++ j ∷ [])
  chain_more v [] j h l = (l, tt)
  chain_more v (w ∷ ws) j (m, h) l = (m, chain_more (constant_course table w) ws j h l)

  pub chain_less : (v : Course) (ws : List ℕ) (j : ℕ) → IsChain v (ws ++ j ∷ []) → IsChain v ws
  chain_less v [] j h = tt
  chain_less v (w ∷ ws) j (m, h) = (m, chain_less (constant_course table w) ws j h)

  -- a property that passes from a constant at depth k to what needs the constant at depth k + 1
  module _ (P : Course → ℕ → Type 0) (step : (v : Course) (j k : ℕ) → Needs v j → P (constant_course table j) k → P v (suc k)) where
    pub chain_passes : (v : Course) (ws : List ℕ) (k : ℕ) → IsChain v ws → P (last_course table v ws) k → P v (length ws + k)
    chain_passes v [] k h e = let same : k ≡ 0 + k = omega arith in subst (P v) same e
    chain_passes v (w ∷ ws) k (l, h) e =
        let same : suc (length ws + k) ≡ suc (length ws) + k = omega arith in
        subst (P v) same (step v w (length ws + k) l (chain_passes (constant_course table w) ws k h e))

    -- the property passes from `v` at depth k to constant `j` at depth d + k
    abbrev After : ℕ → ℕ → Course → Type 0
    After d j v = (k : ℕ) → P v k → P (constant_course table j) (d + k)

    pub among_after : (v : Course) (ws : List ℕ) (j : ℕ) → IsChain v ws → Among j ws → (d : ℕ) × After d j (last_course table v ws)
    among_after v [] j h m = absurd m
    among_after v (w ∷ ws) j (l, h) (inl e) = (length ws, λ k q. subst (λ (x : ℕ). P (constant_course table x) (length ws + k)) (sym e) (chain_passes (constant_course table w) ws k h q))
    among_after v (w ∷ ws) j (l, h) (inr m) = among_after (constant_course table w) ws j h m

    -- the property passes to smaller depths, and each constant that is needed has it at depth 0
    module _ (before : (j n k : ℕ) → k ≤ n → P (constant_course table j) n → P (constant_course table j) k) (starts : (v : Course) (j : ℕ) → Needs v j → P (constant_course table j) 0) where
      always : (j d : ℕ) → P (constant_course table j) 0 → ((k : ℕ) → P (constant_course table j) k → P (constant_course table j) (d + suc k)) → (k : ℕ) → P (constant_course table j) k
      always j d s h zero = s
      always j d s h (suc k) = before j (d + suc k) (suc k) (omega arith) (h k (always j d s h k))

      -- if the last constant of a chain needs one of the chain, that one has the property at every depth
      pub met_ever : (v : Course) (ws : List ℕ) (j : ℕ) → IsChain v ws → Needs (last_course table v ws) j → Among j ws → (k : ℕ) → P (constant_course table j) k
      met_ever v ws j h l m =
          let (d, after) = among_after v ws j h m in
          always j d (starts (last_course table v ws) j l) (λ k e. after (suc k) (step (last_course table v ws) j k l e))

      pub met_again : (v : Course) (ws : List ℕ) (j : ℕ) → IsChain v ws → Needs (last_course table v ws) j → Among j ws → (n : ℕ) → P v (length ws + suc n)
      met_again v ws j h l m n = chain_passes v ws (suc n) h (step (last_course table v ws) j n l (met_ever v ws j h l m n))
