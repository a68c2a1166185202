-- The files of a list consist of bytes.
use Rattle.std.proofs.Common.{◌≡◌, ◌∙◌, ℕ, suc, ◌+◌, ◌<◌, ◌⊎◌, List, [], ◌∷◌, length, get_or, map, inl, inr, Some, sym, ap, subst, arith}
use Rattle.std.proofs.Math.Nat.{eq-or-lt_of_le}
use Rattle.std.proofs.lemmas.List.{get_or_default}
use Rattle.std.specs.Ordering.{nat_cmp, eq_by_cmp}
use Rattle.std.specs.Cmp.Lexicographic.{slice_cmp}
use Rattle.std.specs.FinMap.{find}
use Rattle.base65.specs.declared.mem_store.File.{File}
use Rattle.base65.specs.FileBytes.{HaveOnlyBytes}
use Rattle.base65.specs.MemStore.{entry, files_of}
use Rattle.base65.specs.Store.{IsBytes}
use Rattle.base65.proofs.FileIndex.{looked_up, tested}

-- the first `n` files of a list consist of bytes
abbrev pub AreHeld : List File → ℕ → Type 0
AreHeld fs n = (k : ℕ) (d : File) → k < n → IsBytes (get_or fs k d).bytes.items

pub one_more : (fs : List File) (n : ℕ) (f : File) → n < length fs → f ≡ get_or fs n f → IsBytes f.bytes.items → AreHeld fs n → AreHeld fs (n + 1)
one_more fs n f lt is bytes held k d less = go (eq-or-lt_of_le (omega arith))
  where
    go : (k ≡ n) ⊎ (k < n) → IsBytes (get_or fs k d).bytes.items
    go (inr below) = held k d below
    go (inl here) = let same : f ≡ get_or fs k d = is ∙ get_or_default fs n f d lt ∙ ap (λ i. get_or fs i d) (sym here) in subst (λ (g : File). IsBytes g.bytes.items) same bytes

found : (fs : List File) (name bytes : List ℕ) → AreHeld fs (length fs) → find (slice_cmp nat_cmp) name (map entry fs) ≡ Some bytes → IsBytes bytes
found [] name bytes held e = absurd cc
found (f ∷ fs) name bytes held e =
    elim (tested (eq_by_cmp (slice_cmp nat_cmp) name f.name.items) _ _ _ e) [
      | inl h ↦ let same : f.bytes.items ≡ bytes = cc (h.1) in subst IsBytes same (held 0 f (omega arith))
      | inr h ↦ found fs name bytes (λ k d less. held (suc k) d (omega arith)) h.1
    ]

pub all_held : (fs : List File) (n : ℕ) → length fs ≡ n → AreHeld fs n → HaveOnlyBytes (files_of fs)
all_held fs n all held name bytes e = found fs name bytes (subst (AreHeld fs) (sym all) held) (sym (looked_up fs name) ∙ e)
