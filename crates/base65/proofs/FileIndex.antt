-- The index of a file in a list of files, and the effect of changing that file.
use Rattle.std.proofs.Common.{◌≡◌, ◌∙◌, ℕ, suc, ◌+◌, ◌<◌, ◌≤◌, List, [], ◌∷◌, ◌++◌, length, drop, get_or, set, map, inl, inr, ◌⊎◌, Bool, true, false, cond, Option, Some, None, refl, sym, ap, arith}
use Rattle.std.proofs.lemmas.List.{drop_more, drop_all, map-append}
use Rattle.std.specs.Option.{option_map}
use Rattle.std.specs.Ordering.{nat_cmp, eq_by_cmp, is_eq}
use Rattle.std.specs.declared.cmp.Ordering.{Ordering}
use Rattle.std.specs.declared.cmp.Ordering.TheVariants.{Less, Equal, Greater}
use Rattle.std.specs.Cmp.Lexicographic.{slice_cmp, texts_ties, nat_list_cmp_total}
use Rattle.std.specs.FinMap.{find, get, insert, from_entries, get-from_entries, get-insert, same_map, slice_cmp-IsAntisymmetric, nat_cmp-IsAntisymmetric, from_entries_push}
use Rattle.base65.specs.declared.mem_store.File.{File}
use Rattle.base65.specs.Store.{Files}
use Rattle.base65.specs.MemStore.{file_index, is_named, files_of, entry}

-- the first step of a search from an index on
drops : (fs : List File) (i : ℕ) (f : File) (name : List ℕ) → i < length fs → f ≡ get_or fs i f → file_index name (drop i fs) ≡ cond (is_named name f) (Some 0) (option_map suc (file_index name (drop (i + 1) fs)))
drops fs i f name h is = ap (file_index name) (drop_more fs i f h ∙ ap (λ g. g ∷ drop (i + 1) fs) (sym is))

pub found_here : (fs : List File) (i : ℕ) (f : File) (name : List ℕ) → i < length fs → f ≡ get_or fs i f → is_named name f ≡ true → file_index name (drop i fs) ≡ Some 0
found_here fs i f name h is named = drops fs i f name h is ∙ rw named refl

shifted : (i : ℕ) (o : Option ℕ) → option_map (λ k. i + k) (option_map suc o) ≡ option_map (λ k. i + 1 + k) o
shifted i None = refl
shifted i (Some k) = let e : i + suc k ≡ i + 1 + k = omega arith in ap Some e

pub found_later : (fs : List File) (i : ℕ) (f : File) (name : List ℕ) → i < length fs → f ≡ get_or fs i f → is_named name f ≡ false → option_map (λ k. i + k) (file_index name (drop i fs)) ≡ option_map (λ k. i + 1 + k) (file_index name (drop (i + 1) fs))
found_later fs i f name h is named =
    let e : file_index name (drop i fs) ≡ option_map suc (file_index name (drop (i + 1) fs)) = drops fs i f name h is ∙ rw named refl in
    ap (option_map (λ k. i + k)) e ∙ shifted i _

pub found_nowhere : (fs : List File) (i : ℕ) (name : List ℕ) → length fs ≤ i → file_index name (drop i fs) ≡ None
found_nowhere fs i name h = ap (file_index name) (drop_all i fs h)

-- the equality test of two names
equal : (o : Ordering) → is_eq o ≡ true → o ≡ Equal
equal Less e = cc
equal Equal e = refl
equal Greater e = cc

same_names : (a b : List ℕ) → eq_by_cmp (slice_cmp nat_cmp) a b ≡ true → a ≡ b
same_names a b e = slice_cmp-IsAntisymmetric nat_cmp-IsAntisymmetric a b (equal _ e)

tied : (name : List ℕ) (f : File) → is_named name f ≡ eq_by_cmp (slice_cmp nat_cmp) name f.name.items
tied name f = texts_ties name f.name.items

pub named_same : (name : List ℕ) (f : File) → is_named name f ≡ true → name ≡ f.name.items
named_same name f e = same_names name f.name.items (sym (tied name f) ∙ e)

pub looked_up : (fs : List File) (q : List ℕ) → get (files_of fs) q ≡ find (slice_cmp nat_cmp) q (map entry fs)
looked_up fs q = get-from_entries nat_list_cmp_total (map entry fs) q

none_mapped : (o : Option ℕ) → option_map suc o ≡ None → o ≡ None
none_mapped None e = refl
none_mapped (Some k) e = cc

some_mapped : (o : Option ℕ) (i : ℕ) → option_map suc o ≡ Some i → (k : ℕ) × (o ≡ Some k) × (i ≡ suc k)
some_mapped None i e = cc
some_mapped (Some k) i e = (k, refl, cc)

-- the two cases of a condition
pub tested : {A : Type 0} (b : Bool) (x y z : A) → cond b x y ≡ z → ((b ≡ true) × (x ≡ z)) ⊎ ((b ≡ false) × (y ≡ z))
tested true x y z e = inl (refl, e)
tested false x y z e = inr (refl, e)

find_nowhere : (fs : List File) (name : List ℕ) → file_index name fs ≡ None → find (slice_cmp nat_cmp) name (map entry fs) ≡ None
find_nowhere [] name e = refl
find_nowhere (f ∷ fs) name e =
    elim (tested (is_named name f) _ _ _ e) [
      | inl h ↦ cc (h.1)
      | inr h ↦ let not : eq_by_cmp (slice_cmp nat_cmp) name f.name.items ≡ false = sym (tied name f) ∙ h.0 in rw not (find_nowhere fs name (none_mapped _ h.1))
    ]

pub get_nowhere : (fs : List File) (name : List ℕ) → file_index name fs ≡ None → get (files_of fs) name ≡ None
get_nowhere fs name e = looked_up fs name ∙ find_nowhere fs name e

find_somewhere : (fs : List File) (name : List ℕ) (i : ℕ) (d : File) → file_index name fs ≡ Some i → find (slice_cmp nat_cmp) name (map entry fs) ≡ Some (get_or fs i d).bytes.items
find_somewhere [] name i d e = cc
find_somewhere (f ∷ fs) name i d e =
    elim (tested (is_named name f) _ _ _ e) [
      | inl h ↦ let yes : eq_by_cmp (slice_cmp nat_cmp) name f.name.items ≡ true = sym (tied name f) ∙ h.0 in let at : i ≡ 0 = cc (h.1) in rw (yes, at) refl
      | inr h ↦ let not : eq_by_cmp (slice_cmp nat_cmp) name f.name.items ≡ false = sym (tied name f) ∙ h.0 in let k = some_mapped _ i h.1 in rw (not, k.2) (find_somewhere fs name k.0 d k.1)
    ]

pub get_somewhere : (fs : List File) (name : List ℕ) (i : ℕ) (f : File) → file_index name fs ≡ Some i → f ≡ get_or fs i f → get (files_of fs) name ≡ Some f.bytes.items
get_somewhere fs name i f e is = looked_up fs name ∙ find_somewhere fs name i f e ∙ ap (λ (g : File). Some g.bytes.items) (sym is)

-- replacing a file by one with the same name
find_set : (fs : List File) (name : List ℕ) (i : ℕ) (g : File) → file_index name fs ≡ Some i → g.name.items ≡ name → (q : List ℕ) → find (slice_cmp nat_cmp) q (map entry (set fs i g)) ≡ cond (eq_by_cmp (slice_cmp nat_cmp) q name) (Some g.bytes.items) (find (slice_cmp nat_cmp) q (map entry fs))
find_set [] name i g e named q = cc
find_set (f ∷ fs) name i g e named q =
    elim (tested (is_named name f) _ _ _ e) [
      | inl h ↦ let same : f.name.items ≡ name = sym (named_same name f h.0) in let at : i ≡ 0 = cc (h.1) in rw (at, named, same) (twice (eq_by_cmp (slice_cmp nat_cmp) q name) _ _ _)
      | inr h ↦
          let k = some_mapped _ i h.1 in
          let apart : eq_by_cmp (slice_cmp nat_cmp) name f.name.items ≡ false = sym (tied name f) ∙ h.0 in
          rw (k.2, find_set fs name k.0 g k.1 named q) (turned (eq_by_cmp (slice_cmp nat_cmp) q f.name.items) (eq_by_cmp (slice_cmp nat_cmp) q name) _ _ _ (λ p r. not_both name f q apart p r))
    ] where
      twice : {A : Type 0} (b : Bool) (x y z : A) → cond b x z ≡ cond b x (cond b y z)
      twice true x y z = refl
      twice false x y z = refl

      turned : {A : Type 0} (a b : Bool) (x y z : A) → (a ≡ true → b ≡ true → ⊥) → cond a y (cond b x z) ≡ cond b x (cond a y z)
      turned true true x y z h = absurd (h refl refl)
      turned true false x y z h = refl
      turned false true x y z h = refl
      turned false false x y z h = refl

      not_both : (name : List ℕ) (f : File) (q : List ℕ) → eq_by_cmp (slice_cmp nat_cmp) name f.name.items ≡ false → eq_by_cmp (slice_cmp nat_cmp) q f.name.items ≡ true → eq_by_cmp (slice_cmp nat_cmp) q name ≡ true → ⊥
      not_both name f q apart p r = let e : name ≡ q = sym (same_names q name r) in let no : eq_by_cmp (slice_cmp nat_cmp) q f.name.items ≡ false = rw e at apart in cc

pub set_there : (fs : List File) (name : List ℕ) (i : ℕ) (g : File) → file_index name fs ≡ Some i → g.name.items ≡ name → files_of (set fs i g) ≡ insert (files_of fs) name g.bytes.items
set_there fs name i g e named =
    same_map nat_list_cmp_total (slice_cmp-IsAntisymmetric nat_cmp-IsAntisymmetric) _ _
    (λ q. looked_up (set fs i g) q ∙ find_set fs name i g e named q ∙ ap (cond (eq_by_cmp (slice_cmp nat_cmp) q name) (Some g.bytes.items)) (sym (looked_up fs q)) ∙ sym (get-insert nat_list_cmp_total (files_of fs) name g.bytes.items q))

-- appending a file with a new name
pub pushed : (fs : List File) (name : List ℕ) (g : File) → file_index name fs ≡ None → g.name.items ≡ name → files_of (fs ++ g ∷ []) ≡ insert (files_of fs) name g.bytes.items
pushed fs name g e named =
    ap (from_entries {R = slice_cmp nat_cmp}) (map-append entry fs (g ∷ []))
    ∙ (rw named (from_entries_push nat_list_cmp_total (slice_cmp-IsAntisymmetric nat_cmp-IsAntisymmetric) (map entry fs) name g.bytes.items (find_nowhere fs name e)))

-- the file that is found has the name
pub named_at : (fs : List File) (name : List ℕ) (i : ℕ) (f : File) → file_index name fs ≡ Some i → f ≡ get_or fs i f → f.name.items ≡ name
named_at fs name i f e is = ap (λ (g : File). g.name.items) is ∙ at fs name i f e where
  at : (fs : List File) (name : List ℕ) (i : ℕ) (d : File) → file_index name fs ≡ Some i → (get_or fs i d).name.items ≡ name
  at [] name i d e = cc
  at (f ∷ fs) name i d e =
      elim (tested (is_named name f) _ _ _ e) [
        | inl h ↦ let zeroth : i ≡ 0 = cc (h.1) in rw zeroth (sym (named_same name f h.0))
        | inr h ↦ let k = some_mapped _ i h.1 in rw (k.2) (at fs name k.0 d k.1)
      ]

-- inserting the bytes that a file already has changes nothing
pub insert_same : (m : Files) (name bytes : List ℕ) → get m name ≡ Some bytes → insert m name bytes ≡ m
insert_same m name bytes e =
    same_map nat_list_cmp_total (slice_cmp-IsAntisymmetric nat_cmp-IsAntisymmetric) _ _ (λ q. get-insert nat_list_cmp_total m name bytes q ∙ same q (eq_by_cmp (slice_cmp nat_cmp) q name) refl) where
      same : (q : List ℕ) (b : Bool) → eq_by_cmp (slice_cmp nat_cmp) q name ≡ b → cond b (Some bytes) (get m q) ≡ get m q
      same q true h = sym e ∙ ap (get m) (sym (same_names q name h))
      same q false h = refl
