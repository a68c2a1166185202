-- Edits of a library, in terms of its list of members.
use Rattle.std.proofs.lemmas.Grind.{common_steps}
use Rattle.std.proofs.Common.{arith, ◌≡◌, ◌∙◌, ℕ, Bool, true, false, not, ◌||◌, ◌&&◌, List, [], ◌∷◌, map, Ok, is_some, refl, ap, if◌then◌else◌}
use Rattle.std.specs.Global.{Vec}
use Rattle.std.specs.List.{AllByRecursion}
use Rattle.std.specs.Map.{keys_of, lookup, remove_entry}
use Rattle.std.specs.Option.{option_map}
use Rattle.std.specs.Str.{bytes_eq}
use Rattle.std.proofs.lemmas.Cmp.{nat_list_eq_equiv}
use Rattle.std.proofs.lemmas.Slice.Eq.{bytes_eq-Decides}
use Rattle.indexmap.specs.IndexMap.{insert_entry}
use Rattle.library65.specs.declared.contents.Contents.{Contents}
use Rattle.library65.specs.declared.library.StoredMember.{StoredMember}
use Rattle.library65.specs.Libraries.{bytes_of, member_contents, member_names, with_member, without_member, HasMatchingContents, member_of}
use Rattle.library65.specs.Spelling.{are_member_names, is_among, is_member_name, Member}

abbrev pub Stock : Type 0
Stock = List (Vec ℕ × StoredMember)

abbrev pub same_key : Vec ℕ → Vec ℕ → Bool
same_key a b = bytes_eq a.items b.items

abbrev pub has_key : List ℕ → Vec ℕ → Bool
has_key name k = bytes_eq name k.items

-- ---- The list of members after an edit.

pub inserted : (es : Stock) (k : Vec ℕ) (v : StoredMember) → map member_of (insert_entry same_key es k v) ≡ with_member (map member_of es) k.items v.bytes.items
inserted [] k v = refl
inserted (e ∷ es) k v = grind (arith, common_steps, (inserted es k v))

pub removed : (es : Stock) (name : List ℕ) → map member_of (remove_entry (has_key name) es) ≡ without_member (map member_of es) name
removed [] name = refl
removed (e ∷ es) name = grind (arith, common_steps, (removed es name))

pub found : (es : Stock) (name : List ℕ) → bytes_of (map member_of es) name ≡ option_map (λ s. s.bytes.items) (lookup (has_key name) es)
found [] name = refl
found (e ∷ es) name = grind (arith, common_steps, (found es name))

pub known : (es : Stock) (name : List ℕ) → is_some (lookup (has_key name) es) ≡ is_among (member_names (map member_of es)) name
known [] name = refl
known (e ∷ es) name = grind (arith, common_steps, (known es name))

-- ---- The members' names remain valid.

pub and : (a b : Bool) → a ≡ true → b ≡ true → (a && b) ≡ true
and true b e f = f
and false b e f = cc

pub left : (a b : Bool) → (a && b) ≡ true → a ≡ true
left true b e = refl
left false b e = e

pub right : (a b : Bool) → (a && b) ≡ true → b ≡ true
right true b e = e
right false b e = cc

neither : (a b : Bool) → a ≡ false → b ≡ false → (a || b) ≡ false
neither true b e f = cc
neither false b e f = f

first_not : (a b : Bool) → (a || b) ≡ false → a ≡ false
first_not true b e = cc
first_not false b e = refl

then_not : (a b : Bool) → (a || b) ≡ false → b ≡ false
then_not true b e = cc
then_not false b e = e

pub turned : (b : Bool) → not b ≡ true → b ≡ false
turned true e = cc
turned false e = refl

absent : (b : Bool) → b ≡ false → not b ≡ true
absent b e = rw e refl

pub record GoodNames (n : List ℕ) (ns : List (List ℕ)) : Type 0 where
  pub good : is_member_name n ≡ true
  pub new : is_among ns n ≡ false
  pub rest : are_member_names ns ≡ true

pub good_names : (n : List ℕ) (ns : List (List ℕ)) → are_member_names (n ∷ ns) ≡ true → GoodNames n ns
good_names n ns e = grind (arith, common_steps)

pub names_good : (n : List ℕ) (ns : List (List ℕ)) → GoodNames n ns → are_member_names (n ∷ ns) ≡ true
names_good n ns g = and (is_member_name n && not (is_among ns n)) (are_member_names ns) (and (is_member_name n) (not (is_among ns n)) g.good (absent (is_among ns n) g.new)) g.rest

with_absent : (ms : List Member) (name bytes q : List ℕ) → is_among (member_names ms) q ≡ false → bytes_eq q name ≡ false → is_among (member_names (with_member ms name bytes)) q ≡ false
with_absent [] name bytes q e f = neither (bytes_eq q name) false f refl
with_absent (m ∷ ms) name bytes q e f = grind (arith, common_steps, (with_absent ms name bytes q (then_not (bytes_eq q m.0) _ e) f), then_not, neither, first_not)

pub with_good : (ms : List Member) (name bytes : List ℕ) → is_member_name name ≡ true → are_member_names (member_names ms) ≡ true → are_member_names (member_names (with_member ms name bytes)) ≡ true
with_good [] name bytes good all = names_good name [] (record { good = good; new = refl; rest = refl })
with_good (m ∷ ms) name bytes good all =
    let g = good_names m.0 (member_names ms) all in
    step (bytes_eq name m.0) refl g (with_good ms name bytes good g.rest)
  where
    step : (b : Bool) → bytes_eq name m.0 ≡ b → GoodNames m.0 (member_names ms) → are_member_names (member_names (with_member ms name bytes)) ≡ true → are_member_names (member_names (if b then (m.0, bytes) ∷ ms else m ∷ with_member ms name bytes)) ≡ true
    step true is g h = all
    step false is g h = names_good m.0 _ (record { good = g.good; new = with_absent ms name bytes m.0 g.new (nat_list_eq_equiv.symm m.0 name ∙ is); rest = h })

without_absent : (ms : List Member) (name q : List ℕ) → is_among (member_names ms) q ≡ false → is_among (member_names (without_member ms name)) q ≡ false
without_absent [] name q e = refl
without_absent (m ∷ ms) name q e = grind (arith, common_steps, (without_absent ms name q (then_not (bytes_eq q m.0) _ e)), then_not, neither, first_not)

pub without_good : (ms : List Member) (name : List ℕ) → are_member_names (member_names ms) ≡ true → are_member_names (member_names (without_member ms name)) ≡ true
without_good [] name all = refl
without_good (m ∷ ms) name all =
    let g = good_names m.0 (member_names ms) all in
    step (bytes_eq name m.0) g (without_good ms name g.rest)
  where
    step : (b : Bool) → GoodNames m.0 (member_names ms) → are_member_names (member_names (without_member ms name)) ≡ true → are_member_names (member_names (if b then ms else m ∷ without_member ms name)) ≡ true
    step true g h = g.rest
    step false g h = names_good m.0 _ (record { good = g.good; new = without_absent ms name m.0 g.new; rest = h })

-- ---- The stored contents remain correct.

pub checked_good : (name bytes : List ℕ) (c : Contents) → member_contents name bytes ≡ Ok c → is_member_name name ≡ true
unfolding member_contents
checked_good name bytes c e = grind (arith, common_steps)

pub insert_stored : (es : Stock) (k : Vec ℕ) (v : StoredMember) → AllByRecursion HasMatchingContents es → HasMatchingContents (k, v) → AllByRecursion HasMatchingContents (insert_entry same_key es k v)
insert_stored [] k v all one = (one, tt)
insert_stored (e ∷ es) k v all one = grind (arith, common_steps, (insert_stored es k v all.1 one), bytes_eq-Decides)

pub remove_stored : (es : Stock) (name : List ℕ) → AllByRecursion HasMatchingContents es → AllByRecursion HasMatchingContents (remove_entry (has_key name) es)
remove_stored [] name all = tt
remove_stored (e ∷ es) name all = grind (arith, common_steps, (remove_stored es name all.1))

-- ---- Names.

pub named : (es : Stock) → map (λ k. k.items) (keys_of es) ≡ member_names (map member_of es)
named [] = refl
named (e ∷ es) = ap (λ ns. e.0.items ∷ ns) (named es)
