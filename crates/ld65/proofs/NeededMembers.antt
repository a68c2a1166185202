-- The needed members of a library are added in order.
use Rattle.std.proofs.lemmas.Grind.{common_steps}
use Rattle.std.proofs.Common.{◌≡◌, ◌∙◌, ◌<◌, ◌≤◌, ◌+◌, ℕ, zero, suc, List, [], ◌∷◌, ◌++◌, drop, get_or, length, Bool, true, false, slice_get, Option, Some, None, Result, Ok, Err, refl, sym, ap, subst, arith}
use Rattle.std.specs.Prelude.{IfSome}
use Rattle.std.specs.Option.{option_map_or}
use Rattle.script65.proofs.ListLemmas.{drop_item}
use Rattle.base65.specs.Outcome.{◌>>=◌, RefinesErr, Unless}
use Rattle.base65.specs.Store.{Files}
use Rattle.base65.proofs.Outcome.{refused-then}
use Rattle.library65.specs.declared.fault.LibraryFault.{LibraryFault}
use Rattle.library65.specs.declared.index.Entry.{Entry}
use Rattle.script65.specs.declared.script.Script.{Script}
use Rattle.link65.specs.declared.fault.LinkFault.{LinkFault}
use Rattle.link65.specs.Programs.{Module}
use Rattle.link65.specs.Representation.{LinkerView, RepresentsModules, module_of}
use Rattle.ld65.specs.declared.fault.LinkCommandFault.{LinkCommandFault}
use Rattle.ld65.specs.declared.fault.LinkCommandFault.TheVariants as error
use Rattle.ld65.specs.Internal.AddedModules.{AreNeededIndices, AddsLibrary, AddsMembers, AddsObject, RefinesReadThen, RefinesReadRelThen}
use Rattle.ld65.specs.Linkage.{Input, IsLibraryInput, as_library, selected_entries, entry_if_any, index_in, member_input, member_module, with_member, with_members}
use Rattle.ld65.specs.Faults.{is_system_error, member_fault}
use Rattle.ld65.proofs.AddedRecords.{fed_after, in_outside, refused_after}

-- ---- One member.

module _ (known : Option Files) (library : List ℕ) (e : Entry) (old new : LinkerView) where
  abbrev with_one : Script → List Module → Files → Result (List Module) LinkCommandFault
  with_one s before m = with_member s m library before e >>= (λ ms. Ok ms)

  -- the input of the member, with this module name
  abbrev fed_as : List ℕ → Input
  fed_as called = record { file = library; begin = e.place; end = e.place + e.size; name = called; entry = Some e }

  pub member_fed : (called : List ℕ) → called ≡ member_module library e.name → AddsObject known (fed_as called) old new (Ok tt) → AddsMembers known library (e ∷ []) old new (Ok tt)
  member_fed called same fed before stands =
      let q = subst (λ n. AddsObject known (fed_as n) old new (Ok tt)) same fed before stands in
      let name = member_module library e.name in
      let ms = before ++ module_of name q.0 ∷ [] in
      (ms, go known ms (fed_after known old.script before (member_input library e) (member_fault name) q.0 q.1), q.2)
    where
      go : (f : Option Files) (ms : List Module) → IfSome f (λ m. with_member old.script m library before e ≡ Ok ms) → IfSome f (λ m. with_one old.script before m ≡ Ok ms)
      go None ms h = tt
      go (Some m) ms h = ap (λ r. r >>= (λ ms. Ok ms)) h

  pub member_refused : (called : List ℕ) (f : LinkFault) → called ≡ member_module library e.name → AddsObject known (fed_as called) old new (Err f) → AddsMembers known library (e ∷ []) old new (Err (member_fault called f))
  member_refused called f same fed =
      subst (λ n. AddsMembers known library (e ∷ []) old new (Err (member_fault n f))) (sym same)
      (by_module (subst (λ n. AddsObject known (fed_as n) old new (Err f)) same fed))
    where
      by_module : AddsObject known (member_input library e) old new (Err f) → AddsMembers known library (e ∷ []) old new (Err (member_fault (member_module library e.name) f))
      by_module fed before stands =
          let name = member_module library e.name in
          go known (member_fault name f) (refused_after known old.script before (member_input library e) (member_fault name) f (in_outside name f) (fed before stands))
        where
          go : (k : Option Files) (x : LinkCommandFault) → IfSome k (λ m. RefinesErr is_system_error x (with_member old.script m library before e)) → IfSome k (λ m. RefinesErr is_system_error x (with_one old.script before m))
          go None x h = tt
          go (Some m) x h = refused-then is_system_error x (with_member old.script m library before e) (λ ms. Ok ms) h

  -- memory ran out
  pub member_unnamed : AddsMembers known library (e ∷ []) old new (Err error.OutOfMemory)
  member_unnamed before stands = go known
    where
      go : (k : Option Files) → IfSome k (λ m. RefinesErr is_system_error error.OutOfMemory (with_one old.script before m))
      go None = tt
      go (Some m) = tt

-- ---- The loop, for all modules that the linker represents.

-- adding the remaining members after the modules that the linker represents has the same result as adding all members
abbrev pub IsAfter : Option Files → List ℕ → List Entry → List Entry → LinkerView → LinkerView → Type 0
IsAfter known library all left old now =
    (before : List Module) → RepresentsModules old before
    → (modules : List Module) × RepresentsModules now modules
    × IfSome known (λ m. with_members old.script m library before all ≡ with_members old.script m library modules left)

module _ (known : Option Files) (library : List ℕ) (all : List Entry) where
  -- `with_members` of a concatenation
  pub in_turn : (s : Script) (m : Files) (before : List Module) (some left : List Entry) → with_members s m library before (some ++ left) ≡ (with_members s m library before some >>= (λ ms. with_members s m library ms left))
  in_turn s m before [] left = refl
  in_turn s m before (e ∷ es) left = go (with_member s m library before e) (λ ms. in_turn s m ms es left)
    where
      go : (r : Result (List Module) LinkCommandFault) → ((ms : List Module) → with_members s m library ms (es ++ left) ≡ (with_members s m library ms es >>= (λ ms. with_members s m library ms left))) → (r >>= (λ ms. with_members s m library ms (es ++ left))) ≡ ((r >>= (λ ms. with_members s m library ms es)) >>= (λ ms. with_members s m library ms left))
      go (Ok ms) next = next ms
      go (Err x) next = refl

  pub after_more : (some left : List Entry) (now : Option Files) (old mid new : LinkerView) → now ≡ known → mid.script ≡ old.script → IsAfter known library all (some ++ left) old mid → AddsMembers now library some mid new (Ok tt) → IsAfter known library all left old new
  after_more some left now old mid new same script is fed before stands =
      let p = is before stands in
      let q = fed p.0 p.1 in
      (q.0, q.2, go p.0 q.0 known p.2 (rw same at q.1))
    where
      go : (modules more : List Module) (f : Option Files) → IfSome f (λ m. with_members old.script m library before all ≡ with_members old.script m library modules (some ++ left)) → IfSome f (λ m. with_members mid.script m library modules some ≡ Ok more) → IfSome f (λ m. with_members old.script m library before all ≡ with_members old.script m library more left)
      go modules more None h added = tt
      go modules more (Some m) h added =
          h ∙ in_turn old.script m modules some left
          ∙ ap (λ r. r >>= (λ ms. with_members old.script m library ms left)) (subst (λ (s : Script). with_members s m library modules some ≡ Ok more) script added)

  pub after_refused : (some left : List Entry) (now : Option Files) (old mid new : LinkerView) (x : LinkCommandFault) → now ≡ known → mid.script ≡ old.script → IsAfter known library all (some ++ left) old mid → AddsMembers now library some mid new (Err x) → AddsMembers known library all old new (Err x)
  after_refused some left now old mid new x same script is fed before stands =
      let p = is before stands in
      go p.0 known p.2 (rw same at fed p.0 p.1)
    where
      unless : (b : Bool) (r : Result (List Module) LinkCommandFault) (f : List Module → Result (List Module) LinkCommandFault) (whole : Result (List Module) LinkCommandFault) → whole ≡ (r >>= f) → Unless b (r ≡ Err x) → Unless b (whole ≡ Err x)
      unless true r f whole h refused = tt
      unless false r f whole h refused = h ∙ ap (λ q. q >>= f) refused

      go : (modules : List Module) (f : Option Files) → IfSome f (λ m. with_members old.script m library before all ≡ with_members old.script m library modules (some ++ left)) → IfSome f (λ m. RefinesErr is_system_error x (with_members mid.script m library modules some)) → IfSome f (λ m. RefinesErr is_system_error x (with_members old.script m library before all))
      go modules None h refused = tt
      go modules (Some m) h refused =
          unless (is_system_error x) (with_members old.script m library modules some) (λ ms. with_members old.script m library ms left) _
          (h ∙ in_turn old.script m modules some left)
          (subst (λ (s : Script). RefinesErr is_system_error x (with_members s m library modules some)) script refused)

-- ---- Indices of entries.

any_default : (xs : List ℕ) (k d e : ℕ) → k < length xs → get_or xs k d ≡ get_or xs k e
any_default [] k d e h = absurd (omega (arith, h))
any_default (x ∷ xs) zero d e h = refl
any_default (x ∷ xs) (suc k) d e h = any_default xs k d e (omega (arith, h))

-- the indices from rank `k` on begin with the index at `k`
place_at : (known : Option Files) (library : List ℕ) (es : List Entry) (entry_indices : List ℕ) (k d : ℕ) (old mid : LinkerView) → k < length entry_indices → IsAfter known library (selected_entries es entry_indices) (selected_entries es (drop k entry_indices)) old mid → IsAfter known library (selected_entries es entry_indices) (entry_if_any es (get_or entry_indices k d) ++ selected_entries es (drop (k + 1) entry_indices)) old mid
place_at known library es entry_indices k d old mid lt is =
    let entry_index = get_or entry_indices k d in
    subst (λ (left : List Entry). IsAfter known library (selected_entries es entry_indices) left old mid) (ap (selected_entries es) (drop_item entry_indices k entry_index lt (any_default entry_indices k d entry_index lt))) is

module _ (known now : Option Files) (library : List ℕ) (es : List Entry) (entry_indices : List ℕ) (k d : ℕ) (old mid new : LinkerView) (lt : k < length entry_indices) (same : now ≡ known) (script : mid.script ≡ old.script) (is : IsAfter known library (selected_entries es entry_indices) (selected_entries es (drop k entry_indices)) old mid) where
  pub turn_refused : (x : LinkCommandFault) → AddsMembers now library (entry_if_any es (get_or entry_indices k d)) mid new (Err x) → AddsMembers known library (selected_entries es entry_indices) old new (Err x)
  turn_refused x fed = after_refused known library (selected_entries es entry_indices) (entry_if_any es (get_or entry_indices k d)) (selected_entries es (drop (k + 1) entry_indices)) now old mid new x same script (place_at known library es entry_indices k d old mid lt is) fed

  pub turn_fed : AddsMembers now library (entry_if_any es (get_or entry_indices k d)) mid new (Ok tt) → IsAfter known library (selected_entries es entry_indices) (selected_entries es (drop (k + 1) entry_indices)) old new
  turn_fed fed = after_more known library (selected_entries es entry_indices) (entry_if_any es (get_or entry_indices k d)) (selected_entries es (drop (k + 1) entry_indices)) now old mid new same script (place_at known library es entry_indices k d old mid lt is) fed

pub entry_there : (known : Option Files) (library : List ℕ) (es : List Entry) (index : ℕ) (e : Entry) (old new : LinkerView) (r : Result (Unit {0}) LinkCommandFault) → Some e ≡ slice_get es index → AddsMembers known library (e ∷ []) old new r → AddsMembers known library (entry_if_any es index) old new r
entry_there known library es index e old new r there fed =
    subst (λ (o : Option Entry). AddsMembers known library (option_map_or (λ e. e ∷ []) o []) old new r) there fed

pub none_there : (known : Option Files) (library : List ℕ) (es : List Entry) (index : ℕ) (old : LinkerView) → None ≡ slice_get es index → AddsMembers known library (entry_if_any es index) old old (Ok tt)
none_there known library es index old there =
    subst (λ (o : Option Entry). AddsMembers known library (option_map_or (λ e. e ∷ []) o []) old old (Ok tt)) there nothing
  where
    nothing : AddsMembers known library [] old old (Ok tt)
    nothing before stands = (before, go known, stands)
      where
        go : (f : Option Files) → IfSome f (λ m. ◌≡◌ {A = Result (List Module) LinkCommandFault} (Ok before) (Ok before))
        go None = tt
        go (Some m) = refl

-- the invariant before the first member
pub after_none : (known : Option Files) (library : List ℕ) (all : List Entry) (old : LinkerView) → IsAfter known library all all old old
after_none known library all old before stands = (before, stands, go known)
  where
    go : (f : Option Files) → IfSome f (λ m. with_members old.script m library before all ≡ with_members old.script m library before all)
    go None = tt
    go (Some m) = refl

-- after the last member, all members are added
pub after_all : (known : Option Files) (library : List ℕ) (es : List Entry) (entry_indices : List ℕ) (k : ℕ) (old new : LinkerView) → length entry_indices ≤ k → IsAfter known library (selected_entries es entry_indices) (selected_entries es (drop k entry_indices)) old new → AddsMembers known library (selected_entries es entry_indices) old new (Ok tt)
after_all known library es entry_indices k old new le is before stands =
    let p = is before stands in
    (p.0, subst (λ (ps : List ℕ). IfSome known (λ m. with_members old.script m library before (selected_entries es entry_indices) ≡ with_members old.script m library p.0 (selected_entries es ps))) (drop_past entry_indices k le) p.2, p.1)
  where
    drop_past : (ps : List ℕ) (k : ℕ) → length ps ≤ k → drop k ps ≡ []
    drop_past ps k le = grind (arith, common_steps)

-- ---- A library.

-- an index that was read
pub indexed : (known : Option Files) (k : ℕ) (library : List ℕ) (es : List Entry) → IfSome known (λ m. as_library k (index_in m library) ≡ Ok es) → IfSome known (λ m. index_in m library ≡ Ok es)
indexed None k library es h = tt
indexed (Some m) k library es h = go (index_in m library) h
  where
    go : (r : Result (List Entry) LibraryFault) → as_library k r ≡ Ok es → r ≡ Ok es
    go (Ok x) h = let same : x ≡ es = cc in ap Ok same
    go (Err f) h = absurd cc

-- the needed members are added; the index and the entry indices are borrowed
pub library_fed : (known : Option Files) (k : ℕ) (library : List ℕ) (es entries : List Entry) (entry_indices ps : List ℕ) (old new : LinkerView) (r : Result (Unit {0}) LinkCommandFault) → entries ≡ es → ps ≡ entry_indices → IfSome known (λ m. as_library k (index_in m library) ≡ Ok es) → AreNeededIndices es entry_indices old → AddsMembers known library (selected_entries entries ps) old new r → AddsLibrary known k library old new r
library_fed known k library es entries entry_indices ps old new r same_es same_places read chosen_so fed before stands = by r (rw (same_es, same_places) at fed before stands)
  where
    index : IfSome known (λ m. index_in m library ≡ Ok es)
    index = indexed known k library es read

    all_in : Files → Result (List Module) LinkCommandFault
    all_in m = with_members old.script m library before (selected_entries es entry_indices)

    as_input : (m : Files) (q : Result (List Module) LinkCommandFault) → index_in m library ≡ Ok es → all_in m ≡ q → IsLibraryInput old.script m k before library q
    as_input m q index h = rw index (entry_indices, chosen_so before stands, sym h)

    told : (f : Option Files) (q : Result (List Module) LinkCommandFault) → IfSome f (λ m. index_in m library ≡ Ok es) → IfSome f (λ m. all_in m ≡ q) → IfSome f (λ m. IsLibraryInput old.script m k before library q)
    told None q index h = tt
    told (Some m) q index h = as_input m q index h

    refused : (f : Option Files) (b : Bool) (q : Result (List Module) LinkCommandFault) → IfSome f (λ m. index_in m library ≡ Ok es) → IfSome f (λ m. Unless b (all_in m ≡ q)) → IfSome f (λ m. Unless b (IsLibraryInput old.script m k before library q))
    refused None b q index h = tt
    refused (Some m) true q index h = tt
    refused (Some m) false q index h = as_input m q index h

    by : (r : Result (Unit {0}) LinkCommandFault) → RefinesReadThen is_system_error (λ u modules. RepresentsModules new modules) known all_in r → RefinesReadRelThen is_system_error (λ u modules. RepresentsModules new modules) known (λ m. IsLibraryInput old.script m k before library) r
    by (Ok u) h = (h.0, told known (Ok h.0) index h.1, h.2)
    by (Err e) h = refused known (is_system_error e) (Err e) index h
