-- In which object, member and input a call of the store failed.
use Rattle.std.proofs.Common.{◌≡◌, ◌∙◌, ◌<◌, ◌≤◌, ◌+◌, ℕ, zero, suc, List, [], ◌∷◌, ◌++◌, get_or, length, take, Bool, true, false, slice_get, Option, Some, None, Result, Ok, Err, refl, sym, ap, subst, arith, inl, inr, IfErr}
use Rattle.std.proofs.lemmas.Grind.{flat_map-append}
use Rattle.std.proofs.lemmas.List.{take_more, append-nil}
use Rattle.std.specs.FinMap.{get}
use Rattle.std.specs.Option.{option_map_or}
use Rattle.std.specs.Prelude.{IfSome, IsErrOf}
use Rattle.base65.specs.Outcome.{◌>>=◌, AndThen, Refines}
use Rattle.base65.specs.Store.{Files, FailedWithin, LastFailure}
use Rattle.object65.specs.declared.fault.ObjectFault.{ObjectFault}
use Rattle.object65.specs.declared.fault.ObjectFault.TheVariants as object
use Rattle.object65.specs.Reading.{in_file}
use Rattle.object65.specs.Record.{is_system_error as is_object_system_error}
use Rattle.library65.specs.declared.index.Entry.{Entry}
use Rattle.script65.specs.declared.script.Script.{Script}
use Rattle.link65.specs.Faults.{of_object}
use Rattle.link65.specs.Programs.{Module}
use Rattle.link65.specs.Representation.{LinkerView, RepresentsModules}
use Rattle.ld65.specs.declared.fault.LinkCommandFault.{LinkCommandFault}
use Rattle.ld65.specs.Internal.AddedModules.{AreNeededIndices, AddsInput, AddsMembers}
use Rattle.ld65.specs.Linkage.{AreInputs, IsInput, as_library, selected_entries, entry_if_any, index_in, is_library, is_library_in, with_members}
use Rattle.ld65.specs.Naming.{IsInputFailure, IsInputListFailure, IsLibraryFailure, IsMemberFailure, IsObjectFailure, NamesFailure}
use Rattle.ld65.proofs.NeededMembers.{in_turn, indexed}
use Rattle.ld65.proofs.Frames.{err_is, stored}
use Rattle.ld65.proofs.Objects.{file_failed}

-- ---- Within an object.

-- a call that failed from `at` to `end` also failed from an earlier offset `begin` to `end`
pub later_in : (b : LastFailure) (name : List ℕ) (begin at end : ℕ) → begin ≤ at → FailedWithin b name at end → FailedWithin b name begin end
later_in None name begin at end le h = tt
later_in (Some c) name begin at end le h = (h.0, h.1, h.2, omega (arith, le, h.3), h.4)

-- the same for a failed read of an object, as an error of the linker
pub read_within : {A B : Type 0} (b : LastFailure) (name : List ℕ) (begin at end : ℕ) (f : ObjectFault) → begin ≤ at → at ≤ end → (IsErrOf {T = A} (Err f) object.FileError → at ≤ end → FailedWithin b name at end) → IsErrOf {T = B} (Err (of_object f)) file_failed → FailedWithin b name begin end
read_within b name begin at end f le fits within h =
    later_in b name begin at end le (within (ap Err (stored f (err_is _ _ h))) fits)

-- ---- The members of a library.

-- the members before rank `k` were added
abbrev pub IsTurn : Option Files → List ℕ → List Entry → List ℕ → ℕ → LinkerView → LinkerView → Type 0
IsTurn known library es entry_indices k old now =
    (before : List Module) → RepresentsModules old before
    → (modules : List Module) × RepresentsModules now modules
    × IfSome known (λ m. with_members old.script m library before (selected_entries es (take k entry_indices)) ≡ Ok modules)

pub first_turn : (known : Option Files) (library : List ℕ) (es : List Entry) (entry_indices : List ℕ) (old : LinkerView) → IsTurn known library es entry_indices 0 old old
first_turn known library es entry_indices old before stands = (before, stands, go known)
  where
    go : (f : Option Files) → IfSome f (λ m. with_members old.script m library before (selected_entries es (take 0 entry_indices)) ≡ Ok before)
    go None = tt
    go (Some m) = refl

module _ (known now : Option Files) (library : List ℕ) (es : List Entry) (entry_indices : List ℕ) (k d : ℕ) (old mid new : LinkerView) where
  -- the selected entries with one further index
  one_more : k < length entry_indices → selected_entries es (take (k + 1) entry_indices) ≡ selected_entries es (take k entry_indices) ++ entry_if_any es (get_or entry_indices k d)
  one_more lt =
      ap (selected_entries es) (take_more entry_indices k d lt) ∙ flat_map-append (entry_if_any es) (take k entry_indices) (get_or entry_indices k d ∷ [])
      ∙ ap (λ xs. selected_entries es (take k entry_indices) ++ xs) (append-nil (entry_if_any es (get_or entry_indices k d)))

  pub next_turn : k < length entry_indices → now ≡ known → mid.script ≡ old.script → IsTurn known library es entry_indices k old mid → AddsMembers now library (entry_if_any es (get_or entry_indices k d)) mid new (Ok tt) → IsTurn known library es entry_indices (k + 1) old new
  next_turn lt same script is fed before stands =
      let p = is before stands in
      let q = fed p.0 p.1 in
      (q.0, q.2, go p.0 q.0 known p.2 (rw same at q.1))
    where
      go : (modules more : List Module) (f : Option Files) → IfSome f (λ m. with_members old.script m library before (selected_entries es (take k entry_indices)) ≡ Ok modules) → IfSome f (λ m. with_members mid.script m library modules (entry_if_any es (get_or entry_indices k d)) ≡ Ok more) → IfSome f (λ m. with_members old.script m library before (selected_entries es (take (k + 1) entry_indices)) ≡ Ok more)
      go modules more None h added = tt
      go modules more (Some m) h added =
          let this = entry_if_any es (get_or entry_indices k d) in
          ap (with_members old.script m library before) (one_more lt)
          ∙ in_turn known library [] old.script m before (selected_entries es (take k entry_indices)) this
          ∙ ap (λ r. r >>= (λ ms. with_members old.script m library ms this)) h
          ∙ subst (λ (s : Script). with_members s m library modules this ≡ Ok more) script added

-- the element at an index within the list
pub stands_at : (xs : List ℕ) (k d : ℕ) → k < length xs → slice_get xs k ≡ Some (get_or xs k d)
stands_at [] k d h = absurd (omega (arith, h))
stands_at (x ∷ xs) zero d h = refl
stands_at (x ∷ xs) (suc k) d h = stands_at xs k d (omega (arith, h))

-- a failure at the member of rank `k` is a failure of the library
pub of_needed : (known : Option Files) (input_index : ℕ) (library : List ℕ) (es : List Entry) (entry_indices : List ℕ) (k d : ℕ) (entry : Entry) (old mid : LinkerView) (b : LastFailure) (e : LinkCommandFault) (input : ℕ) → IfSome known (λ m. as_library input_index (index_in m library) ≡ Ok es) → AreNeededIndices es entry_indices old → k < length entry_indices → Some entry ≡ slice_get es (get_or entry_indices k d) → IsTurn known library es entry_indices k old mid → (before : List Module) → RepresentsModules old before → (modules : List Module) × RepresentsModules mid modules × (NamesFailure (IsMemberFailure b library entry) e → NamesFailure (IsLibraryFailure known old.script before b input library) e)
of_needed known input_index library es entry_indices k d entry old mid b e input read chosen_so lt there is before stands =
    let p = is before stands in (
      p.0,
      p.1,
      λ named failed. inr (record {
        entries = es;
        index = indexed known input_index library es read;
        entry_indices = entry_indices;
        needed = chosen_so before stands;
        rank = k;
        modules = p.0;
        linked = p.2;
        entry_index = get_or entry_indices k d;
        selected = stands_at entry_indices k d lt;
        entry = entry;
        at_index = sym there;
        named = named failed;
      }),
    )

-- ---- The inputs of a command line.

-- one further input after other inputs
inputs_more : (s : Script) (m : Files) (k : ℕ) (before : List Module) (xs : List (List ℕ)) (modules : List Module) (name : List ℕ) (more : List Module) → AreInputs s m k before xs (Ok modules) → IsInput s m (k + length xs) modules name (Ok more) → AreInputs s m k before (xs ++ name ∷ []) (Ok more)
inputs_more s m k before [] modules name more is this =
    let same : modules ≡ before = cc is in
    let here : k + 0 ≡ k = omega arith in
    (Ok more, subst (λ (ms : List Module). IsInput s m k ms name (Ok more)) same (subst (λ (n : ℕ). IsInput s m n modules name (Ok more)) here this), refl)
inputs_more s m k before (x ∷ xs) modules name more is this =
    go is.0 (λ ms next. inputs_more s m (k + 1) ms xs modules name more next (subst (λ (n : ℕ). IsInput s m n modules name (Ok more)) (omega arith) this)) is.1 is.2
  where
    go : (q : Result (List Module) LinkCommandFault) → ((ms : List Module) → AreInputs s m (k + 1) ms xs (Ok modules) → AreInputs s m (k + 1) ms (xs ++ name ∷ []) (Ok more)) → IsInput s m k before x q → AndThen q (λ ms. AreInputs s m (k + 1) ms xs) (Ok modules) → AreInputs s m k before (x ∷ xs ++ name ∷ []) (Ok more)
    go (Ok ms) rest first next = (Ok ms, first, rest ms next)
    go (Err e) rest first next = absurd cc

-- the inputs before index `k` were added
abbrev pub IsInputTurn : Option Files → List (List ℕ) → ℕ → LinkerView → LinkerView → Type 0
IsInputTurn known names k old now =
    (before : List Module) → RepresentsModules old before
    → (modules : List Module) × RepresentsModules now modules
    × IfSome known (λ m. AreInputs old.script m 0 before (take k names) (Ok modules))

taken : (xs : List (List ℕ)) (k : ℕ) → k < length xs → length (take k xs) ≡ k
taken [] k h = absurd (omega (arith, h))
taken (x ∷ xs) zero h = refl
taken (x ∷ xs) (suc k) h = ap suc (taken xs k (omega (arith, h)))

within : (xs : List (List ℕ)) (k : ℕ) (x : List ℕ) → slice_get xs k ≡ Some x → k < length xs
within [] k x h = absurd cc
within (y ∷ ys) zero x h = omega arith
within (y ∷ ys) (suc k) x h = omega (arith, within ys k x h)

item : (xs : List (List ℕ)) (k : ℕ) (x : List ℕ) → slice_get xs k ≡ Some x → get_or xs k x ≡ x
item [] k x h = absurd cc
item (y ∷ ys) zero x h = cc
item (y ∷ ys) (suc k) x h = item ys k x h

with_next : (xs : List (List ℕ)) (k : ℕ) (x : List ℕ) → slice_get xs k ≡ Some x → take (k + 1) xs ≡ take k xs ++ x ∷ []
with_next xs k x h = take_more xs k x (within xs k x h) ∙ ap (λ z. take k xs ++ z ∷ []) (item xs k x h)

module _ (known now : Option Files) (names : List (List ℕ)) (k : ℕ) (name : List ℕ) (old mid : LinkerView) (there : slice_get names k ≡ Some name) (same : now ≡ known) (script : mid.script ≡ old.script) (is : IsInputTurn known names k old mid) where
  pub next_input : (new : LinkerView) → AddsInput now k name mid new (Ok tt) → IsInputTurn known names (k + 1) old new
  next_input new fed before stands =
      let p = is before stands in
      let q = fed p.0 p.1 in
      (q.0, q.2, go p.0 q.0 known p.2 (rw same at q.1))
    where
      go : (modules more : List Module) (f : Option Files) → IfSome f (λ m. AreInputs old.script m 0 before (take k names) (Ok modules)) → IfSome f (λ m. IsInput mid.script m k modules name (Ok more)) → IfSome f (λ m. AreInputs old.script m 0 before (take (k + 1) names) (Ok more))
      go modules more None h added = tt
      go modules more (Some m) h added =
          let here : k ≡ 0 + length (take k names) = omega (arith, taken names k (within names k name there)) in
          subst (λ (ns : List (List ℕ)). AreInputs old.script m 0 before ns (Ok more)) (sym (with_next names k name there))
          (inputs_more old.script m 0 before (take k names) modules name more h
          (subst (λ (n : ℕ). IsInput old.script m n modules name (Ok more)) here (subst (λ (s : Script). IsInput s m k modules name (Ok more)) script added)))

  -- a failure at the input of index `k` is a failure of the list of inputs
  pub of_inputs : (b : LastFailure) (e : LinkCommandFault) (before : List Module) → RepresentsModules old before → (modules : List Module) × RepresentsModules mid modules × (NamesFailure (IsInputFailure now mid.script modules b k name) e → NamesFailure (IsInputListFailure known old.script before b names) e)
  of_inputs b e before stands =
      let p = is before stands in (
        p.0,
        p.1,
        λ named failed. (k, name, there, p.0, p.2, subst (λ (f : Option Files). IsInputFailure f old.script p.0 b k name e) same (subst (λ (s : Script). IsInputFailure now s p.0 b k name e) script (named failed))),
      )

-- ---- An input is a library or an object by its first bytes.

pub kind : (known : Option Files) (name : List ℕ) (b : Bool) → IfSome known (λ m. Refines is_object_system_error (λ (b : Bool). b) (Ok b) (in_file (get m name) (λ bytes. Ok (is_library bytes)))) → IfSome known (λ m. is_library_in m name ≡ b)
kind None name b h = tt
kind (Some m) name b h = go (get m name) h
  where
    go : (f : Option (List ℕ)) → Refines is_object_system_error (λ (b : Bool). b) (Ok b) (in_file f (λ bytes. Ok (is_library bytes))) → option_map_or is_library f false ≡ b
    go None h = absurd cc
    go (Some bytes) h = cc

module _ (known : Option Files) (s : Script) (index : ℕ) (name : List ℕ) where
  -- a failure of an object is a failure of the input
  pub by_object : (modules : List Module) (b : LastFailure) (r : Result (Unit {0}) LinkCommandFault) → IfSome known (λ m. is_library_in m name ≡ false) → IfErr r (NamesFailure (IsObjectFailure b index name)) → IfErr r (NamesFailure (IsInputFailure known s modules b index name))
  by_object modules b (Ok u) kind h = tt
  by_object modules b (Err e) kind h = λ failed. inr (inl (kind, h failed))

-- a failure of a library is a failure of the input, because the files are unchanged
pub by_library : (known now : Option Files) (s : Script) (index : ℕ) (name : List ℕ) → now ≡ known → (modules : List Module) (b : LastFailure) (r : Result (Unit {0}) LinkCommandFault) → IfSome known (λ m. is_library_in m name ≡ true) → IfErr r (NamesFailure (IsLibraryFailure now s modules b index name)) → IfErr r (NamesFailure (IsInputFailure known s modules b index name))
by_library known now s index name same modules b (Ok u) kind h = tt
by_library known now s index name same modules b (Err e) kind h = λ failed. inr (inr (kind, subst (λ (f : Option Files). IsLibraryFailure f s modules b index name e) same (h failed)))
