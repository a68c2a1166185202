-- The module of an object, from the parts of its file.
use Rattle.std.proofs.Common.{◌≡◌, ◌∙◌, ℕ, List, [], ◌∷◌, ◌++◌, length, Bool, true, false, Option, Some, None, if◌then◌else◌, Result, Ok, Err, refl, sym, ap}
use Rattle.std.specs.Prelude.{IfSome}
use Rattle.std.specs.FinMap.{get}
use Rattle.base65.specs.Outcome.{◌>>=◌, RefinesErr, Unless}
use Rattle.base65.specs.Store.{Files}
use Rattle.base65.proofs.Outcome.{refused-then}
use Rattle.object65.specs.declared.fault.ObjectFault.{ObjectFault}
use Rattle.object65.specs.declared.fault.ObjectFault.TheVariants as object
use Rattle.object65.specs.declared.object.Object.{Object}
use Rattle.object65.specs.Record.{is_system_error as is_object_system_error}
use Rattle.object65.specs.Reading.{end_at, head_at, in_file, object_at, records_at}
use Rattle.object65.specs.Scanning.{State, object_of_state, object_from, start}
use Rattle.link65.specs.declared.fault.LinkFault.{LinkFault}
use Rattle.link65.specs.declared.fault.LinkFault.TheVariants as link
use Rattle.link65.specs.Faults.{is_memory, of_object as as_fault}
use Rattle.library65.specs.declared.index.Entry.{Entry as Listing}
use Rattle.link65.specs.Names.{first_duplicate, strong_names}
use Rattle.link65.specs.Links.{check_unique_names, none_duplicate}
use Rattle.link65.specs.Programs.{Module, Program, program_of}
use Rattle.script65.specs.declared.script.Script.{Script}
use Rattle.link65.specs.Representation.{BeginsModule, EndsModule, LinkerView, RepresentsModules, RefinesThen, agreeing_object, agrees_with, as_link, module_without_duplicates, module_of, closed_module}
use Rattle.ld65.specs.Internal.AddedModules.{AddsObject, AddsRecords, RefinesReadThen as LeadsIn, is_input_system_error, records_in}
use Rattle.ld65.specs.Linkage.{Input, added_object, object_in}
use Rattle.ld65.proofs.AddedRecords.{accepted, memory_outside, of_object, unless}

-- ---- What the parts of a file determine of its object.

-- an error of the first step, as an error of the link, is the error of the whole
linked_then : {A B : Type 0} (e : LinkFault) (r : Result A ObjectFault) (f : A → Result B ObjectFault) → RefinesErr is_input_system_error e (as_link r) → RefinesErr is_input_system_error e (as_link (r >>= f))
linked_then {A} {B} e r f h = go (is_input_system_error e) r h
  where
    go : (b : Bool) (r : Result A ObjectFault) → Unless b (as_link r ≡ Err e) → Unless b (as_link (r >>= f) ≡ Err e)
    go true r h = tt
    go false (Ok x) h = cc
    go false (Err g) h = let same : link.Malformed g ≡ e = cc in ap Err same

module _ (i : Input) where
  abbrev head_of : Option (List ℕ) → Result (ℕ × ℕ) ObjectFault
  head_of file = in_file file (head_at i.begin i.end)

  abbrev records_of : ℕ × ℕ → Option (List ℕ) → Result (State × ℕ) ObjectFault
  records_of first file = in_file file (λ bytes. records_at (length bytes) (start first.0) first.1 i.end bytes)

  abbrev end_of : ℕ → Option (List ℕ) → Result (Unit {0}) ObjectFault
  end_of end file = in_file file (end_at end i.end)

  abbrev object_of : Option (List ℕ) → Result Object ObjectFault
  object_of file = in_file file (object_at i.begin i.end)

  head_stops : (file : Option (List ℕ)) (f : ObjectFault) → RefinesErr is_object_system_error f (head_of file) → RefinesErr is_object_system_error f (object_of file)
  unfolding object_at
  head_stops None f h = unless (is_object_system_error f) (λ e. let is : object.FileNotFound ≡ f = cc e in ap Err is) h
  head_stops (Some bytes) f h = refused-then is_object_system_error f (head_at i.begin i.end bytes) _ h

  records_stop : (file : Option (List ℕ)) (first : ℕ × ℕ) (e : LinkFault) → head_of file ≡ Ok first → RefinesErr is_input_system_error e (as_link (records_of first file)) → RefinesErr is_input_system_error e (as_link (object_of file))
  unfolding object_at
  records_stop None first e head h = cc
  records_stop (Some bytes) first e head h = rw head (linked_then e (records_at (length bytes) (start first.0) first.1 i.end bytes) _ h)

  end_stops : (file : Option (List ℕ)) (first : ℕ × ℕ) (t : State) (end : ℕ) (f : ObjectFault) → head_of file ≡ Ok first → records_of first file ≡ Ok (t, end) → RefinesErr is_object_system_error f (end_of end file) → RefinesErr is_object_system_error f (object_of file)
  unfolding object_at
  end_stops None first t end f head records h = cc
  end_stops (Some bytes) first t end f head records h = rw (head, records) (refused-then is_object_system_error f (end_at end i.end bytes) (λ u. object_of_state t) h)

  object_is : (file : Option (List ℕ)) (first : ℕ × ℕ) (t : State) (end : ℕ) → head_of file ≡ Ok first → records_of first file ≡ Ok (t, end) → end_of end file ≡ Ok tt → object_of file ≡ object_of_state t
  unfolding object_at
  object_is None first t end head records h = cc
  object_is (Some bytes) first t end head records h = rw (head, records, h) refl

-- ---- The module after other modules.

-- if an object is rejected, so is its module
as_module : (s : Script) (before : List Module) (m : Files) (i : Input) (e : LinkFault) → RefinesErr is_input_system_error e (as_link (object_in m i)) → RefinesErr is_input_system_error e (added_object s before m i)
as_module s before m i e h =
    refused-then is_input_system_error e (as_link (object_in m i) >>= agreeing_object i.entry) (module_without_duplicates s before i.name)
    (refused-then is_input_system_error e (as_link (object_in m i)) (agreeing_object i.entry) h)

module _ (known : Option Files) (i : Input) (old : LinkerView) where
  -- the head of the object is `first`
  abbrev pub HasHead : ℕ × ℕ → Type 0
  HasHead first = IfSome known (λ m. head_of i (get m i.file) ≡ Ok first)

  pub no_head : (new : LinkerView) (f : ObjectFault) → IfSome known (λ m. RefinesErr is_object_system_error f (head_of i (get m i.file))) → AddsObject known i old new (Err (as_fault f))
  no_head new f h modules stands = go known h
    where
      go : (k : Option Files) → IfSome k (λ m. RefinesErr is_object_system_error f (head_of i (get m i.file))) → IfSome k (λ m. RefinesErr is_input_system_error (as_fault f) (added_object old.script modules m i))
      go None h = tt
      go (Some m) h = as_module old.script modules m i (as_fault f) (of_object f (object_in m i) (head_stops i (get m i.file) f h))

  pub no_records : (now : Option Files) (first : ℕ × ℕ) (mid new : LinkerView) (e : LinkFault) → now ≡ known → HasHead first → BeginsModule i.name first.0 i.entry old mid (Ok tt) → AddsRecords now i first mid new (Err e) → AddsObject known i old new (Err e)
  no_records now first mid new e same head begun fed modules stands = go known head (rw same at fed modules i.name i.entry (begun modules stands))
    where
      go : (k : Option Files) → IfSome k (λ m. head_of i (get m i.file) ≡ Ok first) → IfSome k (λ m. RefinesErr is_input_system_error e (as_link (records_in m i first))) → IfSome k (λ m. RefinesErr is_input_system_error e (added_object old.script modules m i))
      go None head h = tt
      go (Some m) head h = as_module old.script modules m i e (records_stop i (get m i.file) first e head h)

  pub more_after : (now later : Option Files) (first : ℕ × ℕ) (end : ℕ) (mid new : LinkerView) (f : ObjectFault) → now ≡ known → later ≡ known → HasHead first → BeginsModule i.name first.0 i.entry old mid (Ok tt) → AddsRecords now i first mid new (Ok end) → IfSome later (λ m. RefinesErr is_object_system_error f (end_of i end (get m i.file))) → AddsObject known i old new (Err (as_fault f))
  more_after now later first end mid new f same same_later head begun fed following modules stands =
      let x = fed modules i.name i.entry (begun modules stands) in
      go known x.0.0 x.0.1 x.2.0 head (rw same at x.1) (rw same_later at following)
    where
      go : (k : Option Files) (t : State) (n : ℕ) → n ≡ end → IfSome k (λ m. head_of i (get m i.file) ≡ Ok first) → IfSome k (λ m. as_link (records_in m i first) ≡ Ok (t, n)) → IfSome k (λ m. RefinesErr is_object_system_error f (end_of i end (get m i.file))) → IfSome k (λ m. RefinesErr is_input_system_error (as_fault f) (added_object old.script modules m i))
      go None t n at head records h = tt
      go (Some m) t n at head records h =
          as_module old.script modules m i (as_fault f)
          (of_object f (object_in m i) (end_stops i (get m i.file) first t end f head (accepted (records_in m i first) (t, end) (records ∙ ap (λ j. Ok (t, j)) at)) h))

  -- the case of a complete module
  pub whole_module : (now later : Option Files) (first : ℕ × ℕ) (end : ℕ) (mid fed new : LinkerView) (r : Result (Unit {0}) LinkFault) → now ≡ known → later ≡ known → HasHead first → BeginsModule i.name first.0 i.entry old mid (Ok tt) → AddsRecords now i first mid fed (Ok end) → IfSome later (λ m. end_of i end (get m i.file) ≡ Ok tt) → fed.script ≡ old.script → EndsModule fed new r → AddsObject known i old new r
  whole_module now later first end mid fed new r same same_later head begun feeds following script ends modules stands =
      let x = feeds modules i.name i.entry (begun modules stands) in
      closes x.0.0 r (ends modules i.name i.entry x.0.0 x.2.1) (is_whole x.0.0 x.0.1 x.2.0 known head (rw same at x.1) (rw same_later at following))
    where
      is_whole : (t : State) (n : ℕ) → n ≡ end → (k : Option Files) → IfSome k (λ m. head_of i (get m i.file) ≡ Ok first) → IfSome k (λ m. as_link (records_in m i first) ≡ Ok (t, n)) → IfSome k (λ m. end_of i end (get m i.file) ≡ Ok tt) → IfSome k (λ m. added_object old.script modules m i ≡ closed_module fed.script modules i.name i.entry t)
      is_whole t n at None head records h = tt
      is_whole t n at (Some m) head records h =
          let is : object_in m i ≡ object_of_state t = object_is i (get m i.file) first t end head (accepted (records_in m i first) (t, end) (records ∙ ap (λ j. Ok (t, j)) at)) h in
          ap (λ o. as_link o >>= agreeing_object i.entry >>= module_without_duplicates old.script modules i.name) is
          ∙ ap (λ s. closed_module s modules i.name i.entry t) (sym script)

      closes : (t : State) (r : Result (Unit {0}) LinkFault) → RefinesThen (λ o. RepresentsModules new (modules ++ module_of i.name o ∷ [])) r (closed_module fed.script modules i.name i.entry t) → IfSome known (λ m. added_object old.script modules m i ≡ closed_module fed.script modules i.name i.entry t) → LeadsIn is_input_system_error (λ u o. RepresentsModules new (modules ++ module_of i.name o ∷ [])) known (λ m. added_object old.script modules m i) r
      closes t (Ok u) h is = (h.0, given known is, h.2)
        where
          given : (k : Option Files) → IfSome k (λ m. added_object old.script modules m i ≡ closed_module fed.script modules i.name i.entry t) → IfSome k (λ m. added_object old.script modules m i ≡ Ok h.0)
          given None e = tt
          given (Some m) e = e ∙ h.1
      closes t (Err e) h is = refused known is
        where
          refused : (k : Option Files) → IfSome k (λ m. added_object old.script modules m i ≡ closed_module fed.script modules i.name i.entry t) → IfSome k (λ m. RefinesErr is_input_system_error e (added_object old.script modules m i))
          refused None same = tt
          refused (Some m) same = rw same (memory_outside e (closed_module fed.script modules i.name i.entry t) h)

-- ---- The end of a module doesn't fail the store.

abbrev pub file_failed : LinkFault
file_failed = link.Malformed object.FileError

finished_free : (t : State) → as_link (object_of_state t) ≡ Err file_failed → ⊥
finished_free t h = go t.failed t.ended h
  where
    go : (a b : Bool) → as_link (if a then Err object.FailedBefore else if b then Ok (object_from t) else Err object.CutShort) ≡ Err file_failed → ⊥
    go true b h = cc
    go false true h = cc
    go false false h = cc

names_free : (s : Script) (p : Program) → check_unique_names s p ≡ Err file_failed → ⊥
names_free s p h = go (first_duplicate [] (strong_names s p)) h
  where
    go : (o : Option (List ℕ)) → none_duplicate o ≡ Err file_failed → ⊥
    go None h = cc
    go (Some n) h = cc

free_then : (r : Result Object LinkFault) (f : Object → Result Object LinkFault) → (r ≡ Err file_failed → ⊥) → ((o : Object) → f o ≡ Err file_failed → ⊥) → (r >>= f) ≡ Err file_failed → ⊥
free_then (Ok o) f free next h = next o h
free_then (Err e) f free next h = free (let same : e ≡ file_failed = cc in ap Err same)

agreed_free : (entry : Option Listing) (o : Object) → agreeing_object entry o ≡ Err file_failed → ⊥
agreed_free entry o h = go (agrees_with entry o) h
  where
    go : (b : Bool) → (if b then Ok o else Err link.IndexDisagrees) ≡ Err file_failed → ⊥
    go true h = cc
    go false h = cc

joined_free : (s : Script) (modules : List Module) (name : List ℕ) (o : Object) → module_without_duplicates s modules name o ≡ Err file_failed → ⊥
joined_free s modules name o h =
    let p = program_of (modules ++ module_of name o ∷ []) in
    go (check_unique_names s p) (names_free s p) h
  where
    go : (r : Result (Unit {0}) LinkFault) → (r ≡ Err file_failed → ⊥) → (r >>= (λ u. Ok o)) ≡ Err file_failed → ⊥
    go (Ok u) free h = cc
    go (Err e) free h = free (let same : e ≡ file_failed = cc in ap Err same)

pub whole_free : (s : Script) (modules : List Module) (name : List ℕ) (entry : Option Listing) (t : State) → closed_module s modules name entry t ≡ Err file_failed → ⊥
whole_free s modules name entry t h =
    free_then (as_link (object_of_state t) >>= agreeing_object entry) (module_without_duplicates s modules name)
    (free_then (as_link (object_of_state t)) (agreeing_object entry) (finished_free t) (agreed_free entry))
    (joined_free s modules name) h

pub end_free : (first : ℕ × ℕ) (end_at : ℕ) (now : Option Files) (i : Input) (old mid fed new : LinkerView) (r : Result (Unit {0}) LinkFault) → BeginsModule i.name first.0 i.entry old mid (Ok tt) → AddsRecords now i first mid fed (Ok end_at) → EndsModule fed new r → (modules : List Module) → RepresentsModules old modules → r ≡ Err file_failed → ⊥
end_free first end_at now i old mid fed new r begun feeds ends modules stands is =
    let x = feeds modules i.name i.entry (begun modules stands) in
    let refused : RefinesErr is_memory file_failed (closed_module fed.script modules i.name i.entry x.0.0) = rw is at ends modules i.name i.entry x.0.0 x.2.1 in
    whole_free fed.script modules i.name i.entry x.0.0 refused
