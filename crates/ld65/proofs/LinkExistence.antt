-- For every script and all files a command line has a result, and it isn't a system error.
use Rattle.std.proofs.Common.{◌≡◌, ℕ, ◌+◌, Bool, true, false, List, [], ◌∷◌, ◌++◌, ◌||◌, Option, Some, None, Result, Ok, Err, refl, if◌then◌else◌}
use Rattle.std.specs.FinMap.{get}
use Rattle.base65.proofs.SystemErrors.{Has, Own, first_own, good, next}
use Rattle.base65.specs.Outcome.{AndThen, ◌>>=◌}
use Rattle.base65.specs.SystemErrors.{IsNoSystemError}
use Rattle.base65.specs.Store.{Files}
use Rattle.object65.specs.declared.fault.ObjectFault.{ObjectFault}
use Rattle.object65.specs.declared.fault.ObjectFault.TheVariants as object
use Rattle.object65.specs.declared.object.Object.{Object}
use Rattle.object65.specs.Reading.{in_file, object_at}
use Rattle.object65.specs.Record.{is_system_error as is_object_system_error}
use Rattle.object65.proofs.ObjectExistence.{some_object}
use Rattle.library65.specs.declared.fault.LibraryFault.{LibraryFault}
use Rattle.library65.specs.declared.fault.LibraryFault.TheVariants as library
use Rattle.library65.specs.declared.index.Entry.{Entry}
use Rattle.library65.specs.Fault.{is_system_error as is_library_system_error}
use Rattle.library65.specs.Reading.{index_at, in_file as in_library}
use Rattle.library65.proofs.LibraryExistence.{some_index}
use Rattle.library65.proofs.SelectionExistence.{some_selection}
use Rattle.script65.specs.declared.script.Script.{Script}
use Rattle.script65.specs.declared.fault.ScriptFault.{ScriptFault}
use Rattle.script65.specs.Faults.{is_memory_fault, is_script_system_error}
use Rattle.script65.specs.Scripts.{IsScript}
use Rattle.script65.proofs.ScriptExistence.{some_reading}
use Rattle.link65.specs.declared.fault.LinkFault.{LinkFault}
use Rattle.link65.specs.declared.fault.LinkFault.TheVariants as link
use Rattle.link65.specs.Faults.{is_memory as is_link_memory}
use Rattle.link65.specs.Laws.{is_system_error as is_placed_system_error}
use Rattle.link65.specs.Links.{check_unique_names, none_duplicate}
use Rattle.link65.specs.Names.{strong_names, open_names}
use Rattle.link65.specs.Programs.{Module, program_of}
use Rattle.link65.specs.Representation.{agreeing_object, agrees_with, as_link, module_without_duplicates as without_duplicates, module_of}
use Rattle.link65.proofs.OutcomeExistence.{some_outcome}
use Rattle.cli65.specs.Line.{LinkView}
use Rattle.ld65.specs.Laws.{CommandLinkExists, ScriptedLinkExists}
use Rattle.ld65.specs.Linkage.{AreInputs, AreNeeded, IfLibraryElse, Input, IsInput, IsInputLink, IsLibraryInput, IsScriptedLink, IsLinkResult, added_object, as_library, as_command_fault, as_script, modules_after, selected_entries, file_input, index_in, is_library_in, member_input, member_module, object_in, output_of, text_of, with_file, with_member, with_members}
use Rattle.ld65.specs.Faults.{is_system_error, input_fault, member_fault}
use Rattle.ld65.specs.declared.fault.LinkCommandFault.{LinkCommandFault}
use Rattle.ld65.specs.declared.fault.LinkCommandFault.TheVariants as error

-- ---- Results that aren't system errors.

-- the system errors of a link, before the error is attributed to an input or a member
abbrev is_link_outside : LinkFault → Bool
is_link_outside (link.Malformed f) = is_object_system_error f
is_link_outside e = is_link_memory e

-- ---- One further object.

object_own : (file : Option (List ℕ)) (begin end : ℕ) → IsNoSystemError is_object_system_error (in_file file (object_at begin end))
object_own None begin end = refl
object_own (Some bytes) begin end = some_object bytes begin end

as_link_own : {A : Type 0} (r : Result A ObjectFault) → IsNoSystemError is_object_system_error r → Own is_link_outside (as_link r)
as_link_own (Ok x) h = record { own = tt }
as_link_own (Err e) h = record { own = h }

agreed_own : (entry : Option Entry) (o : Object) → Own is_link_outside (agreeing_object entry o)
agreed_own entry o = by (agrees_with entry o)
  where
    by : (b : Bool) → Own is_link_outside (if b then Ok o else Err link.IndexDisagrees)
    by true = record { own = tt }
    by false = record { own = refl }

once_own : (o : Option (List ℕ)) → Own is_link_outside (none_duplicate o)
once_own None = record { own = tt }
once_own (Some name) = record { own = refl }

joined_own : (s : Script) (before : List Module) (name : List ℕ) (o : Object) → Own is_link_outside (without_duplicates s before name o)
joined_own s before name o = next (check_unique_names s (program_of (before ++ module_of name o ∷ []))) _ (once_own _) (λ u. record { own = tt })

added_own : (s : Script) (before : List Module) (m : Files) (i : Input) → Own is_link_outside (added_object s before m i)
added_own s before m i =
    next (as_link (object_in m i) >>= agreeing_object i.entry) _
    (next (as_link (object_in m i)) _ (as_link_own (object_in m i) (object_own (get m i.file) i.begin i.end)) (agreed_own i.entry))
    (joined_own s before i.name)

object_at_own : (k : ℕ) (f : ObjectFault) → is_object_system_error f ≡ false → is_system_error (error.Object k f) ≡ false
object_at_own k object.OutOfMemory h = h
object_at_own k object.FileError h = h
object_at_own k _ h = refl

member_own : (name : List ℕ) (f : ObjectFault) → is_object_system_error f ≡ false → is_system_error (error.Member name f) ≡ false
member_own name object.OutOfMemory h = h
member_own name object.FileError h = h
member_own name _ h = refl

at_own : (k : ℕ) (e : LinkFault) → is_link_outside e ≡ false → is_system_error (input_fault k e) ≡ false
at_own k (link.Malformed f) h = object_at_own k f h
at_own k link.OutOfMemory h = h
at_own k _ h = refl

in_own : (name : List ℕ) (e : LinkFault) → is_link_outside e ≡ false → is_system_error (member_fault name e) ≡ false
in_own name (link.Malformed f) h = member_own name f h
in_own name link.OutOfMemory h = h
in_own name _ h = refl

after_own : (named : LinkFault → LinkCommandFault) → ((e : LinkFault) → is_link_outside e ≡ false → is_system_error (named e) ≡ false) → (before : List Module) (name : List ℕ) (r : Result Object LinkFault) → Own is_link_outside r → Own is_system_error (modules_after named before name r)
after_own named own before name (Ok o) h = good _
after_own named own before name (Err e) h = record { own = own e h.own }

file_own : (s : Script) (m : Files) (k : ℕ) (before : List Module) (name : List ℕ) → Own is_system_error (with_file s m k before name)
file_own s m k before name = after_own (input_fault k) (at_own k) before name (added_object s before m (file_input name)) (added_own s before m (file_input name))

members_own : (s : Script) (m : Files) (library : List ℕ) (before : List Module) (es : List Entry) → Own is_system_error (with_members s m library before es)
members_own s m library before [] = good _
members_own s m library before (e ∷ es) =
    next (with_member s m library before e) _
    (after_own (member_fault (member_module library e.name)) (in_own (member_module library e.name)) before (member_module library e.name) (added_object s before m (member_input library e)) (added_own s before m (member_input library e)))
    (λ ms. members_own s m library ms es)

-- ---- The modules of inputs.

index_own : (file : Option (List ℕ)) → IsNoSystemError is_library_system_error (in_library file index_at)
index_own None = refl
index_own (Some bytes) = some_index bytes

library_fault : (k : ℕ) (f : LibraryFault) → is_library_system_error f ≡ false → is_system_error (error.Library k f) ≡ false
library_fault k library.OutOfMemory h = h
library_fault k library.FileError h = h
library_fault k _ h = refl

library_own : {A : Type 0} (k : ℕ) (r : Result A LibraryFault) → IsNoSystemError is_library_system_error r → Own is_system_error (as_library k r)
library_own k (Ok x) h = good x
library_own k (Err e) h = record { own = library_fault k e h }

some_needed : (s : Script) (m : Files) (library : List ℕ) (before : List Module) (es : List Entry) → Has is_system_error (AreNeeded s m library before es)
some_needed s m library before es =
    let entry_indices = some_selection es (open_names s (program_of before)) (strong_names s (program_of before)) in
    (with_members s m library before (selected_entries es entry_indices.0), (entry_indices.0, entry_indices.1, refl), members_own s m library before (selected_entries es entry_indices.0))

some_library : (s : Script) (m : Files) (k : ℕ) (before : List Module) (library : List ℕ) → Has is_system_error (IsLibraryInput s m k before library)
some_library s m k before library =
    first_own is_system_error (as_library k (index_in m library)) (AreNeeded s m library before) (library_own k (index_in m library) (index_own (get m library))) (some_needed s m library before)

some_input : (s : Script) (m : Files) (k : ℕ) (before : List Module) (name : List ℕ) → Has is_system_error (IsInput s m k before name)
some_input s m k before name = by (is_library_in m name)
  where
    by : (b : Bool) → Has is_system_error (λ r. IfLibraryElse b (IsLibraryInput s m k before name r) (r ≡ with_file s m k before name))
    by true = some_library s m k before name
    by false = (with_file s m k before name, refl, file_own s m k before name)

some_inputs : (s : Script) (m : Files) (k : ℕ) (before : List Module) (names : List (List ℕ)) → Has is_system_error (AreInputs s m k before names)
some_inputs s m k before [] = (Ok before, refl, good before)
some_inputs s m k before (name ∷ names) =
    let one = some_input s m k before name in
    let more = first_own is_system_error one.0 (λ ms. AreInputs s m (k + 1) ms names) one.2 (λ ms. some_inputs s m (k + 1) ms names) in
    (more.0, (one.0, one.1, more.1), more.2)

-- ---- The link.

link_fault : (e : LinkFault) → is_placed_system_error e ≡ false → is_system_error (error.Link e) ≡ false
link_fault (link.Place f) h = refl
link_fault link.OutOfMemory h = h
link_fault _ h = refl

link_own : {A : Type 0} (r : Result A LinkFault) → IsNoSystemError is_placed_system_error r → Own is_system_error (as_command_fault r)
link_own (Ok x) h = good x
link_own (Err e) h = record { own = link_fault e h }

some_linked : (l : LinkView) (s : Script) (ms : List Module) → Has is_system_error (IsLinkResult l s ms)
some_linked l s ms =
    let q = some_outcome (output_of l) s ms in
    (as_command_fault q.0, (q.0, q.1, refl), link_own q.0 q.2)

some_input_link : (m : Files) (l : LinkView) (s : Script) → Has is_system_error (IsInputLink m l s)
some_input_link m l s =
    let q = some_inputs s m 0 [] l.inputs in
    let r = first_own is_system_error q.0 (IsLinkResult l s) q.2 (some_linked l s) in
    (r.0, (q.0, q.1, r.1), r.2)

names_own : (o : Option (List ℕ)) → IsNoSystemError is_placed_system_error (none_duplicate o)
names_own None = tt
names_own (Some name) = refl

by_script : (m : Files) (l : LinkView) (s : Script) → Has is_system_error (IsScriptedLink m l s)
by_script m l s = first_own is_system_error (as_command_fault (check_unique_names s (program_of []))) (λ u. IsInputLink m l s) (link_own (check_unique_names s (program_of [])) (names_own _)) (λ u. some_input_link m l s)

pub some_scripted_link : ScriptedLinkExists
some_scripted_link m l s = let r = by_script m l s in (r.0, r.1, (r.2).own)

-- ---- The script.

text_own : (file : Option (List ℕ)) → Own is_system_error (text_of file)
text_own None = record { own = refl }
text_own (Some bytes) = good bytes

script_fault : (b : Bool) → b ≡ false → (b || false) ≡ false
script_fault false h = refl
script_fault true h = h

script_own : (r : Result Script ScriptFault) → IsNoSystemError is_script_system_error r → Own is_system_error (as_script r)
script_own (Ok s) h = good s
script_own (Err e) h = record { own = script_fault (is_memory_fault e.fault) h }

by_text : (m : Files) (l : LinkView) (text : List ℕ) → Has is_system_error (λ u. (q : Result Script ScriptFault) × IsScript text q × AndThen (as_script q) (IsScriptedLink m l) u)
by_text m l text =
    let q = some_reading text in
    let r = first_own is_system_error (as_script q.0) (IsScriptedLink m l) (script_own q.0 q.2) (by_script m l) in
    (r.0, (q.0, q.1, r.1), r.2)

pub some_link : CommandLinkExists
some_link m l =
    let r = first_own is_system_error (text_of (get m l.script)) (λ text u. (q : Result Script ScriptFault) × IsScript text q × AndThen (as_script q) (IsScriptedLink m l) u) (text_own (get m l.script)) (by_text m l) in
    (r.0, r.1, (r.2).own)
