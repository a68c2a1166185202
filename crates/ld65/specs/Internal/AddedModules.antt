-- Feeding a linker: the records of an object, an object, a library's members, and the inputs of a command
-- line.
use Rattle.std.specs.Prelude.{◌≡◌, ℕ, List, [], ◌∷◌, ◌++◌, length, option_map, Option, Result, Ok, Err, IfErr, IfSome, OnOk, Bool, true, false}
use Rattle.std.specs.FinMap.{get}
use Rattle.base65.specs.Outcome.{Unless}
use Rattle.base65.specs.Store.{Files, PropagatesIoErrors, LastFailure}
use Rattle.object65.specs.declared.fault.ObjectFault.{ObjectFault}
use Rattle.object65.specs.Record.{is_system_error as is_object_system_error}
use Rattle.object65.specs.Reading.{in_file, records_at}
use Rattle.object65.specs.Scanning.{State, start}
use Rattle.library65.specs.declared.index.Entry.{Entry}
use Rattle.library65.specs.Selection.{IsSelection}
use Rattle.link65.specs.declared.fault.LinkFault.{LinkFault}
use Rattle.link65.specs.declared.fault.LinkFault.TheVariants as link
use Rattle.link65.specs.Names.{strong_names, open_names}
use Rattle.link65.specs.Programs.{Module, program_of}
use Rattle.link65.specs.Representation.{LinkerView, RepresentsModules, RepresentsWithOpenModule, ConfigFrame, as_link, is_open, module_of}
use Rattle.ld65.specs.Linkage.{AreInputs, Input, IsInput, IsLibraryInput, added_object, with_file, with_members}
use Rattle.ld65.specs.Faults.{is_failure, is_system_error}
use Rattle.ld65.specs.declared.linking.ObjectInput.{ObjectInput}
use Rattle.ld65.specs.declared.fault.LinkCommandFault.{LinkCommandFault}

-- the faults that the bytes don't decide
abbrev pub is_input_system_error : LinkFault → Bool
is_input_system_error link.OutOfMemory = true
is_input_system_error (link.Malformed f) = is_object_system_error f
is_input_system_error _ = false

-- A call leads to a next state by a value that the files determine, or has their error, unless that is a system error.
-- If the files aren't known, it still leads to a next state.
abbrev pub RefinesReadRelThen : {E A R : Type 0} → (E → Bool) → (R → A → Type 0) → Option Files → (Files → Result A E → Type 0) → Result R E → Type 0
RefinesReadRelThen {E} {A} is_out Next known Reads (Ok r) = (x : A) × IfSome known (λ m. Reads m (Ok x)) × Next r x
RefinesReadRelThen is_out Next known Reads (Err e) = IfSome known (λ m. Unless (is_out e) (Reads m (Err e)))

-- the same where reading the files gives one result
abbrev pub RefinesReadThen : {E A R : Type 0} → (E → Bool) → (R → A → Type 0) → Option Files → (Files → Result A E) → Result R E → Type 0
RefinesReadThen is_out Next known read r = RefinesReadRelThen is_out Next known (λ m q. read m ≡ q) r

-- an object as the code names it
abbrev pub input_of : ObjectInput → Input
input_of i = record { file = i.file.now; begin = i.begin; end = i.end; name = i.name.now; entry = option_map (λ e. e.now) i.entry }

-- the records of an object up to the END, after its head, which has the version and the offset of the first
-- record
abbrev pub records_in : Files → Input → ℕ × ℕ → Result (State × ℕ) ObjectFault
records_in m i head = in_file (get m i.file) (λ bytes. records_at (length bytes) (start head.0) head.1 i.end bytes)

-- the records of the open module were fed, up to its END
abbrev pub AddsRecords : Option Files → Input → ℕ × ℕ → LinkerView → LinkerView → Result ℕ LinkFault → Type 0
AddsRecords known i head old new r =
    (modules : List Module) (called : List ℕ) (entry : Option Entry) → RepresentsWithOpenModule old modules called entry (start head.0)
    → RefinesReadThen is_input_system_error (λ end x. (x.1 ≡ end) × RepresentsWithOpenModule new modules called entry x.0) known (λ m. as_link (records_in m i head)) r

-- an object was fed
abbrev pub AddsObject : Option Files → Input → LinkerView → LinkerView → Result (Unit {0}) LinkFault → Type 0
AddsObject known i old new r =
    (modules : List Module) → RepresentsModules old modules
    → RefinesReadThen is_input_system_error (λ u o. RepresentsModules new (modules ++ module_of i.name o ∷ [])) known (λ m. added_object old.script modules m i) r

-- modules were fed: the files give them and those before
abbrev pub AddsModules : Option Files → (Files → List Module → Result (List Module) LinkCommandFault → Type 0) → LinkerView → LinkerView → Result (Unit {0}) LinkCommandFault → Type 0
AddsModules known Reads old new r = (before : List Module) → RepresentsModules old before → RefinesReadRelThen is_system_error (λ u modules. RepresentsModules new modules) known (λ m. Reads m before) r

-- the object that takes a whole file was fed, the input with this index among the inputs
abbrev pub AddsFile : Option Files → ℕ → List ℕ → LinkerView → LinkerView → Result (Unit {0}) LinkCommandFault → Type 0
AddsFile known k name old new r = AddsModules known (λ m before q. with_file old.script m k before name ≡ q) old new r

-- members of a library were fed, in order
abbrev pub AddsMembers : Option Files → List ℕ → List Entry → LinkerView → LinkerView → Result (Unit {0}) LinkCommandFault → Type 0
AddsMembers known library es old new r = AddsModules known (λ m before q. with_members old.script m library before es ≡ q) old new r

-- the indices of the members of an index that are needed
abbrev pub AreNeededIndices : List Entry → List ℕ → LinkerView → Type 0
AreNeededIndices es entry_indices f =
    (before : List Module) → RepresentsModules f before → IsSelection es (open_names f.script (program_of before)) (strong_names f.script (program_of before)) entry_indices

-- the needed members of a library were fed
abbrev pub AddsLibrary : Option Files → ℕ → List ℕ → LinkerView → LinkerView → Result (Unit {0}) LinkCommandFault → Type 0
AddsLibrary known k library old new r = AddsModules known (λ m before. IsLibraryInput old.script m k before library) old new r

-- an input was fed
abbrev pub AddsInput : Option Files → ℕ → List ℕ → LinkerView → LinkerView → Result (Unit {0}) LinkCommandFault → Type 0
AddsInput known k name old new r = AddsModules known (λ m before. IsInput old.script m k before name) old new r

-- inputs were fed, in order
abbrev pub AddsInputs : Option Files → List (List ℕ) → LinkerView → LinkerView → Result (Unit {0}) LinkCommandFault → Type 0
AddsInputs known names old new r = AddsModules known (λ m before. AreInputs old.script m 0 before names) old new r

-- ---- What a call leaves of a store, and of a linker that it feeds.

-- of a store its files as before, and its count of failures, each passed on; and what a refusal names
pub record NamedStoreFrame {X T : Type 0} (files_of : X → Option Files) (failures_of : X → ℕ) (last_failure_of : X → LastFailure) (Names : LastFailure → LinkCommandFault → Type 0) (old new : X) (result : Result T LinkCommandFault) : Type 0 where
  pub files : files_of new ≡ files_of old
  pub count : PropagatesIoErrors is_failure (failures_of old) (failures_of new) result
  pub named : IfErr result (Names (last_failure_of new))

-- the same where the linker stands for modules, by which a refusal names what it does; of a linker its script and output, and no
-- open module where it answered
pub record AddModulesFrame {X : Type 0} (files_of : X → Option Files) (failures_of : X → ℕ) (last_failure_of : X → LastFailure) (NamesAfter : List Module → LastFailure → LinkCommandFault → Type 0) (old new : X) (before after : LinkerView) (result : Result (Unit {0}) LinkCommandFault) : Type 0 where
  pub opened : OnOk result (is_open after ≡ false)
  pub config : ConfigFrame before after
  pub files : files_of new ≡ files_of old
  pub count : (modules : List Module) → RepresentsModules before modules → PropagatesIoErrors is_failure (failures_of old) (failures_of new) result
  pub named : (modules : List Module) → RepresentsModules before modules → IfErr result (NamesAfter modules (last_failure_of new))
