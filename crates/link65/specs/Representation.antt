-- The model of a linker, and the effect of its calls.
use Rattle.std.specs.Prelude.{ℕ, List, [], ◌∷◌, ◌++◌, map, Result, Ok, Err, if◌then◌else◌, ◌≡◌, ◌⊎◌, length, Option, Some, None, is_some, Bool, true, false, OnOk, ◌==◌}
use Rattle.base65.specs.Outcome.{◌>>=◌, RefinesProp, Refines, RefinesErr}
use Rattle.link65.specs.declared.fault.LinkFault.{LinkFault}
use Rattle.link65.specs.declared.fault.LinkFault.TheVariants.{DuplicateExport}
use Rattle.link65.specs.declared.name_checks.DefinedNames.{DefinedNames}
use Rattle.link65.specs.Names.{first_duplicate, is_among, strong_names}
use Rattle.link65.specs.Links.{none_duplicate, LinkOf, check_unique_names}
use Rattle.std.specs.Option.{option_map}
use Rattle.object65.specs.declared.fault.ObjectFault.{ObjectFault}
use Rattle.object65.specs.declared.object.Object.{Object}
use Rattle.object65.specs.Record.{RawRecord}
use Rattle.object65.specs.Scanning.{Outline, outline_of, IsReached, State, state_after_record, object_of_state, start}
use Rattle.library65.specs.declared.index.Entry.{Entry as IndexEntry}
use Rattle.library65.specs.Libraries.{has_index_names, contents_from}
use Rattle.script65.specs.declared.script.Script.{Script}
use Rattle.link65.specs.declared.fault.LinkFault.TheVariants as fault
use Rattle.link65.specs.Faults.{is_memory}
use Rattle.link65.specs.Growing.{PartialProgram, without_open_module, partial_program_of}
use Rattle.link65.specs.Programs.{Module, Program, program_of}
use Rattle.link65.specs.declared.linking.Linked.{Linked}
use Rattle.link65.specs.declared.module_reader.IndexedNames.{IndexedNames}

-- ---- The representation of names, none of which may be defined twice.

-- the names that are defined so far, in their order
abbrev pub names_in : DefinedNames → List (List ℕ)
names_in g = map (λ n. n.items) g.names.keys

-- names added to others, or the error of the first that equals an earlier one
abbrev pub names_or_duplicate : List (List ℕ) → List (List ℕ) → Result (List (List ℕ)) LinkFault
names_or_duplicate before names = none_duplicate (first_duplicate before names) >>= (λ u. Ok (before ++ names))

-- a name added to others, or rejected if it is among them
abbrev pub with_new_name : List (List ℕ) → List ℕ → Result (List (List ℕ)) LinkFault
with_new_name before name = if is_among before name then Err (DuplicateExport name) else Ok (before ++ name ∷ [])

abbrev pub with_new_names : List (List ℕ) → List (List ℕ) → Result (List (List ℕ)) LinkFault
with_new_names before [] = Ok before
with_new_names before (name ∷ names) = with_new_name before name >>= (λ more. with_new_names more names)

-- ---- The state that a linker represents: the modules so far, and the records of the open one.

-- an open module: its name, and the state of reading its records
pub record OpenModuleView : Type 0 where
  pub name : List ℕ
  pub scan : Outline
  -- the index of its first export among all exports
  pub first_export : ℕ
  -- the names that a library's index lists for it, if it is a member of one
  pub listed : Option IndexedNames

-- The model of a linker.
pub record LinkerView : Type 0 where
  pub script : Script
  -- the name of the output file
  pub output : List ℕ
  pub partial : PartialProgram
  -- the names that the script and the modules before the open one define
  pub provided : List (List ℕ)
  pub opened : Option OpenModuleView
  -- the number of values that were fed
  pub pending : ℕ
  pub failed : Bool

abbrev pub is_open : LinkerView → Bool
is_open f = is_some f.opened

-- ---- The modules and records that a linker represents.

-- the names that an entry has
abbrev pub indexed_names : IndexEntry → IndexedNames
indexed_names e = record { exports = e.exports; imports = e.imports }

-- the open module after a program, of which this part has been read
abbrev pub open_module_view : Program → List ℕ → Option IndexEntry → State → OpenModuleView
open_module_view p name entry s = record { name = name; scan = outline_of s; first_export = length p.exports; listed = option_map indexed_names entry }

-- these modules were fed, and none is open
pub record RepresentsModules (f : LinkerView) (modules : List Module) : Type 0 where
  pub partial : f.partial ≡ without_open_module (program_of modules)
  pub provided : names_or_duplicate [] (strong_names f.script (program_of modules)) ≡ Ok f.provided
  pub opened : f.opened ≡ None
  pub failed : f.failed ≡ false

-- these modules were fed, and one of this name is open, of which this part has been read; if it is a library's
-- member, it has this index entry
pub record RepresentsWithOpenModule (f : LinkerView) (modules : List Module) (name : List ℕ) (entry : Option IndexEntry) (s : State) : Type 0 where
  pub partial : f.partial ≡ partial_program_of (program_of modules) s
  pub provided : names_or_duplicate [] (strong_names f.script (program_of modules)) ≡ Ok f.provided
  pub opened : f.opened ≡ Some (open_module_view (program_of modules) name entry s)
  pub reached : IsReached s
  pub failed : f.failed ≡ false

-- these modules were fed and have ended, whether or not another one is open
abbrev pub HasClosedModules : LinkerView → List Module → Type 0
HasClosedModules f modules =
    RepresentsModules f modules
    ⊎ ((name : List ℕ) × (entry : Option IndexEntry) × (s : State) × RepresentsWithOpenModule f modules name entry s)

abbrev pub module_of : List ℕ → Object → Module
module_of name object = record { name = name; object = object }

-- ---- Results of calls.

-- an error of a module, as an error of the link
abbrev pub as_link : {A : Type 0} → Result A ObjectFault → Result A LinkFault
as_link (Ok x) = Ok x
as_link (Err e) = Err (fault.Malformed e)

-- a call leads to a next state by the value of `read`, or has its error, unless memory ran out
abbrev pub RefinesThen : {A : Type 0} → (A → Type 0) → Result (Unit {0}) LinkFault → Result A LinkFault → Type 0
RefinesThen {A} Next (Ok u) read = (x : A) × (read ≡ Ok x) × Next x
RefinesThen Next (Err e) read = RefinesErr is_memory e read

-- the number of values in a record
abbrev pub values_in : RawRecord → ℕ
values_in e = if e.kind == 5 then 1 else 0

-- after an error the linker has failed; a module is open if one was, and the number of values is unchanged
pub record FailureFrame (old new : LinkerView) : Type 0 where
  pub opened : is_open new ≡ is_open old
  pub pending : new.pending ≡ old.pending
  pub failed : new.failed ≡ true

-- the script and the name of the output are unchanged
pub record ConfigFrame (old new : LinkerView) : Type 0 where
  pub script : new.script ≡ old.script
  pub output : new.output ≡ old.output

-- ---- Calls, for all modules and records that the linker represents.

-- a module of this name begins, of an object of this version; if it is a library's member, it has an index entry
abbrev pub BeginsModule : List ℕ → ℕ → Option IndexEntry → LinkerView → LinkerView → Result (Unit {0}) LinkFault → Type 0
BeginsModule name version entry old new r = (modules : List Module) → RepresentsModules old modules → OnOk r (RepresentsWithOpenModule new modules name entry (start version))

-- a record is added to those of the open module
abbrev pub AddsRecord : RawRecord → LinkerView → LinkerView → Result (Unit {0}) LinkFault → Type 0
AddsRecord e old new r =
    (modules : List Module) (name : List ℕ) (entry : Option IndexEntry) (s : State) → RepresentsWithOpenModule old modules name entry s
    → RefinesThen (RepresentsWithOpenModule new modules name entry) r (as_link (state_after_record s e))

-- the index entry, if there is one, has the names that the object exports and imports
abbrev pub agrees_with : Option IndexEntry → Object → Bool
agrees_with None object = true
agrees_with (Some e) object = has_index_names e (contents_from object)

abbrev pub agreeing_object : Option IndexEntry → Object → Result Object LinkFault
agreeing_object entry object = if agrees_with entry object then Ok object else Err fault.IndexDisagrees

-- the object added to other modules, if no name is defined twice
abbrev pub module_without_duplicates : Script → List Module → List ℕ → Object → Result Object LinkFault
module_without_duplicates script modules name object = check_unique_names script (program_of (modules ++ module_of name object ∷ [])) >>= (λ u. Ok object)

-- The object of a module, if it has its END, its index entry agrees with it and no name is defined twice. The first
-- of these that fails determines the error.
abbrev pub closed_module : Script → List Module → List ℕ → Option IndexEntry → State → Result Object LinkFault
closed_module script modules name entry s = as_link (object_of_state s) >>= agreeing_object entry >>= module_without_duplicates script modules name

-- the open module is added to the others
abbrev pub EndsModule : LinkerView → LinkerView → Result (Unit {0}) LinkFault → Type 0
EndsModule old new r =
    (modules : List Module) (name : List ℕ) (entry : Option IndexEntry) (s : State) → RepresentsWithOpenModule old modules name entry s
    → RefinesThen (λ object. RepresentsModules new (modules ++ module_of name object ∷ [])) r (closed_module old.script modules name entry s)

-- the result of linking the modules by the script
abbrev pub LinksModules : LinkerView → Result Linked LinkFault → Type 0
LinksModules f r = (modules : List Module) → RepresentsModules f modules → RefinesProp is_memory (LinkOf f.output f.script modules) r

-- ---- Names.

-- names of the script and of the modules that have ended, none of one that is open, unless memory ran out
abbrev pub RefinesNames : {N : Type 0} → (N → List (List ℕ)) → (Script → Program → List (List ℕ)) → LinkerView → Result N LinkFault → Type 0
RefinesNames view names_of f r =
    (modules : List Module) → HasClosedModules f modules → Refines is_memory view r (Ok (names_of f.script (program_of modules)))
