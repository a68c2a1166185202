-- The name in the message if the store failed, and that the failed call requested that file, if the store
-- tells it. If the store tells its files, it is the file being read: all before it were read, without an
-- error.
use Rattle.std.specs.Prelude.{◌≡◌, ℕ, ◌+◌, ◌⊎◌, List, [], slice_get, take, Option, Some, true, false, Ok, IfSome}
use Rattle.std.specs.FinMap.{get}
use Rattle.base65.specs.Store.{Files, FailedOn, FailedWithin, LastFailure}
use Rattle.base65.specs.declared.store.StoreFault.TheVariants as store
use Rattle.object65.specs.declared.fault.ObjectFault.TheVariants as object
use Rattle.library65.specs.declared.fault.LibraryFault.TheVariants as library
use Rattle.library65.specs.declared.index.Entry.{Entry}
use Rattle.library65.specs.FailedRequests.{RequestsOffset, IsIndexOffset}
use Rattle.library65.specs.Selection.{IsSelection}
use Rattle.script65.specs.Scripts.{IsScript}
use Rattle.script65.specs.declared.script.Script.{Script}
use Rattle.link65.specs.Names.{strong_names, open_names}
use Rattle.link65.specs.Programs.{Module, program_of}
use Rattle.cli65.specs.Line.{LinkView}
use Rattle.ld65.specs.declared.fault.LinkCommandFault.{LinkCommandFault}
use Rattle.ld65.specs.declared.fault.LinkCommandFault.TheVariants.{ScriptFile, Object, Library, Member}
use Rattle.ld65.specs.Linkage.{AreInputs, selected_entries, index_in, is_library_in, member_module, with_members}
use Rattle.ld65.specs.Faults.{is_failure}

-- ---- One input, after the modules of those before it.

-- the front of the input with this index among the inputs, by which it is a library or an object
abbrev pub IsHeaderFailure : LastFailure → ℕ → List ℕ → LinkCommandFault → Type 0
IsHeaderFailure last_failure input_index name e = (e ≡ Object input_index object.FileError) × FailedWithin last_failure name 0 4

-- an object
abbrev pub IsObjectFailure : LastFailure → ℕ → List ℕ → LinkCommandFault → Type 0
IsObjectFailure last_failure input_index name e = (e ≡ Object input_index object.FileError) × FailedOn last_failure name

-- The index of a library: where its bytes have one, the failed call asked for a place in front of the members, or for the
-- last byte or the end of the file, where the index is compared with that.
abbrev pub IsIndexFailure : Option Files → LastFailure → ℕ → List ℕ → LinkCommandFault → Type 0
IsIndexFailure known last_failure input_index name e =
    (e ≡ Library input_index library.FileError) × FailedOn last_failure name × RequestsOffset known last_failure name IsIndexOffset

-- this member, whose bytes the failed call asked for
abbrev pub IsMemberFailure : LastFailure → List ℕ → Entry → LinkCommandFault → Type 0
IsMemberFailure last_failure name entry e =
    (e ≡ Member (member_module name entry.name) object.FileError) × FailedWithin last_failure name entry.place (entry.place + entry.size)

-- One of the members that are needed of a library, at its rank among them: those before it are linked.
pub record IsNeededMemberFailure (known : Option Files) (s : Script) (before : List Module) (last_failure : LastFailure) (name : List ℕ) (e : LinkCommandFault) : Type 0 where
  -- the library's index, and which members of it are needed
  pub entries : List Entry
  pub index : IfSome known (λ m. index_in m name ≡ Ok entries)
  pub entry_indices : List ℕ
  pub needed : IsSelection entries (open_names s (program_of before)) (strong_names s (program_of before)) entry_indices
  -- the modules of those before it
  pub rank : ℕ
  pub modules : List Module
  pub linked : IfSome known (λ m. with_members s m name before (selected_entries entries (take rank entry_indices)) ≡ Ok modules)
  -- the member
  pub entry_index : ℕ
  pub selected : slice_get entry_indices rank ≡ Some entry_index
  pub entry : Entry
  pub at_index : slice_get entries entry_index ≡ Some entry
  pub named : IsMemberFailure last_failure name entry e

-- a library's index, or one of its members
abbrev pub IsLibraryFailure : Option Files → Script → List Module → LastFailure → ℕ → List ℕ → LinkCommandFault → Type 0
IsLibraryFailure known s before last_failure input_index name e = IsIndexFailure known last_failure input_index name e ⊎ IsNeededMemberFailure known s before last_failure name e

-- an input: its front; or it is an object; or it is a library, whose index or member that is
abbrev pub IsInputFailure : Option Files → Script → List Module → LastFailure → ℕ → List ℕ → LinkCommandFault → Type 0
IsInputFailure known s before last_failure input_index name e =
    IsHeaderFailure last_failure input_index name e
    ⊎ (IfSome known (λ m. is_library_in m name ≡ false) × IsObjectFailure last_failure input_index name e)
    ⊎ (IfSome known (λ m. is_library_in m name ≡ true) × IsLibraryFailure known s before last_failure input_index name e)

-- ---- The line.

-- one of these inputs, at its turn: those before it give modules
abbrev pub IsInputListFailure : Option Files → Script → List Module → LastFailure → List (List ℕ) → LinkCommandFault → Type 0
IsInputListFailure known s first last_failure inputs e =
    (input_index : ℕ) × (name : List ℕ) × (slice_get inputs input_index ≡ Some name)
    × (before : List Module) × IfSome known (λ m. AreInputs s m 0 first (take input_index inputs) (Ok before))
    × IsInputFailure known s before last_failure input_index name e

-- the script, for which the failed call asked
abbrev pub IsScriptFailure : LastFailure → List ℕ → LinkCommandFault → Type 0
IsScriptFailure last_failure script e = (e ≡ ScriptFile store.FileError) × FailedOn last_failure script

-- the script in these files
abbrev pub IsScriptIn : Files → List ℕ → Script → Type 0
IsScriptIn m name s = (text : List ℕ) × (get m name ≡ Some text) × IsScript text (Ok s)

-- the script; or an input by the script that was read
abbrev pub IsCommandFailure : Option Files → LastFailure → LinkView → LinkCommandFault → Type 0
IsCommandFailure known last_failure l e =
    IsScriptFailure last_failure l.script e
    ⊎ ((s : Script) × IfSome known (λ m. IsScriptIn m l.script s) × IsInputListFailure known s [] last_failure l.inputs e)

-- where the store failed, the refusal is one that names so
abbrev pub NamesFailure : (LinkCommandFault → Type 0) → LinkCommandFault → Type 0
NamesFailure IsOf e = is_failure e ≡ true → IsOf e
