-- The result of the command for a script, objects and libraries.
use Rattle.std.specs.Prelude.{◌≡◌, ℕ, ◌+◌, ◌-◌, ◌^◌, List, [], ◌∷◌, ◌++◌, take, slice_get, Bool, true, false, Option, Some, None, unwrap_or, Result, Ok, Err, codes}
use Rattle.std.specs.FinMap.{get}
use Rattle.std.specs.List.{flat_map}
use Rattle.std.specs.Option.{option_map_or}
use Rattle.std.specs.Str.{bytes_eq}
use Rattle.base65.specs.Outcome.{◌>>=◌, AndThen}
use Rattle.base65.specs.Store.{Files}
use Rattle.base65.specs.declared.store.StoreFault.TheVariants.{FileNotFound}
use Rattle.object65.specs.declared.object.Object.{Object}
use Rattle.object65.specs.declared.fault.ObjectFault.{ObjectFault}
use Rattle.object65.specs.Reading.{in_file, object_at}
use Rattle.library65.specs.declared.index.Entry.{Entry}
use Rattle.library65.specs.declared.fault.LibraryFault.{LibraryFault}
use Rattle.library65.specs.Reading.{index_at, in_file as in_library}
use Rattle.library65.specs.Selection.{IsSelection}
use Rattle.script65.specs.Scripts.{IsScript}
use Rattle.script65.specs.declared.fault.ScriptFault.{ScriptFault}
use Rattle.script65.specs.declared.script.Script.{Script}
use Rattle.link65.specs.declared.fault.LinkFault.{LinkFault}
use Rattle.link65.specs.declared.linking.Linked.{Linked}
use Rattle.link65.specs.Names.{strong_names, open_names}
use Rattle.link65.specs.Links.{LinkOf, check_unique_names}
use Rattle.link65.specs.Programs.{Module, program_of}
use Rattle.link65.specs.Representation.{agreeing_object, as_link, module_without_duplicates as without_duplicates, module_of}
use Rattle.cli65.specs.Line.{LinkView}
use Rattle.cli65.specs.Messages.{concat_texts}
use Rattle.ld65.specs.declared.fault.LinkCommandFault.{LinkCommandFault}
use Rattle.ld65.specs.declared.fault.LinkCommandFault.TheVariants as error
use Rattle.ld65.specs.Faults.{input_fault, member_fault}

-- the faults of the parts as the command's; an input is named by its index in the line
abbrev pub as_script : Result Script ScriptFault → Result Script LinkCommandFault
as_script (Ok s) = Ok s
as_script (Err e) = Err (error.Script e)

abbrev pub as_library : {A : Type 0} → ℕ → Result A LibraryFault → Result A LinkCommandFault
as_library k (Ok x) = Ok x
as_library k (Err e) = Err (error.Library k e)

abbrev pub as_command_fault : {A : Type 0} → Result A LinkFault → Result A LinkCommandFault
as_command_fault (Ok x) = Ok x
as_command_fault (Err e) = Err (error.Link e)

-- the bytes of a script's file
abbrev pub text_of : Option (List ℕ) → Result (List ℕ) LinkCommandFault
text_of None = Err (error.ScriptFile FileNotFound)
text_of (Some bytes) = Ok bytes

-- the name of the linker's output
abbrev pub output_of : LinkView → List ℕ
output_of l = unwrap_or l.output (codes "a.out")

-- ---- One more object after other modules.

-- An object to link: its offset in a file, the name of its module, and its entry in a library's index, if it
-- is a member of one.
pub record Input : Type 0 where
  pub file : List ℕ
  pub begin : ℕ
  pub end : ℕ
  pub name : List ℕ
  pub entry : Option Entry

-- no file has more bytes
abbrev pub no_limit : ℕ
no_limit = 2 ^ 64 - 1

-- the object that takes a whole file
abbrev pub file_input : List ℕ → Input
file_input name = record { file = name; begin = 0; end = no_limit; name = name; entry = None }

-- the module of a library's member: `library(member)`
abbrev pub member_module : List ℕ → List ℕ → List ℕ
member_module library name = concat_texts (library ∷ codes "(" ∷ name ∷ codes ")" ∷ [])

abbrev pub member_input : List ℕ → Entry → Input
member_input library e =
    record { file = library; begin = e.place; end = e.place + e.size; name = member_module library e.name; entry = Some e }

abbrev pub object_in : Files → Input → Result Object ObjectFault
object_in m i = in_file (get m i.file) (object_at i.begin i.end)

-- The object added to other modules. Its own errors come first, then an index entry that disagrees with it,
-- then a name that is defined twice.
abbrev pub added_object : Script → List Module → Files → Input → Result Object LinkFault
added_object s before m i = as_link (object_in m i) >>= agreeing_object i.entry >>= without_duplicates s before i.name

-- the modules with that of the object, or what its fault is
abbrev pub modules_after : (LinkFault → LinkCommandFault) → List Module → List ℕ → Result Object LinkFault → Result (List Module) LinkCommandFault
modules_after named before name (Ok o) = Ok (before ++ module_of name o ∷ [])
modules_after named before name (Err e) = Err (named e)

abbrev pub with_file : Script → Files → ℕ → List Module → List ℕ → Result (List Module) LinkCommandFault
with_file s m k before name = modules_after (input_fault k) before name (added_object s before m (file_input name))

abbrev pub with_member : Script → Files → List ℕ → List Module → Entry → Result (List Module) LinkCommandFault
with_member s m library before e =
    modules_after (member_fault (member_module library e.name)) before (member_module library e.name) (added_object s before m (member_input library e))

-- ---- The modules of the inputs.

abbrev pub with_members : Script → Files → List ℕ → List Module → List Entry → Result (List Module) LinkCommandFault
with_members s m library before [] = Ok before
with_members s m library before (e ∷ es) = with_member s m library before e >>= (λ ms. with_members s m library ms es)

-- the entry at an index of a library's index, if there is one
abbrev pub entry_if_any : List Entry → ℕ → List Entry
entry_if_any es index = option_map_or (λ e. e ∷ []) (slice_get es index) []

abbrev pub selected_entries : List Entry → List ℕ → List Entry
selected_entries es entry_indices = flat_map (entry_if_any es) entry_indices

-- The members of an index that the modules before the library need, in file order: the first exporters of the
-- names in a least set. The set has the names that these modules leave undefined; and with each name those
-- that its first exporter imports and that they don't define.
abbrev pub AreNeeded : Script → Files → List ℕ → List Module → List Entry → Result (List Module) LinkCommandFault → Type 0
AreNeeded s m library before es r =
    (entry_indices : List ℕ) × IsSelection es (open_names s (program_of before)) (strong_names s (program_of before)) entry_indices
    × (r ≡ with_members s m library before (selected_entries es entry_indices))

abbrev pub index_in : Files → List ℕ → Result (List Entry) LibraryFault
index_in m library = in_library (get m library) index_at

-- the needed members of a library, the input with this index among the inputs, added to other modules
abbrev pub IsLibraryInput : Script → Files → ℕ → List Module → List ℕ → Result (List Module) LinkCommandFault → Type 0
IsLibraryInput s m k before library r = AndThen (as_library k (index_in m library)) (AreNeeded s m library before) r

-- a file that begins with these bytes is a library, any other an object
abbrev pub library_magic : List ℕ
library_magic = 0x52 ∷ 0x36 ∷ 0x35 ∷ 0x6c ∷ []

abbrev pub is_library : List ℕ → Bool
is_library bytes = bytes_eq (take 4 bytes) library_magic

abbrev pub is_library_in : Files → List ℕ → Bool
is_library_in m name = option_map_or is_library (get m name) false

abbrev pub IfLibraryElse : Bool → Type 0 → Type 0 → Type 0
IfLibraryElse true Library Object = Library
IfLibraryElse false Library Object = Object

-- the modules after the input with this index among the inputs
abbrev pub IsInput : Script → Files → ℕ → List Module → List ℕ → Result (List Module) LinkCommandFault → Type 0
IsInput s m k before name r =
    IfLibraryElse (is_library_in m name) (IsLibraryInput s m k before name r) (r ≡ with_file s m k before name)

-- The modules after inputs, of which the first has this index among all of the inputs; or the first error of the
-- first input that has one.
abbrev pub AreInputs : Script → Files → ℕ → List Module → List (List ℕ) → Result (List Module) LinkCommandFault → Type 0
AreInputs s m k before [] r = r ≡ Ok before
AreInputs s m k before (name ∷ names) r =
    (q : Result (List Module) LinkCommandFault) × IsInput s m k before name q × AndThen q (λ ms. AreInputs s m (k + 1) ms names) r

-- ---- The link.

-- the result of linking modules
abbrev pub IsLinkResult : LinkView → Script → List Module → Result Linked LinkCommandFault → Type 0
IsLinkResult l s ms r = (q : Result Linked LinkFault) × LinkOf (output_of l) s ms q × (r ≡ as_command_fault q)

-- the modules of a command line's inputs, and the result of linking them
abbrev pub IsInputLink : Files → LinkView → Script → Result Linked LinkCommandFault → Type 0
IsInputLink m l s r = (q : Result (List Module) LinkCommandFault) × AreInputs s m 0 [] l.inputs q × AndThen q (IsLinkResult l s) r

-- the script's own names, then the inputs in order, then the link
abbrev pub IsScriptedLink : Files → LinkView → Script → Result Linked LinkCommandFault → Type 0
IsScriptedLink m l s r = AndThen (as_command_fault (check_unique_names s (program_of []))) (λ u. IsInputLink m l s) r

-- The result of a command line, or its first error: of the script, then of the inputs, then of the link.
abbrev pub IsCommandLink : Files → LinkView → Result Linked LinkCommandFault → Type 0
IsCommandLink m l r =
    AndThen (text_of (get m l.script)) (λ text u. (q : Result Script ScriptFault) × IsScript text q × AndThen (as_script q) (IsScriptedLink m l) u) r
