-- Why nothing is linked: in words, and whether the cause lies outside the files.
use Rattle.std.specs.Prelude.{ℕ, List, [], Bool, true, false, codes, ◌||◌, get_or, if◌then◌else◌}
use Rattle.base65.specs.declared.store.StoreFault.TheVariants as store
use Rattle.base65.specs.StoreFaults.{store_fault_message}
use Rattle.object65.specs.declared.fault.ObjectFault.TheVariants as object
use Rattle.object65.specs.Record.{fault_text, is_memory as is_object_memory}
use Rattle.library65.specs.declared.fault.LibraryFault.TheVariants as library
use Rattle.library65.specs.Fault.{display_text as library_text, is_memory as is_library_memory}
use Rattle.script65.specs.Faults.{is_memory_fault, script_fault_text as script_words}
use Rattle.link65.specs.declared.fault.LinkFault.{LinkFault}
use Rattle.link65.specs.declared.fault.LinkFault.TheVariants as link
use Rattle.link65.specs.Faults.{fault_text as link_text, is_memory as is_link_memory}
use Rattle.link65.specs.Texts.{location_name}
use Rattle.cli65.specs.Line.{LinkView}
use Rattle.cli65.specs.Messages.{file_message, line_message}
use Rattle.ld65.specs.declared.fault.LinkCommandFault.{LinkCommandFault}
use Rattle.ld65.specs.declared.fault.LinkCommandFault.TheVariants.{OutOfMemory, ScriptFile, Script, Object, Library, Member, Disagrees, Link}

-- memory ran out
abbrev pub is_memory : LinkCommandFault → Bool
is_memory OutOfMemory = true
is_memory (ScriptFile store.OutOfMemory) = true
is_memory (ScriptFile f) = false
is_memory (Script f) = is_memory_fault f.fault
is_memory (Object k f) = is_object_memory f
is_memory (Library k f) = is_library_memory f
is_memory (Member name f) = is_object_memory f
is_memory (Disagrees name) = false
is_memory (Link f) = is_link_memory f

-- the store failed
abbrev pub is_failure : LinkCommandFault → Bool
is_failure (ScriptFile store.FileError) = true
is_failure (Object k object.FileError) = true
is_failure (Library k library.FileError) = true
is_failure (Member name object.FileError) = true
is_failure _ = false

abbrev pub is_system_error : LinkCommandFault → Bool
is_system_error e = is_memory e || is_failure e

-- the error of the command for an error at the object with this index among the inputs: one of the object's
-- own is named by the index
abbrev pub input_fault : ℕ → LinkFault → LinkCommandFault
input_fault k (link.Malformed f) = Object k f
input_fault k f = Link f

-- the error of the command for an error at a library's member: one of its own is named by its module
abbrev pub member_fault : List ℕ → LinkFault → LinkCommandFault
member_fault name (link.Malformed f) = Member name f
member_fault name link.IndexDisagrees = Disagrees name
member_fault name f = Link f

-- ---- In words.

abbrev pub link_memory_message : List ℕ
link_memory_message = codes "ld65: Error: out of memory\n"

-- a fault of linking: that of a value at its module, file and line, any other as the linker's
abbrev pub link_message : LinkFault → List ℕ
link_message (link.Circular s) = line_message (location_name s) s.line (link_text (link.Circular s))
link_message (link.OutOfRange s) = line_message (location_name s) s.line (link_text (link.OutOfRange s))
link_message (link.NoValue s) = line_message (location_name s) s.line (link_text (link.NoValue s))
link_message (link.Assertion s text) = line_message (location_name s) s.line (link_text (link.Assertion s text))
link_message f = file_message (codes "ld65") (link_text f)

-- the name of the input with this index among the inputs
abbrev pub input_name_at : List (List ℕ) → ℕ → List ℕ
input_name_at inputs k = get_or inputs k []

-- why nothing is linked, where memory didn't run out
abbrev pub cause_message : LinkView → LinkCommandFault → List ℕ
cause_message l OutOfMemory = link_memory_message
cause_message l (ScriptFile f) = file_message l.script (store_fault_message f)
cause_message l (Script f) = line_message l.script f.line (script_words f)
cause_message l (Object k f) = file_message (input_name_at l.inputs k) (fault_text f)
cause_message l (Library k f) = file_message (input_name_at l.inputs k) (library_text f)
cause_message l (Member name f) = file_message name (fault_text f)
cause_message l (Disagrees name) = file_message name (link_text link.IndexDisagrees)
cause_message l (Link f) = link_message f

-- the message of a refusal, by the names in the line
abbrev pub error_message : LinkView → LinkCommandFault → List ℕ
error_message l e = if is_memory e then link_memory_message else cause_message l e
