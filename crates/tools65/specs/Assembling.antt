-- The names and messages of ca65.
use Rattle.std.specs.Prelude.{◌≡◌, ℕ, nat_eq, List, map, Option, Some, None, if◌then◌else◌}
use Rattle.syntax65.specs.declared.source_location.SourceLocation.{SourceLocation}
use Rattle.ast65.specs.Faults.{fault_text}
use Rattle.cli65.specs.Defining.{DefineView}
use Rattle.cli65.specs.Line.{AssembleView}
use Rattle.cli65.specs.Messages.{file_message, line_message}
use Rattle.semantics65.specs.Module.{LocatedFault}
use Rattle.sources65.specs.Reading.{Define, Job}
use Rattle.tools65.specs.Naming.{IsObjectName}

-- a constant that a command line defines, as the assembler has it
abbrev pub define_in : DefineView → Define
define_in d = (d.name, d.value)

-- the job of an assembler's command line
abbrev pub job_in : AssembleView → Job
job_in a = record { source = a.source; include = a.include; defines = map define_in a.defines }

-- the name of the object's file: the one that the command line gives, or else the source's with `.o`
abbrev pub IsOutputName : Option (List ℕ) → List ℕ → List ℕ → Type 0
IsOutputName None source name = IsObjectName source name
IsOutputName (Some given) source name = name ≡ given

-- a message at a line, or after the source's name if no line was read
abbrev pub located_message : List ℕ → SourceLocation → List ℕ → List ℕ
located_message source p text = if nat_eq p.line 0 then file_message source text else line_message p.file p.line text

-- why a source has no object
abbrev pub asm_message : List ℕ → LocatedFault → List ℕ
asm_message source e = located_message source e.place (fault_text e.fault)
