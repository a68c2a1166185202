-- The command line of some arguments, in terms of clap.
use Rattle.std.specs.Prelude.{ℕ, List, [], ◌∷◌, Option, Some, None, Result, Ok, Err, codes, unwrap_or, option_map, map, if◌then◌else◌}
use Rattle.std.specs.Str.{bytes_eq}
use Rattle.clap.specs.Words.{Kinds, Row, Text, all_of, first_of, fault_of, subcommand_of}
use Rattle.base65.specs.Outcome.{◌>>=◌, try_map}
use Rattle.cli65.specs.CommandLine.{bin65}
use Rattle.cli65.specs.Defining.{DefineView, define_of, define_view}
use Rattle.cli65.specs.declared.fault.LineFault.{LineFault}
use Rattle.cli65.specs.declared.fault.LineFault.TheVariants.{BadArguments}
use Rattle.cli65.specs.declared.line.ArchiveArgs.{ArchiveArgs}
use Rattle.cli65.specs.declared.line.AssembleArgs.{AssembleArgs}
use Rattle.cli65.specs.declared.line.LinkArgs.{LinkArgs}
use Rattle.cli65.specs.declared.line.Line.{Line}
use Rattle.cli65.specs.declared.line.Line.TheVariants as line
use Rattle.cli65.specs.declared.line.Operation.{Operation}
use Rattle.cli65.specs.declared.line.Operation.TheVariants.{Replace, Delete, List as Names, Extract}

-- the result of clap, or bad arguments if it has errors
abbrev pub unless_errors : {A : Type 0} → Kinds → A → Result A LineFault
unless_errors [] x = Ok x
unless_errors (k ∷ ks) x = Err BadArguments

-- the subcommand that clap finds in the arguments, with its matches, or bad arguments
unfoldable pub clap_matches : List Text → Result (Option (Text × List Row)) LineFault
clap_matches args = unless_errors (fault_of bin65 args) (subcommand_of bin65 args)

-- the arguments of ld65
pub record LinkView : Type 0 where
  pub script : Text
  pub output : Option Text
  pub map : Option Text
  pub inputs : List Text

-- the arguments of ca65
pub record AssembleView : Type 0 where
  pub output : Option Text
  -- the folders that are searched for included files, in order
  pub include : List Text
  -- the constants defined for the source, in order
  pub defines : List DefineView
  pub source : Text

-- the arguments of ar65
pub record ArchiveView : Type 0 where
  pub operation : Operation
  pub library : Text
  pub files : List Text

-- the arguments of a command
pub data CommandView : Type 0 where
  assemble : AssembleView → CommandView
  link : LinkView → CommandView
  archive : ArchiveView → CommandView

-- the first value of an argument, empty if it has none
abbrev pub argument_value : List ℕ → List Row → Text
argument_value id rows = unwrap_or (first_of id rows) []

-- all values of an argument, in order
abbrev pub argument_values : List ℕ → List Row → List Text
argument_values id rows = unwrap_or (all_of id rows) []

-- `ld65 -C SCRIPT [-o FILE] [-m MAP] INPUT..`
unfoldable pub link_view_of : List Row → LinkView
link_view_of rows = record {
  script = argument_value (codes "script") rows;
  output = first_of (codes "output") rows;
  map = first_of (codes "map") rows;
  inputs = argument_values (codes "input") rows;
}

-- `ca65 [-o FILE] [-I DIR].. [-D NAME[=NUMBER]].. [-g] SOURCE`
unfoldable pub assemble_view_of : List Row → Result AssembleView LineFault
assemble_view_of rows = do
  defines ← try_map define_of (argument_values (codes "define") rows)
  Ok (record {
    output = first_of (codes "output") rows;
    include = argument_values (codes "include") rows;
    defines = defines;
    source = argument_value (codes "source") rows;
  })

-- the operation of an argument: `r`, `d`, `t` or `x`
unfoldable pub operation_of : Text → Result Operation LineFault
operation_of arg =
    if bytes_eq arg (codes "r") then Ok Replace
    else if bytes_eq arg (codes "d") then Ok Delete
    else if bytes_eq arg (codes "t") then Ok Names
    else if bytes_eq arg (codes "x") then Ok Extract
    else Err BadArguments

-- `ar65 OP LIBRARY [FILE]..`
unfoldable pub archive_view_of : List Row → Result ArchiveView LineFault
archive_view_of rows = do
  operation ← operation_of (argument_value (codes "operation") rows)
  Ok (record {
    operation = operation;
    library = argument_value (codes "library") rows;
    files = argument_values (codes "file") rows;
  })

abbrev pub as_assemble : Result AssembleView LineFault → Result CommandView LineFault
as_assemble (Ok a) = Ok (assemble a)
as_assemble (Err e) = Err e

abbrev pub as_archive : Result ArchiveView LineFault → Result CommandView LineFault
as_archive (Ok a) = Ok (archive a)
as_archive (Err e) = Err e

-- the command line of a subcommand's name and matches, or an error
unfoldable pub subcommand_view : Text → List Row → Result CommandView LineFault
subcommand_view name rows =
    if bytes_eq name (codes "ca65") then as_assemble (assemble_view_of rows)
    else if bytes_eq name (codes "ld65") then Ok (link (link_view_of rows))
    else if bytes_eq name (codes "ar65") then as_archive (archive_view_of rows)
    else Err BadArguments

abbrev pub command_of_matches : Option (Text × List Row) → Result CommandView LineFault
command_of_matches None = Err BadArguments
command_of_matches (Some p) = subcommand_view p.0 p.1

-- the command line of the arguments, or an error
unfoldable pub line_of : List Text → Result CommandView LineFault
line_of args = clap_matches args >>= command_of_matches

-- the arguments of ld65, as values without references
abbrev pub link_view : LinkArgs → LinkView
link_view l = record { script = l.script.now; output = option_map (λ s. s.now) l.output; map = option_map (λ s. s.now) l.map; inputs = map (λ s. s.now) l.inputs }

abbrev pub assemble_view : AssembleArgs → AssembleView
assemble_view l = record { output = option_map (λ s. s.now) l.output; include = map (λ s. s.now) l.include; defines = map define_view l.defines; source = l.source.now }

abbrev pub archive_view : ArchiveArgs → ArchiveView
archive_view l = record { operation = l.operation; library = l.library.now; files = map (λ s. s.now) l.files }

abbrev pub view : Line → CommandView
view (line.Assemble l) = assemble (assemble_view l)
view (line.Link l) = link (link_view l)
view (line.Archive l) = archive (archive_view l)
