-- The link of objects that the assembler wrote, and the whole program of their sources.
use Rattle.std.specs.Prelude.{◌≡◌, ℕ, ◌⊎◌, ◌↔◌, true, List, [], ◌∷◌, ◌++◌, Option, Some, None, Result, Ok, ⊤}
use Rattle.std.specs.FinMap.{get}
use Rattle.base65.specs.Store.{Files}
use Rattle.script65.specs.Scripts.{IsScript}
use Rattle.script65.specs.declared.script.Script.{Script}
use Rattle.semantics65.specs.Layout.{Layout}
use Rattle.sources65.specs.Reading.{AreLaidOut, Job, IsOutcome}
use Rattle.semantics65.specs.Module as asm
use Rattle.object65.specs.declared.object.Object.{Object}
use Rattle.object65.specs.Versions.{IsEitherVersion}
use Rattle.library65.specs.Selection.{IsSelection}
use Rattle.library65.specs.declared.index.Entry.{Entry}
use Rattle.link65.specs.Names.{strong_names, open_names}
use Rattle.link65.specs.Programs.{Module, program_of}
use Rattle.link65.specs.Representation.{agrees_with, module_of}
use Rattle.base65.specs.declared.output.OutputFile.{OutputFile}
use Rattle.whole65.specs.Equality.{IsLinkedTo}
use Rattle.whole65.specs.Whole.{IsWholeProgramImage}
use Rattle.cli65.specs.Line.{LinkView, CommandView, line_of, link}
use Rattle.cli65.specs.Messages.{arguments_memory_message}
use Rattle.cli65.specs.declared.fault.LineFault.{LineFault}
use Rattle.ld65.specs.Linkage.{IfLibraryElse, Input, selected_entries, file_input, index_in, is_library_in, member_input, object_in, output_of}
use Rattle.ld65.specs.Faults.{link_memory_message, error_message}
use Rattle.ld65.specs.declared.fault.LinkCommandFault.{LinkCommandFault}
use Rattle.output65.specs.declared.outcome.Outcome.{Outcome}
use Rattle.output65.specs.declared.outcome.Status.{Status}
use Rattle.output65.specs.declared.outcome.Status.TheVariants.{Failure, Success}
use Rattle.tools65.specs.Command.{RunsCommand, IsOutcomeOfLink, IsOutcomeOfCommand, RunHasOutcome, command_memory_message}
use Rattle.output65.specs.RunEffects.{CommitsOutcome, with_outputs, Streams}
use Rattle.output65.specs.Outputs.{error_outcome, with_map}

-- ---- Sources, their objects, and what they are as one program.

-- the input of a run of the assembler: all files at that time, and the job, which names the source file, the folders of
-- included files and the constants that the command line defines
pub record Source : Type 0 where
  pub files : Files
  pub job : Job

-- A module's object is the one that the assembler makes of a source, or this object in version 1 of the file format, which
-- has no file names: its locations have only lines.
abbrev pub IsObjectOf : Source → Module → Type 0
IsObjectOf x m = (o : asm.Outcome) × (p : Object) × IsOutcome x.files x.job o × (o.result ≡ Ok p) × IsEitherVersion p m.object

abbrev pub AreObjectsOf : List Source → List Module → Type 0
AreObjectsOf [] [] = ⊤
AreObjectsOf (x ∷ xs) (m ∷ ms) = IsObjectOf x m × AreObjectsOf xs ms
AreObjectsOf [] (m ∷ ms) = ⊥
AreObjectsOf (x ∷ xs) [] = ⊥

-- The expanded statements of a source have this layout, and none is rejected at its line. (Errors that are found after the
-- last line are stated elsewhere. `AreLaidOut` states which state a source reaches: `state` is the layout of the statements
-- before the first rejected one, and `fault` is its error.)
abbrev pub IsLayoutOf : Source → Layout → Type 0
IsLayoutOf x y = AreLaidOut x.files x.job (record { state = y; fault = None })

-- the same for each of these sources
abbrev pub AreLayoutsOf : List Source → List Layout → Type 0
AreLayoutsOf [] [] = ⊤
AreLayoutsOf (x ∷ xs) (y ∷ ys) = IsLayoutOf x y × AreLayoutsOf xs ys
AreLayoutsOf [] (y ∷ ys) = ⊥
AreLayoutsOf (x ∷ xs) [] = ⊥

-- the sources, each laid out by itself and all evaluated as one program, have this image
abbrev pub HasImage : List ℕ → Script → List Source → List OutputFile → Type 0
HasImage output s xs files = (ys : List Layout) × AreLayoutsOf xs ys × IsWholeProgramImage output s ys files

-- Linking the objects that the assembler makes of sources gives files if and only if the sources have an image as one
-- program, and these files are the image.
abbrev pub OneProgramLaw : Type 0
OneProgramLaw =
    (output : List ℕ) (s : Script) (xs : List Source) (ms : List Module) (files : List OutputFile) →
    AreObjectsOf xs ms → HasImage output s xs files ↔ IsLinkedTo output s ms files

-- It is decidable whether sources have an image: there is one, or a proof that there is none.
abbrev pub ImageIsDecidable : Type 0
ImageIsDecidable =
    (output : List ℕ) (s : Script) (xs : List Source) (ms : List Module) → AreObjectsOf xs ms →
    ((files : List OutputFile) × HasImage output s xs files)
    ⊎ ((files : List OutputFile) → HasImage output s xs files → ⊥)

-- ---- The modules that a command line selects: the objects given, and of each library the members that are needed.

-- the module of an input's object; a library's member agrees with its index entry
abbrev pub IsModuleOf : Files → Input → Module → Type 0
IsModuleOf m i x = (o : Object) × (object_in m i ≡ Ok o) × (agrees_with i.entry o ≡ true) × (x ≡ module_of i.name o)

-- the modules of members of a library, given their entries in its index
abbrev pub AreModulesOfEntries : Files → List ℕ → List Entry → List Module → Type 0
AreModulesOfEntries m library [] [] = ⊤
AreModulesOfEntries m library (e ∷ es) (x ∷ ms) = IsModuleOf m (member_input library e) x × AreModulesOfEntries m library es ms
AreModulesOfEntries m library [] (x ∷ ms) = ⊥
AreModulesOfEntries m library (e ∷ es) [] = ⊥

-- the modules of those members of a library that the modules before it need, in file order
abbrev pub AreModulesOfLibrary : Script → Files → List Module → List ℕ → List Module → Type 0
AreModulesOfLibrary s m before library ms =
    (es : List Entry) × (indices : List ℕ) × (index_in m library ≡ Ok es)
    × IsSelection es (open_names s (program_of before)) (strong_names s (program_of before)) indices × AreModulesOfEntries m library (selected_entries es indices) ms

-- the modules of an input, given the modules before it: of a library the members that are needed, of an object file its
-- module
abbrev pub AreModulesOfInput : Script → Files → List Module → List ℕ → List Module → Type 0
AreModulesOfInput s m before name ms =
    IfLibraryElse (is_library_in m name) (AreModulesOfLibrary s m before name ms) ((x : Module) × IsModuleOf m (file_input name) x × (ms ≡ x ∷ []))

-- the modules of all inputs, given the modules before them; selection doesn't reject a name that is defined twice, the link
-- does
abbrev pub AreModulesOfInputs : Script → Files → List Module → List (List ℕ) → List Module → Type 0
AreModulesOfInputs s m before [] ms = ms ≡ []
AreModulesOfInputs s m before (name ∷ names) ms =
    (own : List Module) × (rest : List Module) × AreModulesOfInput s m before name own
    × AreModulesOfInputs s m (before ++ own) names rest × (ms ≡ own ++ rest)

-- ---- A run.

-- The script of a command line is this one, and the modules that the command line selects are the objects that the assembler
-- makes of these sources, in this order, each in either version of the format.
pub record SelectsObjectsOf (l : LinkView) (m : Files) (s : Script) (xs : List Source) : Type 0 where
  pub text : List ℕ
  pub file : get m l.script ≡ Some text
  pub script : IsScript text (Ok s)
  pub modules : List Module
  pub selected : AreModulesOfInputs s m [] l.inputs modules
  pub objects : AreObjectsOf xs modules

-- a link succeeds: its outcome has these files, and then the map; it prints nothing but warnings
abbrev pub HasFiles : LinkView → List OutputFile → Outcome → Type 0
HasFiles l files o =
    (warnings : List ℕ) × (map : List ℕ) × (o ≡ record { out = []; err = warnings; outputs = with_map l.map files map; status = Success })

-- these files were written, and then the map; the files after the run are known
abbrev pub HasWrittenFiles : LinkView → List OutputFile → Files → Option Files → Type 0
HasWrittenFiles l files m new = (map : List ℕ) × (new ≡ Some (with_outputs (with_map l.map files map) m))

-- a link's outcome is an error: it prints a message, has no files and fails
abbrev pub IsLinkError : LinkView → Outcome → Type 0
IsLinkError l o = (e : LinkCommandFault) × (o ≡ error_outcome (error_message l e))

-- sources have no image as one program
abbrev pub HasNoImage : LinkView → Script → List Source → Type 0
HasNoImage l s xs = (files : List OutputFile) → HasImage (output_of l) s xs files → ⊥

-- An outcome of a link's command line with these files: whether it succeeds, and which files it has but for the map, is
-- determined by the image of the sources as one program. (That the modules are objects of these sources is a premise of
-- `LinksWholeProgram`.)
pub record IsWholeProgramOutcome (l : LinkView) (s : Script) (xs : List Source) (m : Files) (o : Outcome) : Type 0 where
  pub is_link_outcome : IsOutcomeOfLink l m o
  -- if the sources have an image as one program, the outcome has its files, and then the map
  pub image_files : (files : List OutputFile) → HasImage (output_of l) s xs files → HasFiles l files o
  -- the outcome has the files of an image, or there is no image and the outcome is an error
  pub exhaustive :
      ((files : List OutputFile) × HasImage (output_of l) s xs files × HasFiles l files o)
      ⊎ (HasNoImage l s xs × IsLinkError l o)

-- What `one_program` states of a run: a link of sources' objects writes the image that the sources have as one program, or
-- reports an error if they have none; or memory runs out, which it reports.
pub record AgreesWithWholeProgram (l : LinkView) (s : Script) (xs : List Source) (m : Files) (new : Option Files) (io : Streams) (status : Status) : Type 0 where
  -- the run commits an outcome of the whole program, or memory ran out while it wrote the files; or it only reports that
  -- memory ran out
  pub run_effect : RunHasOutcome (IsWholeProgramOutcome l s xs) link_memory_message m new io status
  -- a run that succeeds wrote the image and the map
  pub on_success :
      status ≡ Success → (files : List OutputFile) × HasImage (output_of l) s xs files × HasWrittenFiles l files m new
  -- if the sources have no image, no file is written and the run fails
  pub on_no_image : HasNoImage l s xs → (new ≡ Some m) × (status ≡ Failure)

-- the same for every script, and for all sources whose objects the command line selects; of other objects this states nothing
abbrev pub LinksWholeProgram : LinkView → Files → Option Files → Streams → Status → Type 0
LinksWholeProgram l m new io status =
    (s : Script) (xs : List Source) → SelectsObjectsOf l m s xs → AgreesWithWholeProgram l s xs m new io status

-- Clause `one_program` for a parsed command line: the same if it is a link; of other commands this states nothing.
unfoldable pub CommandLinksWholeProgram : CommandView → Files → Option Files → Streams → Status → Type 0
CommandLinksWholeProgram line m new io status =
    (l : LinkView) → line ≡ link l → LinksWholeProgram l m new io status

-- Clause `one_program` for arguments: the same if they parse to a link, unless memory ran out while they were parsed.
unfoldable pub ArgsLinkWholeProgram : Result CommandView LineFault → Files → Option Files → Streams → Status → Type 0
ArgsLinkWholeProgram parsed m new io status =
    (l : LinkView) → parsed ≡ Ok (link l)
    → LinksWholeProgram l m new io status ⊎ CommitsOutcome (error_outcome arguments_memory_message) m new io status

-- Clause `done` implies clause `one_program`: for arguments, and for a parsed command line.
abbrev pub RunLinksOneProgram : Type 0
RunLinksOneProgram =
    (args : List (List ℕ)) (m : Files) (new : Option Files) (io : Streams) (status : Status) →
    RunsCommand args m new io status → ArgsLinkWholeProgram (line_of args) m new io status

abbrev pub LineLinksOneProgram : Type 0
LineLinksOneProgram =
    (line : CommandView) (m : Files) (new : Option Files) (io : Streams) (status : Status) →
    RunHasOutcome (IsOutcomeOfCommand line) (command_memory_message line) m new io status → CommandLinksWholeProgram line m new io status
