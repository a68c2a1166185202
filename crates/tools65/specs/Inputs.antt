-- Laws of inputs that ca65 wrote from sources, or that are libraries of such members.
use Rattle.std.specs.Prelude.{◌≡◌, ℕ, ◌≤◌, List, [], ◌∷◌, length, Some, Ok}
use Rattle.std.specs.FinMap.{get}
use Rattle.std.specs.List.{AllByRecursion}
use Rattle.base65.specs.Store.{Files}
use Rattle.object65.specs.Reading.{file_limit}
use Rattle.object65.specs.Spelling.{IsObject}
use Rattle.library65.specs.Spelling.{IsMember, Member}
use Rattle.library65.specs.declared.index.Entry.{Entry}
use Rattle.link65.specs.Programs.{Module}
use Rattle.script65.specs.Scripts.{IsScript}
use Rattle.script65.specs.declared.script.Script.{Script}
use Rattle.cli65.specs.Line.{LinkView}
use Rattle.ld65.specs.Linkage.{member_input}
use Rattle.tools65.specs.OneProgram.{AreModulesOfInput, IsModuleOf, IsObjectOf, SelectsObjectsOf, Source}
use Rattle.tools65.specs.ObjectFiles.{IsOneOf, IsSourceInput, IsObjectFileOf}

-- the bytes that ca65 wrote from a source encode an object of the grammar
abbrev pub WrittenObjectLaw : Type 0
WrittenObjectLaw = (x : Source) (bytes : List ℕ) (w : IsObjectFileOf x bytes) → IsObject bytes w.object

-- a file that ca65 wrote from a source gives one module, an object of the source, whatever modules come
-- before it
abbrev pub WrittenInputLaw : Type 0
WrittenInputLaw =
    (s : Script) (m : Files) (before : List Module) (name bytes : List ℕ) (x : Source) →
    get m name ≡ Some bytes → IsObjectFileOf x bytes →
    (k : Module) × IsObjectOf x k × AreModulesOfInput s m before name (k ∷ [])

-- a library's member that ca65 wrote from a source gives an object of the source (`p.1` is the bytes of the member `p`)
abbrev pub WrittenMemberLaw : Type 0
WrittenMemberLaw =
    (m : Files) (library bytes : List ℕ) (e : Entry) (p : Member) (x : Source) →
    get m library ≡ Some bytes → length bytes ≤ file_limit → IsMember bytes e p → IsObjectFileOf x p.1 →
    (k : Module) × IsObjectOf x k × IsModuleOf m (member_input library e) k

-- If a command line's script exists and is valid, and ca65 wrote each input, or each member of it, from one of these sources, the
-- command line selects objects of some of these sources.
abbrev pub SourcesSelectedLaw : Type 0
SourcesSelectedLaw =
    (sources : List Source) (l : LinkView) (m : Files) (text : List ℕ) (s : Script) →
    get m l.script ≡ Some text → IsScript text (Ok s) → AllByRecursion (IsSourceInput sources m) l.inputs →
    (xs : List Source) × AllByRecursion (IsOneOf sources) xs × SelectsObjectsOf l m s xs
