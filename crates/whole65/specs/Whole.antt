-- The image of several modules as one program. A row is an entry of SEGMENTS in the linker script: a segment's areas,
-- alignment and fill value. An area is an entry of MEMORY.
use Rattle.std.specs.Prelude.{◌≡◌, ◌≢◌, ℕ, suc, ℤ, pos, false, List, [], ◌∷◌, None, Ok, ◌++◌, ⊤}
use Rattle.std.specs.List.{flat_map, AllByRecursion}
use Rattle.syntax65.specs.Trees.{name}
use Rattle.base65.specs.declared.action.Action.{Action}
use Rattle.base65.specs.declared.action.Action.TheVariants as action
use Rattle.script65.specs.Placing.{place_of}
use Rattle.script65.specs.declared.placement.Placement.{Placement}
use Rattle.script65.specs.declared.script.SegmentRow.{SegmentRow}
use Rattle.script65.specs.declared.script.Script.{Script}
use Rattle.base65.specs.declared.output.OutputFile.{OutputFile}
use Rattle.link65.specs.Files.{AddsAreas, IsAreaFile, RowBytes}
use Rattle.link65.specs.Names.{first_duplicate, script_names, symbol_imports}
use Rattle.ast65.specs.declared.language.Statement.{Statement}
use Rattle.ast65.specs.declared.language.Statement.TheVariants.{Assert}
use Rattle.semantics65.specs.Layout.{Layout}
use Rattle.whole65.specs.Contents.{EncodesSegmentItems}
use Rattle.whole65.specs.Modules.{exports_of, forced_imports_of}
use Rattle.whole65.specs.Programs.{placed_program}
use Rattle.whole65.specs.Segments.{ModuleStatement, segment_items, module_statements_after, needs_of}
use Rattle.whole65.specs.Values.{Program, Value, by_nobody}

-- ---- Names and expressions that must have a value even if they aren't used.

-- A name that a module exports has a value in the module's global scope. (`name false (x ∷ [])` is the plain name `x`,
-- without a leading `::`.)
abbrev pub HasExportValue : Program → ℕ → List ℕ → Type 0
HasExportValue p owner x = (v : ℤ) × Value p owner (p.global_index owner) (name false (x ∷ [])) v

-- an error assertion has a value other than 0, a warning any value
abbrev pub AssertionHolds : Action → ℤ → Type 0
AssertionHolds action.Error v = v ≢ pos 0
AssertionHolds action.Warning v = ⊤

-- the assertion of a statement has a value and holds; any other statement satisfies this
abbrev pub SatisfiesAssertion : Program → ModuleStatement → Type 0
SatisfiesAssertion p x = go x.laid.stated
  where
    go : Statement → Type 0
    go (Assert e act words) = (v : ℤ) × Value p x.owner x.index e v × AssertionHolds act v
    go _ = ⊤

-- a module or the script provides the name
abbrev pub IsProvided : Program → List ℕ → Type 0
IsProvided p x = p.provider x ≢ by_nobody

-- the program satisfies the declarations of a module: forced imports are provided, exports have values, assertions hold
pub record SatisfiesDeclarations (p : Program) (owner : ℕ) (y : Layout) : Type 0 where
  pub forced : AllByRecursion (IsProvided p) (forced_imports_of y)
  pub exports : AllByRecursion (HasExportValue p owner) (exports_of y)
  pub assertions : AllByRecursion (SatisfiesAssertion p) (module_statements_after owner [] y.laid)

-- the same for these modules; the first has the index `owner`
abbrev pub SatisfiesAllDeclarations : Program → ℕ → List Layout → Type 0
SatisfiesAllDeclarations p owner [] = ⊤
SatisfiesAllDeclarations p owner (y ∷ ys) = SatisfiesDeclarations p owner y × SatisfiesAllDeclarations p (suc owner) ys

-- ---- The image.

-- the names that the script provides, weak names aside, and then those that the modules export
abbrev pub provided_names : Script → List Layout → List (List ℕ)
provided_names s ys = script_names s ++ flat_map exports_of ys

-- the bytes of a row's segment
abbrev pub EncodesRow : Program → List Layout → RowBytes → SegmentRow → Type 0
EncodesRow p ys bytes r = EncodesSegmentItems p r.fill_value 0 (segment_items ys r.name) (bytes r)

-- the image of a placed program
pub record IsPlacedImage (output_name : List ℕ) (s : Script) (ys : List Layout) (placement : Placement) (p : Program) (files : List OutputFile) : Type 0 where
  pub imports : AllByRecursion (IsProvided p) (symbol_imports s.symbols)
  pub declarations : SatisfiesAllDeclarations p 0 ys
  -- the bytes of each row, whether or not they are in a file
  pub bytes : RowBytes
  pub rows : AllByRecursion (EncodesRow p ys bytes) s.rows
  -- each area adds its rows' bytes, in the script's order, to the file of its `file` attribute, or else to the output
  pub image : AddsAreas output_name (IsAreaFile s.rows placement bytes) 0 s.areas [] files

-- Evaluated as one program, the modules have this image: a list of files by name. No name may be provided twice.
pub record IsWholeProgramImage (output_name : List ℕ) (s : Script) (ys : List Layout) (files : List OutputFile) : Type 0 where
  pub no_repetition : first_duplicate [] (provided_names s ys) ≡ None
  pub placement : Placement
  pub placed : place_of s (needs_of ys) ≡ Ok placement
  pub image : IsPlacedImage output_name s ys placement (placed_program s placement ys) files

-- ---- The conditions of an image, each for all modules.

-- Definitions for proofs only: `IsWholeProgramImage` doesn't depend on them.

-- the exports of these modules have values; the first module has the index `owner`
abbrev pub HaveExportValues : Program → ℕ → List Layout → Type 0
HaveExportValues p owner [] = ⊤
HaveExportValues p owner (y ∷ ys) = AllByRecursion (HasExportValue p owner) (exports_of y) × HaveExportValues p (suc owner) ys

-- the assertions of these modules have values and hold; the first module has the index `owner`
abbrev pub PassAssertions : Program → ℕ → List Layout → Type 0
PassAssertions p owner [] = ⊤
PassAssertions p owner (y ∷ ys) = AllByRecursion (SatisfiesAssertion p) (module_statements_after owner [] y.laid) × PassAssertions p (suc owner) ys

-- the names that modules import even if they don't use them are provided
abbrev pub HaveForcedImports : Program → List Layout → Type 0
HaveForcedImports p [] = ⊤
HaveForcedImports p (y ∷ ys) = AllByRecursion (IsProvided p) (forced_imports_of y) × HaveForcedImports p ys

-- the rows of a placed program have bytes, and its memory areas give these files
pub record HasRowsAndFiles (output_name : List ℕ) (s : Script) (ys : List Layout) (placement : Placement) (p : Program) (files : List OutputFile) : Type 0 where
  pub bytes : RowBytes
  pub rows : AllByRecursion (EncodesRow p ys bytes) s.rows
  pub image : AddsAreas output_name (IsAreaFile s.rows placement bytes) 0 s.areas [] files
