-- Files that ca65 wrote from sources, alone and in libraries, in either version.
use Rattle.std.specs.Prelude.{◌≡◌, ℕ, ◌≤◌, ◌⊎◌, List, length, slice_get, Some, Ok}
use Rattle.std.specs.FinMap.{get}
use Rattle.std.specs.List.{AllByRecursion}
use Rattle.base65.specs.Store.{Files}
use Rattle.object65.specs.declared.object.Object.{Object}
use Rattle.object65.specs.Objects.{ObjectFits}
use Rattle.object65.specs.Reading.{file_limit}
use Rattle.object65.specs.Spelling.{object_bytes}
use Rattle.object65.specs.Versions.{IsEitherVersion}
use Rattle.library65.specs.Spelling.{IsLibrary, Member}
use Rattle.semantics65.specs.Module as asm
use Rattle.sources65.specs.Reading.{IsOutcome}
use Rattle.tools65.specs.OneProgram.{Source}

-- ca65 wrote these bytes from a source: the one spelling of its object, or of version 1 of this object, which names no files: its
-- locations have only lines
pub record IsObjectFileOf (x : Source) (bytes : List ℕ) : Type 0 where
  pub outcome : asm.Outcome
  pub assembled : IsOutcome x.files x.job outcome
  pub assembled_object : Object
  pub result : outcome.result ≡ Ok assembled_object
  pub object : Object
  pub version : IsEitherVersion assembled_object object
  pub spelled : bytes ≡ object_bytes object
  -- its numbers fit their types, and the file is within the file size limit
  pub numbers : ObjectFits object
  pub limit : length bytes ≤ file_limit

abbrev pub IsOneOf : List Source → Source → Type 0
IsOneOf xs x = (i : ℕ) × (slice_get xs i ≡ Some x)

-- an object file that ca65 wrote from one of these sources
abbrev pub IsSourceObject : List Source → List ℕ → Type 0
IsSourceObject sources bytes = (x : Source) × IsOneOf sources x × IsObjectFileOf x bytes

-- a library, each member of which ca65 wrote from one of these sources (`p.1` is the bytes of a member `p`)
abbrev pub IsSourceLibrary : List Source → List ℕ → Type 0
IsSourceLibrary sources bytes =
    (ms : List Member) × IsLibrary bytes ms × AllByRecursion (λ p. IsSourceObject sources p.1) ms

-- the file of a name is an object file or a library of this kind
abbrev pub IsSourceInput : List Source → Files → List ℕ → Type 0
IsSourceInput sources m name =
    (bytes : List ℕ) × (get m name ≡ Some bytes) × (IsSourceObject sources bytes ⊎ IsSourceLibrary sources bytes)
