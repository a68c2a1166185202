-- The models of a linker's fields.
use Rattle.std.specs.Prelude.{◌≡◌, ℕ, List, [], ◌∷◌, ◌++◌, drop, map, Bool, true, ◌&&◌, ◌||◌, Ok, Err, Option, Some, None, Result, if◌then◌else◌}
use Rattle.std.specs.Option.{option_map}
use Rattle.object65.specs.declared.object.Object.{Object}
use Rattle.object65.specs.Record.{RawRecord}
use Rattle.object65.specs.Scanning.{Outline, outline_of, IsReached, State, state_after_record, object_of_state}
use Rattle.library65.specs.Libraries.{are_same}
use Rattle.link65.specs.declared.fault.LinkFault.{LinkFault}
use Rattle.link65.specs.declared.fault.LinkFault.TheVariants.{IndexDisagrees}
use Rattle.base65.specs.Outcome.{◌>>=◌}
use Rattle.link65.specs.Names.{is_among}
use Rattle.link65.specs.Representation.{names_or_duplicate, RefinesThen, OpenModuleView, as_link, module_of}
use Rattle.link65.specs.Growing.{PartialProgram, without_open_module, partial_program_of}
use Rattle.link65.specs.Programs.{Program, with_module}
use Rattle.link65.specs.declared.module_reader.IndexedNames.{IndexedNames}
use Rattle.link65.specs.declared.module_reader.OpenModule.{OpenModule}

abbrev pub opened_in : Option OpenModule → Option OpenModuleView
opened_in o = option_map (λ m. record { name = m.name; scan = m.scan; first_export = m.first_export; listed = m.listed }) o

-- names added to others: each that isn't defined, once, at its first occurrence
abbrev pub missing_after : List (List ℕ) → List (List ℕ) → List (List ℕ) → List (List ℕ)
missing_after provided before [] = before
missing_after provided before (name ∷ names) =
    missing_after provided (if is_among provided name || is_among before name then before else before ++ name ∷ []) names

-- the part of a module that has been read follows a program
pub record RepresentsOpenModule (p : Program) (s : State) (g : PartialProgram) (o : Outline) : Type 0 where
  pub partial : g ≡ partial_program_of p s
  pub scan : o ≡ outline_of s
  pub reached : IsReached s

-- a record is added to those of the open module
abbrev pub GrowsProgram : RawRecord → PartialProgram → PartialProgram → Outline → Outline → Result (Unit {0}) LinkFault → Type 0
GrowsProgram e old new o n r =
    (p : Program) (s : State) → RepresentsOpenModule p s old o → RefinesThen (λ t. RepresentsOpenModule p t new n) r (as_link (state_after_record s e))

-- the names of the exports from an index on
abbrev pub exports_from : ℕ → PartialProgram → List (List ℕ)
exports_from first g = map (λ e. e.name) (drop first g.program.exports)

-- the names of exports and imports are those listed, if any are
abbrev pub are_listed : Option IndexedNames → List (List ℕ) → List (List ℕ) → Bool
are_listed None exports imports = true
are_listed (Some l) exports imports = are_same l.exports exports && are_same l.imports imports

abbrev pub matching_object : Option IndexedNames → List (List ℕ) → List (List ℕ) → Object → Result Object LinkFault
matching_object l exports imports object = if are_listed l exports imports then Ok object else Err IndexDisagrees

-- the open module, which has this name, is added to the program if its names agree with the index entry and
-- none of its exports is defined twice
abbrev pub ClosesModule : PartialProgram → PartialProgram → List (List ℕ) → List (List ℕ) → OpenModule → Result (Unit {0}) LinkFault → Type 0
ClosesModule old new before provided m r =
    (p : Program) (s : State) → RepresentsOpenModule p s old m.scan
    → RefinesThen (λ object. (new ≡ without_open_module (with_module p (module_of m.name object))) × (names_or_duplicate before (exports_from m.first_export old) ≡ Ok provided)) r
    (as_link (object_of_state s) >>= matching_object m.listed (exports_from m.first_export old) old.imports >>= (λ object. names_or_duplicate before (exports_from m.first_export old) >>= (λ u. Ok object)))
