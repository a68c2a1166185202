-- Laws of links, whatever the modules and the script are.
use Rattle.std.specs.Prelude.{◌≡◌, ℕ, ℤ, Bool, false, List, [], Result}
use Rattle.base65.specs.SystemErrors.{IsNoSystemError}
use Rattle.object65.specs.Form.{Form}
use Rattle.base65.specs.declared.output.OutputFile.{OutputFile}
use Rattle.script65.specs.declared.placement.Placement.{Placement}
use Rattle.script65.specs.declared.script.Script.{Script}
use Rattle.script65.specs.Faults.{is_place_system_error}
use Rattle.link65.specs.declared.fault.LinkFault.{LinkFault}
use Rattle.link65.specs.declared.fault.LinkFault.TheVariants as fault
use Rattle.link65.specs.declared.linking.Linked.{Linked}
use Rattle.link65.specs.declared.parts.ValueFault.{ValueFault}
use Rattle.link65.specs.Faults.{is_memory}
use Rattle.link65.specs.Files.{AddsAreas, IsAreaFile, RowBytes}
use Rattle.link65.specs.Links.{LinkOf}
use Rattle.link65.specs.Programs.{Module, program_of}
use Rattle.link65.specs.Values.{FormEvaluatesTo, Linkage}
use Rattle.link65.specs.Names.{HaveSameImages, is_used, with_weak}

-- *out of memory*, of the link or of placement
abbrev pub is_system_error : LinkFault → Bool
is_system_error (fault.Place f) = is_place_system_error f
is_system_error e = is_memory e

-- modules and a script have at most one outcome
abbrev pub LinkOutcomeIsUnique : Type 0
LinkOutcomeIsUnique = (output : List ℕ) (s : Script) (modules : List Module) (r q : Result Linked LinkFault) → LinkOf output s modules r → LinkOf output s modules q → r ≡ q

-- any modules and script have an outcome, which is no system error
abbrev pub LinkOutcomeExists : Type 0
LinkOutcomeExists =
    (output : List ℕ) (s : Script) (modules : List Module) →
    (r : Result Linked LinkFault) × LinkOf output s modules r × IsNoSystemError is_system_error r

-- a form has at most one result
abbrev pub LinkValueIsUnique : Type 0
LinkValueIsUnique = (l : Linkage) (owner : ℕ) (f : Form) (r q : Result ℤ ValueFault) → FormEvaluatesTo l owner f r → FormEvaluatesTo l owner f q → r ≡ q

-- any form has a result: its value, or an error, which may be that it is circular
abbrev pub LinkValueExists : Type 0
LinkValueExists =
    (l : Linkage) (owner : ℕ) (f : Form) → (r : Result ℤ ValueFault) × FormEvaluatesTo l owner f r

-- for any placement of areas and rows, and any bytes of the rows, the areas have files
abbrev pub FilesExist : Type 0
FilesExist =
    (output : List ℕ) (s : Script) (placement : Placement) (bytes : RowBytes) →
    (files : List OutputFile)
    × AddsAreas output (IsAreaFile s.rows placement bytes) 0 s.areas [] files

-- a weak name that nothing imports changes no image: links with it and without it have the same files
-- and warnings, or the same error
abbrev pub UnusedWeakNamePreservesImages : Type 0
UnusedWeakNamePreservesImages =
    (output : List ℕ) (s : Script) (name : List ℕ) (value : ℕ) (modules : List Module) →
    (r q : Result Linked LinkFault) → is_used s (program_of modules) name ≡ false →
    LinkOf output s modules r → LinkOf output (with_weak s name value) modules q → HaveSameImages r q

-- if there is a link without an unused weak name, there is one with it, with the same image
abbrev pub LinkExistsWithUnusedWeakName : Type 0
LinkExistsWithUnusedWeakName =
    (output : List ℕ) (s : Script) (name : List ℕ) (value : ℕ) (modules : List Module) →
    (r : Result Linked LinkFault) → is_used s (program_of modules) name ≡ false →
    LinkOf output s modules r →
    (q : Result Linked LinkFault) × LinkOf output (with_weak s name value) modules q × HaveSameImages r q
