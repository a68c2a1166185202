-- From a source to its object: what is assembled, and files that could not be read.
use Rattle.std.specs.Prelude.{◌≡◌, ℕ, List, length, Option, None, Result, Err, Bool, false, [], map, Ok, unwrap_or, IfSome}
use Rattle.std.specs.FinMap.{get}
use Rattle.base65.specs.Store.{LastFailure, Files, FailedOn, FailedWithin, bytes_in}
use Rattle.expand65.specs.Expansion.{file_named}
use Rattle.ast65.specs.declared.fault.AsmFault.{AsmFault}
use Rattle.semantics65.specs.Module.{LocatedFault, Outcome}
use Rattle.sources65.specs.Reading.{Define, Job}
use Rattle.base65.specs.Outcome.{RefinesProp}
use Rattle.object65.specs.declared.object.Object.{Object}
use Rattle.ast65.specs.Faults.{is_failure, is_out_of_memory, is_system_error}
use Rattle.asm65.specs.declared.assembling.AsmJob.{AsmJob}
use Rattle.asm65.specs.declared.assembling.Assembly.{Assembly}
use Rattle.asm65.specs.declared.assembling.Define as code
use Rattle.asm65.specs.declared.texts.Diagnostic.{Diagnostic}

-- ---- A statement whose file can't be read.

-- The answer if the file of the last failed call weren't there. That call read at an offset not past the file's end, if
-- the store tells its files.
pub record AnswersWithoutFile {S : Type 0} (o : Option Files) (last_failure : LastFailure) (IsAnswer : Files → S → Result S AsmFault → Type 0)
    (t : S) (r : Result S AsmFault) : Type 0 where
  pub name : List ℕ
  pub requested : FailedOn last_failure name
  pub inside : IfSome o (λ m. FailedWithin last_failure name 0 (length (bytes_in (get m name))))
  pub answered : (m : Files) → file_named m name ≡ None → IsAnswer m t r

-- ---- The result of assembling a source.

abbrev pub define_of : code.Define → Define
define_of d = (d.name.now, d.value)

-- the job that the arguments of `assemble` state
abbrev pub job_of : AsmJob → Job
job_of job = record {
  source = job.source.now;
  include = job.include.now;
  defines = map define_of job.defines.now;
}

-- an error with its location; the file is empty if the diagnostic has none
abbrev pub located_fault : Diagnostic → LocatedFault
located_fault e = record {
  place = record { file = unwrap_or e.file []; line = e.line };
  fault = e.fault;
}

abbrev pub located_result : Result Object Diagnostic → Result Object LocatedFault
located_result (Ok o) = Ok o
located_result (Err e) = Err (located_fault e)

abbrev pub is_diagnostic_system_error : Diagnostic → Bool
is_diagnostic_system_error e = is_system_error e.fault

abbrev pub is_store_failure : Diagnostic → Bool
is_store_failure e = is_failure e.fault

-- a result, with the printed texts
abbrev pub assembly_outcome : Assembly → Result Object Diagnostic → Outcome
assembly_outcome a r = record { result = located_result r; out = a.out; err = a.err }

-- an assembly answers an outcome, unless memory ran out or the store failed
abbrev pub RefinesOutcome : Outcome → Assembly → Type 0
RefinesOutcome o a = RefinesProp is_diagnostic_system_error (λ r. assembly_outcome a r ≡ o) a.result

-- memory ran out, or the store failed
abbrev pub is_system_error_result : Result Object Diagnostic → Bool
is_system_error_result (Ok o) = false
is_system_error_result (Err e) = is_diagnostic_system_error e

-- memory ran out
abbrev pub is_memory_error_result : Result Object Diagnostic → Bool
is_memory_error_result (Ok o) = false
is_memory_error_result (Err e) = is_out_of_memory e.fault
