-- An error that is no failure of the store, after calls that didn't fail.
use Rattle.std.proofs.lemmas.Grind.{common_steps}
use Rattle.std.proofs.Common.{◌≡◌, ℕ, Bool, true, false, List, Err, Ok, Result, ap, arith, length, nat_lt, refl, sym, ◌∙◌}
use Rattle.std.specs.Prelude.{IfErr, IsErrAnd, if◌then◌else◌}
use Rattle.base65.specs.Outcome.{RefinesErr}
use Rattle.base65.specs.Store.{LastFailure, PropagatesIoErrors}
use Rattle.object65.specs.Reading.{file_limit}
use Rattle.library65.specs.declared.fault.LibraryFault.{LibraryFault}
use Rattle.library65.specs.declared.fault.LibraryFault.TheVariants.{BadIndex, FileError, OutOfMemory}
use Rattle.library65.specs.Fault.{is_memory as is_library_memory}
use Rattle.library65.specs.Libraries.{bytes_within_limit, library_bytes}
use Rattle.library65.specs.Spelling.{Member}
use Rattle.cli65.specs.Line.{ArchiveView}
use Rattle.ar65.specs.declared.fault.ArchiveFault.{ArchiveFault}
use Rattle.ar65.specs.declared.fault.ArchiveFault.TheVariants.{Library}
use Rattle.ar65.specs.Faults.{is_failure}
use Rattle.ar65.specs.Naming.{NamesCommandFailure}

abbrev pub IsQuiet : {T : Type 0} → Result T ArchiveFault → Type 0
IsQuiet r = IfErr r (λ e. is_failure e ≡ false)

no_failure : (f : LibraryFault) → (f ≡ FileError → ⊥) → is_failure (Library f) ≡ false
no_failure FileError other = absurd (other refl)
no_failure _ other = refl

-- an error of the library other than a failure of the store is passed on
pub quiet : {T : Type 0} (f : LibraryFault) (r : Result T ArchiveFault) → (f ≡ FileError → ⊥)
    → IsErrAnd r (λ e. e ≡ Library f) → IsQuiet r
quiet f (Ok x) other is = tt
quiet f (Err e) other is = ap is_failure is ∙ no_failure f other

pub memory_quiet : {T : Type 0} (r : Result T ArchiveFault)
    → IsErrAnd r (λ e. e ≡ Library OutOfMemory) → IsQuiet r
memory_quiet (Ok x) is = tt
memory_quiet (Err e) is = ap is_failure is

-- a call that returned a value didn't fail
pub kept_errors : {T : Type 0} {old new : ℕ} (x : T)
    → PropagatesIoErrors {E = ArchiveFault} is_failure old new (Ok x) → new ≡ old
kept_errors x passes = grind (arith, common_steps)

-- a library that is too long
pub too_long : (ms : List Member) (f : LibraryFault)
    → RefinesErr is_library_memory f (bytes_within_limit ms) → f ≡ FileError → ⊥
too_long ms f refused is = by (nat_lt file_limit (length (library_bytes ms))) f is refused
  where
    by : (long : Bool) (e : LibraryFault) → e ≡ FileError
        → RefinesErr is_library_memory e (if long then Err BadIndex else Ok (library_bytes ms)) → ⊥
    by true OutOfMemory same h = cc
    by false OutOfMemory same h = cc
    by true FileError same h = cc
    by false FileError same h = cc
    by long _ same h = cc

pub quiet_count : {T : Type 0} {old new : ℕ} (r : Result T ArchiveFault) → IsQuiet r → new ≡ old
    → PropagatesIoErrors is_failure old new r
quiet_count (Ok x) is_quiet same = record { monotone = omega arith; reported = λ less. absurd (omega arith); caused = tt }
quiet_count (Err e) is_quiet same = record {
  monotone = omega arith;
  reported = λ less. absurd (omega arith);
  caused = λ fails. (let both : true ≡ false = sym fails ∙ is_quiet in absurd cc);
}

pub quiet_named : {T : Type 0} (last_failure : LastFailure) (a : ArchiveView) (r : Result T ArchiveFault)
    → IsQuiet r → IfErr r (NamesCommandFailure last_failure a)
quiet_named last_failure a (Ok x) is_quiet = tt
quiet_named last_failure a (Err e) is_quiet = λ fails. (let both : true ≡ false = sym fails ∙ is_quiet in absurd cc)
