-- The frames of store calls in sequence.
use Rattle.std.proofs.Common.{◌≡◌, ◌∙◌, ℕ, List, Option, Result, Ok, Err, ap, sym, arith}
use Rattle.std.proofs.lemmas.Grind.{common_steps}
use Rattle.std.specs.Prelude.{IsErrOf, None, Some, IfSome}
use Rattle.std.specs.FinMap.{get}
use Rattle.base65.specs.Store.{LastFailure, Files, HasOnlyBytes}
use Rattle.object65.specs.Reading.{StoreFrame}
use Rattle.object65.specs.Record.{Refines, is_memory}
use Rattle.object65.specs.Scanning.{State, object_of_state}
use Rattle.object65.specs.declared.fault.ObjectFault.{ObjectFault}
use Rattle.object65.specs.declared.fault.ObjectFault.TheVariants.{FileError}
use Rattle.object65.specs.declared.object.Object.{Object}
use Rattle.object65.proofs.Records.{kept_count}

-- if the file consists of bytes after the first call, it does so for any result of the second
pub still_bytes : {T U : Type 0} (known : Option Files) (name : List ℕ) (x : T) (r : Result U ObjectFault) → IfSome known (λ m. HasOnlyBytes {E = ObjectFault} (get m name) (Ok x)) → IfSome known (λ m. HasOnlyBytes (get m name) r)
still_bytes None name x r h = tt
still_bytes (Some m) name x (Ok y) h = h
still_bytes (Some m) name x (Err e) h = tt

same_fault : {T U : Type 0} {e f : ObjectFault} → IsErrOf {T = T} (Err e) f → IsErrOf {T = U} (Err e) f
same_fault {e = e} {f = f} h = let is : e ≡ f = cc h in ap Err is

module _ {X : Type 0} (files_of : X → Option Files) (failures_of : X → ℕ) (last_failure_of : X → LastFailure) (name : List ℕ) where
  -- the frame of a success is the frame of a success of another type
  pub answers_on : {T U : Type 0} (old new : X) (x : T) (y : U) → StoreFrame {E = ObjectFault} files_of failures_of last_failure_of FileError name old new (Ok x) → StoreFrame {E = ObjectFault} files_of failures_of last_failure_of FileError name old new (Ok y)
  answers_on old new x y left = record { files = left.files; count = record { monotone = left.count.monotone; reported = λ less. cc (left.count.reported less); caused = λ h. cc h }; last_failure = λ h. cc h }

  pub refuses_on : {T U : Type 0} (old new : X) (e : ObjectFault) → StoreFrame {T = T} files_of failures_of last_failure_of FileError name old new (Err e) → StoreFrame {T = U} files_of failures_of last_failure_of FileError name old new (Err e)
  refuses_on {T = T} {U = U} old new e left = record { files = left.files; count = record { monotone = left.count.monotone; reported = λ less. same_fault {T = T} {U = U} (left.count.reported less); caused = λ h. left.count.caused (same_fault {T = U} {U = T} h) }; last_failure = λ h. left.last_failure (same_fault {T = U} {U = T} h) }

  -- the frame after calls that didn't change the store
  pub after_same : {T : Type 0} (old mid new : X) (r : Result T ObjectFault) → files_of mid ≡ files_of old → failures_of mid ≡ failures_of old → StoreFrame files_of failures_of last_failure_of FileError name mid new r → StoreFrame files_of failures_of last_failure_of FileError name old new r
  after_same old mid new r files count left = record { files = left.files ∙ files; count = rw (sym count) left.count; last_failure = left.last_failure }

  -- the frame after a successful call
  pub after_answer : {T U : Type 0} (old mid new : X) (x : T) (r : Result U ObjectFault) → StoreFrame {E = ObjectFault} files_of failures_of last_failure_of FileError name old mid (Ok x) → StoreFrame files_of failures_of last_failure_of FileError name mid new r → StoreFrame files_of failures_of last_failure_of FileError name old new r
  after_answer old mid new x r first left = after_same old mid new r first.files (kept_count _ _ x first.count) left

  -- the frame of an error that isn't `FileError`
  pub untouched : {T U : Type 0} (old new : X) (x : T) (r : Result U ObjectFault) → (IsErrOf r FileError → ⊥) → StoreFrame {E = ObjectFault} files_of failures_of last_failure_of FileError name old new (Ok x) → StoreFrame files_of failures_of last_failure_of FileError name old new r
  untouched old new x r other left =
      let same = kept_count _ _ x left.count in
      record {
        files = left.files;
        count = record { monotone = left.count.monotone; reported = λ less. absurd (omega (arith, same, less)); caused = λ h. absurd (other h) };
        last_failure = λ h. absurd (other h);
      }

-- finishing has no store error
pub finish_not_stored : (s : State) (r : Result Object ObjectFault) → Refines is_memory (λ o. o) r (object_of_state s) → IsErrOf r FileError → ⊥
finish_not_stored s (Ok o) given h = cc h
finish_not_stored s (Err e) given h = let is : e ≡ FileError = cc h in refused (rw is at given) where
  refused : Refines {X = Object} {Y = Object} is_memory (λ o. o) (Err FileError) (object_of_state s) → ⊥
  refused is = grind (arith, common_steps)
