-- An outcome's files aren't all written if a call of the store fails.
use Rattle.std.proofs.Common.{◌≡◌, ℕ, ◌<◌, true, false, Option, Some, None, refl, slice_get}
use Rattle.std.specs.Prelude.{IfSome}
use Rattle.base65.specs.Store.{Files, FailedOn, RelatesFiles, LastFailure}
use Rattle.base65.specs.declared.store.StoreFault.{StoreFault}
use Rattle.base65.specs.declared.store.StoreFault.TheVariants.{OutOfMemory, FileNotFound, FileError}
use Rattle.base65.specs.declared.output.OutputFile.{OutputFile}
use Rattle.output65.specs.RunEffects.{PrintsMessage, WritesPrefix, Streams, is_failure as is_unwritten_failure}
use Rattle.output65.specs.WriteFailures.{HasWriteFailure, file_error_line}
use Rattle.output65.specs.declared.outcome.Outcome.{Outcome}
use Rattle.output65.specs.declared.outcome.Status.{Status}
use Rattle.output65.specs.declared.outcome.Status.TheVariants.{Failure}
use Rattle.output65.specs.declared.writing.WriteError.{WriteError}

file_error : (u : WriteError) → is_unwritten_failure u ≡ true → u.fault ≡ FileError
file_error u = go u.fault refl
  where
    go : (f : StoreFault) → u.fault ≡ f → is_unwritten_failure u ≡ true → u.fault ≡ FileError
    go FileError e h = e
    go OutOfMemory e h = let no : is_unwritten_failure u ≡ false = rw e refl in cc
    go FileNotFound e h = let no : is_unwritten_failure u ≡ false = rw e refl in cc

-- a file isn't written because a call of the store failed
pub stops_writing : (known new : Option Files) (fm fn : ℕ) (o : Outcome) (u : WriteError) (last_failure : LastFailure) (io : Streams) (status : Status) → status ≡ Failure → (fm < fn → is_unwritten_failure u ≡ true) → RelatesFiles (WritesPrefix o.outputs u.index) known new → ((file : OutputFile) → u.fault ≡ FileError → slice_get o.outputs u.index ≡ Some file → PrintsMessage io o.out o.err (file_error_line file.name)) → ((file : OutputFile) → u.fault ≡ FileError → slice_get o.outputs u.index ≡ Some file → FailedOn last_failure file.name) → IfSome known (λ m. fm < fn → HasWriteFailure o m new last_failure io status)
stops_writing None new fm fn o u last_failure io status failed told left printed asked = tt
stops_writing (Some m) None fm fn o u last_failure io status failed told left printed asked = absurd left
stops_writing (Some m) (Some n) fm fn o u last_failure io status failed told left printed asked = λ rose. record {
  index = u.index;
  file_effects = left;
  output = left.0;
  at = left.1;
  requested = asked left.0 (file_error u (told rose)) left.1;
  printed = printed left.0 (file_error u (told rose)) left.1;
  failed = failed;
}
