-- The effects of a run if a call of the store fails while files are written.
use Rattle.std.specs.Prelude.{◌≡◌, ℕ, List, ◌∷◌, [], codes, slice_get, Option, Some}
use Rattle.base65.specs.Store.{Files, FailedOn, RelatesFiles, LastFailure}
use Rattle.base65.specs.declared.output.OutputFile.{OutputFile}
use Rattle.cli65.specs.Messages.{concat_texts}
use Rattle.output65.specs.RunEffects.{PrintsMessage, WritesPrefix, Streams}
use Rattle.output65.specs.declared.outcome.Outcome.{Outcome}
use Rattle.output65.specs.declared.outcome.Status.{Status}
use Rattle.output65.specs.declared.outcome.Status.TheVariants.{Failure}

-- The message of a file that can't be written: `name: Error: file error`.
abbrev pub file_error_line : List ℕ → List ℕ
file_error_line name = concat_texts (name ∷ codes ": Error: file error\n" ∷ [])

-- A call failed while an outcome's files were written. The streams accepted all of its texts; the outputs
-- before one are written, that one in part or not at all, and no later one; the failed call requested that
-- file; and standard error accepted the message after the texts, all of it or a first part.
pub record HasWriteFailure (o : Outcome) (old : Files) (new : Option Files) (last_failure : LastFailure) (io : Streams) (status : Status) : Type 0 where
  pub index : ℕ
  pub file_effects : RelatesFiles (WritesPrefix o.outputs index) (Some old) new
  pub output : OutputFile
  pub at : slice_get o.outputs index ≡ Some output
  pub requested : FailedOn last_failure output.name
  pub printed : PrintsMessage io o.out o.err (file_error_line output.name)
  pub failed : status ≡ Failure
