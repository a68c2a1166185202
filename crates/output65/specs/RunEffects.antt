-- The results of a run: texts on two streams, and files.
use Rattle.std.specs.Prelude.{◌≡◌, ℕ, ◌<◌, ◌⊎◌, List, [], ◌∷◌, ◌++◌, length, take, slice_get, Option, Some, None, Bool, true, false, not, ◌||◌, ⊤}
use Rattle.std.specs.FinMap.{insert}
use Rattle.std.specs.Io.KnownBytes.{Keeps}
use Rattle.base65.specs.Store.{Files, RelatesFiles}
use Rattle.base65.specs.declared.store.StoreFault.{StoreFault}
use Rattle.base65.specs.declared.store.StoreFault.TheVariants.{FileError}
use Rattle.output65.specs.declared.writing.WriteError.{WriteError}
use Rattle.output65.specs.declared.outcome.Outcome.{Outcome}
use Rattle.base65.specs.declared.output.OutputFile.{OutputFile}
use Rattle.output65.specs.declared.outcome.Status.{Status}
use Rattle.output65.specs.declared.outcome.Status.TheVariants.{Failure}
use Rattle.output65.specs.declared.stream.Stream.{Stream}

-- a stream accepted all of a text, or only a first part of it
abbrev pub PrintsText : Option (List ℕ) → Option (List ℕ) → List ℕ → Bool → Type 0
PrintsText None new text true = ⊤
PrintsText None new text false = 0 < length text
PrintsText (Some old) None text whole = ⊥
PrintsText (Some old) (Some new) text true = new ≡ old ++ text
PrintsText (Some old) (Some new) text false = (k : ℕ) × (k < length text) × (new ≡ old ++ take k text)

-- the files after outputs are written, each of which replaces the file of its name
abbrev pub with_outputs : List OutputFile → Files → Files
with_outputs [] m = m
with_outputs (o ∷ os) m = with_outputs os (insert m o.name o.bytes)

-- a file has a first part of these bytes, or is unchanged
abbrev pub IsPartlyWritten : Files → List ℕ → List ℕ → Files → Type 0
IsPartlyWritten old name bytes new = (new ≡ old) ⊎ ((k : ℕ) × (new ≡ insert old name (take k bytes)))

-- the outputs before one are written, and that one in part or not at all
abbrev pub WritesPrefix : List OutputFile → ℕ → Files → Files → Type 0
WritesPrefix outputs i old new = (o : OutputFile) × (slice_get outputs i ≡ Some o) × IsPartlyWritten (with_outputs (take i outputs) old) o.name o.bytes new

-- The contents of standard output and standard error before and after a run, if they are known, and whether each stream has
-- failed.
pub record Streams : Type 0 where
  pub out_old : Option (List ℕ)
  pub out_new : Option (List ℕ)
  pub out_failed : Bool
  pub err_old : Option (List ℕ)
  pub err_new : Option (List ℕ)
  pub err_failed : Bool

abbrev pub streams : Option (List ℕ) → Option (List ℕ) → Bool → Option (List ℕ) → Option (List ℕ) → Bool → Streams
streams out_old out_new out_failed err_old err_new err_failed =
    record { out_old = out_old; out_new = out_new; out_failed = out_failed; err_old = err_old; err_new = err_new; err_failed = err_failed }

-- the contents and the failures of two streams over writers, before and after a run
abbrev pub stream_states : {W E : Type 0} → (W → Option (List ℕ)) → (E → Option (List ℕ)) → Stream W → Stream W → Stream E → Stream E → Streams
stream_states out_contents err_contents o n e f =
    streams (out_contents o.writer.now) (out_contents n.writer.now) n.has_failed (err_contents e.writer.now) (err_contents f.writer.now) f.has_failed

-- streams over writers with these contents, failed or not, have this property
abbrev pub ForStreamsOverWriters : Option (List ℕ) → Option (List ℕ) → Option (List ℕ) → Option (List ℕ) → (Streams → Type 0) → Type 0
ForStreamsOverWriters out_old out_new err_old err_new IsSo =
    (out_failed : Bool) × (err_failed : Bool) × IsSo (streams out_old out_new out_failed err_old err_new err_failed)

-- the streams are over the same writers as before
pub record HaveSameWriters {W E : Type 0} (o n : Stream W) (e f : Stream E) : Type 0 where
  pub out : n.writer.ghost_name ≡ o.writer.ghost_name
  pub err : f.writer.ghost_name ≡ e.writer.ghost_name

-- standard error prints its text if standard output accepted all of its own; otherwise nothing is written to it
abbrev pub PrintsSecondText : Bool → Streams → List ℕ → Type 0
PrintsSecondText false io err = PrintsText io.err_old io.err_new err (not io.err_failed)
PrintsSecondText true io err = Keeps io.err_old io.err_new × (io.err_failed ≡ false)

-- Two streams print their texts, standard output first: each accepts all of its text, or it has failed, and nothing more is
-- printed.
abbrev pub PrintsBothTexts : Streams → List ℕ → List ℕ → Type 0
PrintsBothTexts io out err = PrintsText io.out_old io.out_new out (not io.out_failed) × PrintsSecondText io.out_failed io err

-- Both streams accepted all of their texts, and then standard error accepted a message, or only a first part if the stream
-- failed.
pub record PrintsMessage (io : Streams) (out err fault : List ℕ) : Type 0 where
  -- standard error after its own text
  pub err_mid : Option (List ℕ)
  pub printed : PrintsBothTexts (streams io.out_old io.out_new io.out_failed io.err_old err_mid false) out err
  pub accepted : io.out_failed ≡ false
  pub following : PrintsText err_mid io.err_new fault (not io.err_failed)

abbrev pub is_file_error : StoreFault → Bool
is_file_error FileError = true
is_file_error _ = false

-- whether an error of writing is a failure of the store
abbrev pub is_failure : WriteError → Bool
is_failure u = is_file_error u.fault

-- whether both streams accepted all of their texts
abbrev pub has_accepted_both : Streams → Bool
has_accepted_both io = not (io.out_failed || io.err_failed)

-- if both texts were accepted, the files are written, and the status is the outcome's; otherwise no file is written, and the
-- status is failure
abbrev pub FilesAfterRun : Outcome → Files → Option Files → Status → Bool → Type 0
FilesAfterRun o old new status true = (new ≡ Some (with_outputs o.outputs old)) × (status ≡ o.status)
FilesAfterRun o old new status false = (new ≡ Some old) × (status ≡ Failure)

-- An outcome is committed: its texts are printed, standard output's first, and then its files are written.
pub record CommitsOutcome (o : Outcome) (old : Files) (new : Option Files) (io : Streams) (status : Status) : Type 0 where
  pub printed : PrintsBothTexts io o.out o.err
  pub file_effects : FilesAfterRun o old new status (has_accepted_both io)

-- Memory ran out while an outcome's files were written: the streams accepted all of its texts, and then the message *out of
-- memory*, or a first part of it.
pub record HasMemoryFailure (o : Outcome) (memory : List ℕ) (old : Files) (new : Option Files) (io : Streams) (status : Status) : Type 0 where
  pub printed : PrintsMessage io o.out o.err memory
  pub index : ℕ
  pub file_effects : RelatesFiles (WritesPrefix o.outputs index) (Some old) new
  pub failed : status ≡ Failure
