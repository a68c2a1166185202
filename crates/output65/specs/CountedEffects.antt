-- The effects of a run, given the number of bytes that each stream accepted, and the number of bytes that are written of the
-- output at which the run stopped. The contents of the streams' writers are known.
use Rattle.std.specs.Prelude.{ℕ, ◌==◌, ◌&&◌, if◌then◌else◌, List, ◌++◌, length, take, Option, Some, None, true, false, not}
use Rattle.std.specs.FinMap.{insert}
use Rattle.base65.specs.Store.{Files}
use Rattle.base65.specs.declared.output.OutputFile.{OutputFile}
use Rattle.output65.specs.declared.outcome.Outcome.{Outcome}
use Rattle.output65.specs.declared.outcome.Status.{Status}
use Rattle.output65.specs.declared.outcome.Status.TheVariants.{Failure}
use Rattle.output65.specs.RunEffects.{Streams, with_outputs, streams}

-- Standard output accepted i bytes of its text, and standard error j bytes of its own; none unless standard output accepted
-- all.
abbrev pub streams_after : List ℕ → List ℕ → List ℕ → List ℕ → ℕ → ℕ → Streams
streams_after out_old err_old out err i j =
    if i == length out
    then streams (Some out_old) (Some (out_old ++ out)) false (Some err_old) (Some (err_old ++ take j err)) (not (j == length err))
    else streams (Some out_old) (Some (out_old ++ take i out)) true (Some err_old) (Some err_old) false

-- both streams accepted all of their texts, and then standard error accepted k bytes of a message
abbrev pub streams_after_message : List ℕ → List ℕ → List ℕ → List ℕ → List ℕ → ℕ → Streams
streams_after_message out_old err_old out err fault k =
    streams (Some out_old) (Some (out_old ++ out)) false (Some err_old) (Some ((err_old ++ err) ++ take k fault)) (not (k == length fault))

-- the files and the status of a run, given the numbers of bytes that the streams accepted
abbrev pub files_after : Outcome → Files → ℕ → ℕ → Files
files_after o old i j = if (i == length o.out) && (j == length o.err) then with_outputs o.outputs old else old

abbrev pub status_after : Outcome → ℕ → ℕ → Status
status_after o i j = if (i == length o.out) && (j == length o.err) then o.status else Failure

-- the files if the outputs before one are written, and of that one its first bytes, or nothing
abbrev pub files_with_part : List OutputFile → ℕ → OutputFile → Option ℕ → Files → Files
files_with_part outputs index output None old = with_outputs (take index outputs) old
files_with_part outputs index output (Some n) old = insert (with_outputs (take index outputs) old) output.name (take n output.bytes)
