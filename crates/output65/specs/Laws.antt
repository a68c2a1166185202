-- The effects of a run exist and are unique, given how much each stream accepted and how each call of the store ended.
use Rattle.std.specs.Prelude.{◌≡◌, ℕ, ◌==◌, ◌≤◌, ◌↔◌, Bool, List, ◌++◌, length, take, slice_get, Option, Some, None, ⊤}
use Rattle.base65.specs.Store.{LastFailure, FailedCall, Files, FailedOn}
use Rattle.base65.specs.declared.output.OutputFile.{OutputFile}
use Rattle.output65.specs.declared.outcome.Outcome.{Outcome}
use Rattle.output65.specs.declared.outcome.Status.{Status}
use Rattle.output65.specs.declared.outcome.Status.TheVariants.{Failure}
use Rattle.output65.specs.RunEffects.{ForStreamsOverWriters, CommitsOutcome, PrintsText, PrintsMessage, PrintsBothTexts, HasMemoryFailure, Streams}
use Rattle.output65.specs.CountedEffects.{files_after, streams_after, streams_after_message, status_after, files_with_part}
use Rattle.output65.specs.WriteFailures.{HasWriteFailure, file_error_line}

-- the contents of both streams before a run
abbrev pub HasInitialContents : Streams → List ℕ → List ℕ → Type 0
HasInitialContents io a b = (io.out_old ≡ Some a) × (io.err_old ≡ Some b)

-- A stream that prints a text accepts some number of its bytes, and reports success if and only if it accepts all.
abbrev pub PrintEffectsAreExact : Type 0
PrintEffectsAreExact =
    (old text : List ℕ) (new : Option (List ℕ)) (whole : Bool) →
    PrintsText (Some old) new text whole
    ↔ ((k : ℕ) × (k ≤ length text) × (new ≡ Some (old ++ take k text)) × (whole ≡ (k == length text)))

-- The effects of printing two texts: each stream accepted some number of bytes of its own.
abbrev pub PrintBothEffectsAreExact : Type 0
PrintBothEffectsAreExact =
    (io : Streams) (a b out err : List ℕ) → HasInitialContents io a b →
    PrintsBothTexts io out err
    ↔ ((i : ℕ) × (j : ℕ) × (i ≤ length out) × (j ≤ length err) × (io ≡ streams_after a b out err i j))

-- The effects of committing an outcome: each stream accepted some number of bytes of its text, and the files and the status
-- are those for these numbers.
abbrev pub CommitEffectsAreExact : Type 0
CommitEffectsAreExact =
    (o : Outcome) (old : Files) (new : Option Files) (io : Streams) (status : Status) (a b : List ℕ) → HasInitialContents io a b →
    CommitsOutcome o old new io status
    ↔ ((i : ℕ) × (j : ℕ) × (i ≤ length o.out) × (j ≤ length o.err) × (io ≡ streams_after a b o.out o.err i j)
    × (new ≡ Some (files_after o old i j)) × (status ≡ status_after o i j))

-- The effects of printing both texts and then an error message: standard error accepted some number of bytes of the message.
abbrev pub MessageEffectsAreExact : Type 0
MessageEffectsAreExact =
    (io : Streams) (a b out err fault : List ℕ) → HasInitialContents io a b →
    PrintsMessage io out err fault
    ↔ ((k : ℕ) × (k ≤ length fault) × (io ≡ streams_after_message a b out err fault k))

-- the number of an output's bytes that are written, or nothing if its file is unchanged
abbrev pub IsWrittenPart : OutputFile → Option ℕ → Type 0
IsWrittenPart output None = ⊤
IsWrittenPart output (Some n) = n ≤ length output.bytes

-- The effects if memory ran out at an output, or a call of the store failed for it: the outputs before it are written, it is
-- written in part or not at all, and standard error accepted some number of bytes of the message.
abbrev pub MemoryFailureEffectsAreExact : Type 0
MemoryFailureEffectsAreExact =
    (o : Outcome) (memory : List ℕ) (old : Files) (new : Option Files) (io : Streams) (status : Status) (a b : List ℕ) → HasInitialContents io a b →
    HasMemoryFailure o memory old new io status
    ↔ ((index : ℕ) × (output : OutputFile) × (part : Option ℕ) × (k : ℕ) × (slice_get o.outputs index ≡ Some output) × IsWrittenPart output part
    × (new ≡ Some (files_with_part o.outputs index output part old)) × (k ≤ length memory)
    × (io ≡ streams_after_message a b o.out o.err memory k) × (status ≡ Failure))

abbrev pub WriteFailureEffectsAreExact : Type 0
WriteFailureEffectsAreExact =
    (o : Outcome) (old : Files) (new : Option Files) (last_failure : LastFailure) (io : Streams) (status : Status) (a b : List ℕ) → HasInitialContents io a b →
    HasWriteFailure o old new last_failure io status
    ↔ ((index : ℕ) × (output : OutputFile) × (part : Option ℕ) × (k : ℕ) × (slice_get o.outputs index ≡ Some output) × IsWrittenPart output part
    × (new ≡ Some (files_with_part o.outputs index output part old)) × FailedOn last_failure output.name × (k ≤ length (file_error_line output.name))
    × (io ≡ streams_after_message a b o.out o.err (file_error_line output.name) k) × (status ≡ Failure))

-- The effects of committing an outcome, in terms of the contents of two writers, whichever of the streams over them has
-- failed: each writer accepted some number of bytes of its text, and the files and the status are those for these numbers.
abbrev pub CommitEffectsOnWritersAreExact : Type 0
CommitEffectsOnWritersAreExact =
    (o : Outcome) (old : Files) (new : Option Files) (status : Status) (a b : List ℕ) (out err : Option (List ℕ)) →
    ForStreamsOverWriters (Some a) out (Some b) err (λ io. CommitsOutcome o old new io status)
    ↔ ((i : ℕ) × (j : ℕ) × (i ≤ length o.out) × (j ≤ length o.err)
    × (out ≡ (streams_after a b o.out o.err i j).out_new) × (err ≡ (streams_after a b o.out o.err i j).err_new)
    × (new ≡ Some (files_after o old i j)) × (status ≡ status_after o i j))

-- the effects of printing both texts and then an error message, in terms of the contents of two writers: standard error
-- accepted some number of bytes of the message after both texts
abbrev pub MessageEffectsOnWritersAreExact : Type 0
MessageEffectsOnWritersAreExact =
    (out_text err_text fault a b : List ℕ) (out err : Option (List ℕ)) →
    ForStreamsOverWriters (Some a) out (Some b) err (λ io. PrintsMessage io out_text err_text fault)
    ↔ ((k : ℕ) × (k ≤ length fault)
    × (out ≡ Some (a ++ out_text)) × (err ≡ Some ((b ++ err_text) ++ take k fault)))

-- a call that failed while files were written has one message: the name that it requested, and `file error`
abbrev pub WriteNamingIsUnique : Type 0
WriteNamingIsUnique =
    (o : Outcome) (old : Files) (new : Option Files) (c : FailedCall) (io : Streams) (status : Status) →
    HasWriteFailure o old new (Some c) io status → PrintsMessage io o.out o.err (file_error_line c.name)
