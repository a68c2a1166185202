-- The bytes of a library's file are read in steps.
use Rattle.std.proofs.lemmas.Grind.{common_steps}
use Rattle.std.proofs.Common.{◌≡◌, ◌∙◌, ◌<◌, arith, ℕ, List, Bool, true, false, Option, Some, None, Result, Ok, Err, refl, sym, ap, subst, drop, length, suc, ◌+◌, ◌-◌, ◌≤◌, [], ◌∷◌, ◌++◌, map, nat_le, take, min}
use Rattle.std.specs.Prelude.{IfOk, IfSome, IsErrAnd, IsErrOf, if◌then◌else◌}
use Rattle.std.specs.FinMap as finmap
use Rattle.base65.specs.Outcome.{◌>>=◌, Refines, RefinesErr}
use Rattle.base65.specs.Store.{FailsAtLastCount, LastFailure, Files, HasOnlyBytes, PropagatesIoError}
use Rattle.object65.specs.Reading.{StoreFrame}
use Rattle.library65.specs.declared.fault.LibraryFault.{LibraryFault}
use Rattle.library65.specs.declared.fault.LibraryFault.TheVariants.{BadIndex, FileError, OutOfMemory}
use Rattle.library65.specs.Fault.{is_system_error}
use Rattle.library65.specs.Reading.{in_file, index_at, count_at, counted_names_at, member_entries_at, unplaced_entry_at, unplaced_entries_at, name_at, number_at, symbol_at, symbols_at}
use Rattle.std.proofs.lemmas.List.{length-take, take_all}
use Rattle.library65.specs.declared.index.UnplacedEntry.{UnplacedEntry}
use Rattle.library65.specs.Libraries.{with_library_entries, library_at, member_bytes_at}
use Rattle.library65.specs.Spelling.{is_name}
use Rattle.std.proofs.lemmas.Bool.Decides.{nat_tests}
use Rattle.base65.specs.Reading.{ReadsChunk}
use Rattle.base65.proofs.BufferFill.{take-add}

-- ---- A file is read in steps; it may not exist, and the files may not be known.

abbrev pub Reading : Type 0 → Type 0
Reading A = List ℕ → Result A LibraryFault

-- reading the rest has the same result as reading the whole
abbrev pub Leads : {A : Type 0} → Option Files → List ℕ → Reading A → Reading A → Type 0
Leads known name rest all = IfSome known (λ m. IfSome (finmap.get m name) (λ bytes. rest bytes ≡ all bytes))

module _ {A Y : Type 0} (name : List ℕ) (all rest : Reading A) (step : Reading Y) (k : Y → Reading A) (same : (bytes : List ℕ) → rest bytes ≡ (step bytes >>= (λ y. k y bytes))) where
  -- the case of a step that succeeds
  pub goes_on : (known now : Option Files) (y : Y) → now ≡ known → Leads known name rest all → IfSome now (λ m. in_file (finmap.get m name) step ≡ Ok y) → Leads known name (k y) all
  goes_on x now y files leads read = grind (arith, common_steps)

  -- the case of a step that fails
  pub stops : (known now : Option Files) (e : LibraryFault) → now ≡ known → Leads known name rest all → IfSome now (λ m. RefinesErr is_system_error e (in_file (finmap.get m name) step)) → IfSome known (λ m. RefinesErr is_system_error e (in_file (finmap.get m name) all))
  stops x now e files leads refused = grind (arith, common_steps)

  -- the case of a step that succeeds and whose value is rejected
  pub fails : (known now : Option Files) (y : Y) (e : LibraryFault) → now ≡ known → Leads known name rest all → IfSome now (λ m. in_file (finmap.get m name) step ≡ Ok y) → ((bytes : List ℕ) → k y bytes ≡ Err e) → IfSome known (λ m. RefinesErr is_system_error e (in_file (finmap.get m name) all))
  fails x now y e files leads read refused = grind (arith, common_steps)

-- at the beginning the rest is the whole
pub begins : {A : Type 0} (known : Option Files) (name : List ℕ) (all : Reading A) → Leads known name all all
begins x name all = grind (arith, common_steps)

-- a call that returned a value preserves the count of failures
pub kept_count : {T : Type 0} (old now : ℕ) (x : T) → PropagatesIoError {E = LibraryFault} FileError old now (Ok x) → now ≡ old
kept_count old now x passes = grind (arith, common_steps)

-- if no call failed, an error other than `FileError` satisfies `PropagatesIoError`
none_passed : {T : Type 0} (old now : ℕ) (e : LibraryFault) → now ≡ old → (e ≡ FileError → ⊥) → PropagatesIoError {T = T} FileError old now (Err e)
none_passed old now e same other = grind (arith, common_steps)

-- the frame of a successful call is the frame of an error that follows it, if that isn't `FileError`
pub kept_on : {X T U : Type 0} {files_of : X → Option Files} {failures_of : X → ℕ} {last_failure_of : X → LastFailure} {name : List ℕ} {old new : X} (x : T) (e : LibraryFault) → StoreFrame files_of failures_of last_failure_of FileError name old new (Ok x) → (e ≡ FileError → ⊥) → StoreFrame {T = U} files_of failures_of last_failure_of FileError name old new (Err e)
kept_on x e kept other = record {
  files = kept.files;
  count = none_passed _ _ e (kept_count _ _ x kept.count) other;
  last_failure = λ h. (let is : e ≡ FileError = cc h in absurd (other is));
}

no_failure : (y : LibraryFault) → y ≡ OutOfMemory → y ≡ FileError → ⊥
no_failure y memory failed = cc

failed_with : {T U : Type 0} (e y : LibraryFault) → y ≡ e → IsErrOf {T = T} (Err e) FileError → IsErrOf {T = U} (Err y) FileError
failed_with e y same failed = cc

passed_count : {T U : Type 0} {old mid : ℕ} (new : ℕ) (e y : LibraryFault) → y ≡ e → mid ≡ old
    → PropagatesIoError {T = T} FileError mid new (Err e) → PropagatesIoError {T = U} FileError old new (Err y)
passed_count {T} {U} {old} {mid} new e y same count passes = record {
  monotone = omega (arith, passes.monotone);
  reported = λ less. failed_with e y same (passes.reported (rw count less));
  caused = λ failed. rw (sym count) (passes.caused (failed_with y e (sym same) failed));
}

-- ---- An error after calls that returned values.

-- a call failed, after others that changed nothing: the frame is its own
pub passed_frame : {X T U : Type 0} {files_of : X → Option Files} {failures_of : X → ℕ} {last_failure_of : X → LastFailure} {name : List ℕ} {old mid new : X} (e : LibraryFault) (r : Result U LibraryFault)
    → IsErrAnd r (λ y. y ≡ e) → files_of mid ≡ files_of old → failures_of mid ≡ failures_of old
    → StoreFrame {T = T} files_of failures_of last_failure_of FileError name mid new (Err e)
    → StoreFrame files_of failures_of last_failure_of FileError name old new r
passed_frame e (Ok x) h files count frame = absurd h
passed_frame {T = T} {U = U} {failures_of = failures_of} {new = new} e (Err y) h files count frame = record {
  files = frame.files ∙ files;
  count = passed_count (failures_of new) e y h count frame.count;
  last_failure = λ failed. frame.last_failure (failed_with y e (sym h) failed);
}

-- a call returned a value, after others that changed nothing
pub kept_frame : {X T U : Type 0} {files_of : X → Option Files} {failures_of : X → ℕ} {last_failure_of : X → LastFailure} {name : List ℕ} {old mid new : X} (x : T) (y : U)
    → files_of mid ≡ files_of old → failures_of mid ≡ failures_of old
    → StoreFrame files_of failures_of last_failure_of FileError name mid new (Ok x)
    → StoreFrame files_of failures_of last_failure_of FileError name old new (Ok y)
kept_frame x y files count frame =
    let kept = kept_count _ _ x frame.count ∙ count in
    record {
      files = frame.files ∙ files;
      count = record { monotone = omega arith; reported = λ less. absurd (omega arith); caused = λ failed. absurd cc };
      last_failure = λ failed. absurd cc;
    }

-- no call failed, and nothing was changed
pub still_frame : {X U : Type 0} {files_of : X → Option Files} {failures_of : X → ℕ} {last_failure_of : X → LastFailure} {name : List ℕ} {old new : X} (y : U)
    → files_of new ≡ files_of old → failures_of new ≡ failures_of old
    → StoreFrame files_of failures_of last_failure_of FileError name old new (Ok y)
still_frame y files kept = record {
  files = files;
  count = record { monotone = omega arith; reported = λ less. absurd (omega arith); caused = λ failed. absurd cc };
  last_failure = λ failed. absurd cc;
}

-- memory ran out after calls that changed nothing
pub memory_frame : {X T U : Type 0} {files_of : X → Option Files} {failures_of : X → ℕ} {last_failure_of : X → LastFailure} {name : List ℕ} {old mid new : X} (x : T) (r : Result U LibraryFault)
    → IsErrAnd r (λ y. y ≡ OutOfMemory) → files_of mid ≡ files_of old → failures_of mid ≡ failures_of old
    → StoreFrame files_of failures_of last_failure_of FileError name mid new (Ok x)
    → StoreFrame files_of failures_of last_failure_of FileError name old new r
memory_frame x (Ok y) h files count frame = absurd h
memory_frame x (Err y) h files count frame = record {
  files = frame.files ∙ files;
  count = none_passed _ _ y (kept_count _ _ x frame.count ∙ count) (no_failure y h);
  last_failure = λ failed. (let is : y ≡ FileError = cc failed in absurd (no_failure y h is));
}

pub memory_refines : {X Y : Type 0} (known : Option Files) (r : Result X LibraryFault) (view : X → Y) (read : Files → Result Y LibraryFault)
    → IsErrAnd r (λ y. y ≡ OutOfMemory) → IfSome known (λ m. Refines is_system_error view r (read m))
memory_refines None r view read h = tt
memory_refines (Some m) (Ok x) view read h = absurd h
memory_refines (Some m) (Err e) view read h = subst (λ (y : LibraryFault). RefinesErr is_system_error y (read m)) (sym h) tt

-- after an error nothing is said of the bytes
pub error_bytes : {X : Type 0} (known : Option Files) (name : List ℕ) (e : LibraryFault) (r : Result X LibraryFault)
    → IsErrAnd r (λ y. y ≡ e) → IfSome known (λ m. HasOnlyBytes (finmap.get m name) r)
error_bytes None name e r h = tt
error_bytes (Some m) name e (Ok x) h = absurd h
error_bytes (Some m) name e (Err y) h = tt

-- no call of the store failed if memory ran out
pub memory_elsewhere : {X : Type 0} (r : Result X LibraryFault) → IsErrAnd r (λ y. y ≡ OutOfMemory) → IsErrOf r FileError → ⊥
memory_elsewhere (Ok x) h failed = absurd h
memory_elsewhere (Err y) h failed = let is : y ≡ FileError = cc failed in absurd (no_failure y h is)

pub memory_last : {X : Type 0} (old : ℕ) (r : Result X LibraryFault) → IsErrAnd r (λ y. y ≡ OutOfMemory) → FailsAtLastCount is_system_error old r
memory_last old (Ok x) h = absurd h
memory_last old (Err y) h = λ last. ap is_system_error h

-- an error has no value
pub no_value : {X : Type 0} (P : X → Type 0) (e : LibraryFault) (r : Result X LibraryFault) → IsErrAnd r (λ y. y ≡ e) → IfOk r P
no_value P e (Ok x) h = absurd h
no_value P e (Err y) h = tt

-- ---- The names of exports or imports.

pub counted_begins : (at : ℕ) (bytes : List ℕ) → counted_names_at at bytes ≡ (number_at at bytes >>= (λ n. symbols_at (n - 0) [] (at + 4) bytes))
unfolding counted_names_at
counted_begins at bytes = grind (arith, common_steps)

-- a check and the next step are one conditional step
tested : {X A : Type 0} (is_good : X → Bool) (r : Result X LibraryFault) (k : X → Result A LibraryFault) → (r >>= (λ x. if is_good x then Ok x else Err BadIndex) >>= k) ≡ (r >>= (λ x. if is_good x then k x else Err BadIndex))
tested is_good (Err e) k = refl
tested is_good (Ok x) k = by (is_good x)
  where
    by : (b : Bool) → ((if b then Ok x else Err BadIndex) >>= k) ≡ (if b then k x else Err BadIndex)
    by true = refl
    by false = refl

pub symbols_more : (n i : ℕ) (names : List (List ℕ)) (at : ℕ) → i < n → (bytes : List ℕ) → symbols_at (n - i) names at bytes ≡ (name_at at bytes >>= (λ s. if is_name s.0 then symbols_at (n - (i + 1)) (names ++ s.0 ∷ []) s.1 bytes else Err BadIndex))
unfolding symbol_at
symbols_more n i names at less bytes = let one : n - i ≡ suc (n - (i + 1)) = omega arith in rw one (tested (λ s. is_name s.0) (name_at at bytes) (λ s. symbols_at (n - (i + 1)) (names ++ s.0 ∷ []) s.1 bytes))

-- ---- The entries of members.

pub list_begins : (bytes : List ℕ) → member_entries_at bytes ≡ (count_at bytes >>= (λ n. unplaced_entries_at (n - 0) [] 9 bytes))
unfolding member_entries_at
list_begins bytes = grind (arith, common_steps)

pub listings_more : (n i : ℕ) (ms : List UnplacedEntry) (names : List (List ℕ)) (at : ℕ) → names ≡ map (λ m. m.name) ms → i < n → (bytes : List ℕ) → unplaced_entries_at (n - i) ms at bytes ≡ (unplaced_entry_at names at bytes >>= (λ m. unplaced_entries_at (n - (i + 1)) (ms ++ m.0 ∷ []) m.1 bytes))
listings_more n i ms names at named less bytes = let one : n - i ≡ suc (n - (i + 1)) = omega arith in rw (one, named) refl

-- the names of the members so far, with one further name
pub name_pushed : (ms : List UnplacedEntry) (m : UnplacedEntry) (after : List UnplacedEntry) (names : List (List ℕ)) (name : List ℕ) → names ≡ map (λ x. x.name) ms → name ≡ m.name → after ≡ ms ++ m ∷ [] → names ++ name ∷ [] ≡ map (λ x. x.name) after
name_pushed ms m after names name named same pushed = grind (arith, common_steps)

-- ---- The members themselves.

pub library_begins : (bytes : List ℕ) → library_at bytes ≡ (index_at bytes >>= (λ es. with_library_entries [] es bytes))
unfolding library_at
library_begins bytes = refl

-- ---- The bytes of a member, read in chunks: a prefix of the file's bytes from an offset on.

-- the bytes are a prefix of the file's bytes from `at` on
abbrev pub IsPieceFront : Option (List ℕ) → ℕ → List ℕ → Type 0
IsPieceFront file at bytes = IfSome file (λ b. bytes ≡ take (length bytes) (drop at b))

-- a chunk of a file is a chunk of the file's bytes from `at` on
moved : (file : List ℕ) (at len want n : ℕ) (old new : List ℕ) → ReadsChunk (Some file) (at + len) want old new (Ok n) → ReadsChunk (Some (drop at file)) len want old new (Ok n)
moved file at len want n old new read = grind (arith, common_steps)

longer : (file : List ℕ) (want n : ℕ) (old new : List ℕ) → old ≡ take (length old) file → ReadsChunk (Some file) (length old) want old new (Ok n) → new ≡ take (length old + want) file
longer file want n old new front read = read.0 ∙ ap (λ xs. xs ++ take want (drop (length old) file)) front ∙ sym (take-add (length old) want file)

last : (b : Bool) (file : List ℕ) (want n most : ℕ) (old new : List ℕ) → nat_le most (length old + 4096) ≡ b → old ≡ take (length old) file → length old ≤ most → want ≡ min 4096 (most - length old) → n < 4096 → ReadsChunk (Some file) (length old) want old new (Ok n) → new ≡ take most file
last true file want n most old new test front within is short read =
    let near : most ≤ length old + 4096 = grind (arith, nat_tests) in
    let all : length old + want ≡ most = omega arith in
    longer file want n old new front read ∙ ap (λ k. take k file) all
last false file want n most old new test front within is short read = grind (arith, common_steps, nat_tests, length-take, longer, take_all)

-- the file exists, and the bytes are its next `size` bytes from `at` on, or as many as there are
abbrev pub IsPiece : Option (List ℕ) → ℕ → ℕ → List ℕ → Type 0
IsPiece None at size bytes = ⊥
IsPiece (Some file) at size bytes = bytes ≡ take size (drop at file)

pub told_whole : (known next : Option Files) (name : List ℕ) (at offset want n size : ℕ) (old new : List ℕ) → next ≡ known → offset ≡ at + length old → length old ≤ size → want ≡ min 4096 (size - length old) → n < 4096 → IfSome known (λ m. IsPieceFront (finmap.get m name) at old) → IfSome next (λ m. ReadsChunk (finmap.get m name) offset want old new (Ok n)) → IfSome known (λ m. IsPiece (finmap.get m name) at size new)
told_whole None next name at offset want n size old new same there within is short front read = tt
told_whole (Some m) next name at offset want n size old new same there within is short front read =
    let P : ℕ → Type 0 = λ k. ReadsChunk (finmap.get m name) k want old new (Ok n) in go (finmap.get m name) front (subst P there (rw same at read))
  where
    go : (file : Option (List ℕ)) → IsPieceFront file at old → ReadsChunk file (at + length old) want old new (Ok n) → IsPiece file at size new
    go None f r = absurd r
    go (Some file) f r = last (nat_le size (length old + 4096)) (drop at file) want n size old new refl f within is short (moved file at (length old) want n old new r)

pub piece_whole : (known : Option Files) (name : List ℕ) (at size : ℕ) (new : List ℕ) → size ≤ length new → IfSome known (λ m. IsPiece (finmap.get m name) at size new) → IfSome known (λ m. in_file (finmap.get m name) (member_bytes_at size at) ≡ Ok new)
piece_whole x name at size new le is = grind (arith, common_steps)
