-- The effects of store calls on the files and on the failure counter.
use Rattle.std.specs.Prelude.{◌≡◌, ℕ, ◌-◌, ◌^◌, ◌<◌, ◌≤◌, min, ◌⊎◌, List, [], ◌++◌, length, take, drop, get_or, unwrap_or, IfOk, Option, Some, None, Result, Ok, Err, Bool, true, IsErrOf, IsErrAnd, IfErr, IfSome, ⊤}
use Rattle.std.specs.Ordering.{nat_cmp}
use Rattle.std.specs.Cmp.Lexicographic.{slice_cmp}
use Rattle.std.specs.FinMap.{FinMap, get, insert}
use Rattle.base65.specs.declared.store.StoreFault.{StoreFault}
use Rattle.base65.specs.declared.store.StoreFault.TheVariants.{OutOfMemory, FileNotFound, FileError}

-- files by the bytes of their names
abbrev pub Files : Type 0
Files = FinMap (slice_cmp nat_cmp) (List ℕ)

-- each item is a byte
abbrev pub IsBytes : List ℕ → Type 0
IsBytes xs = (i : ℕ) → get_or xs i 0 < 256

-- if a file was read, it consists of bytes
abbrev pub HasOnlyBytes : {T E : Type 0} → Option (List ℕ) → Result T E → Type 0
HasOnlyBytes file result = IfOk result (λ x. IfSome file IsBytes)

-- the maximum of the failure counter
abbrev pub max_failures : ℕ
max_failures = 2 ^ 64 - 1

-- a call between the counts old and new failed, or the counter was already at its maximum
abbrev pub HasFailed : ℕ → ℕ → Type 0
HasFailed old new = (old < new) ⊎ (old ≡ max_failures)

-- The error reports a failure of the store: the call returns it if the failure counter rose during the
-- call, and only if it rose or was already at its maximum. The counter never decreases.
pub record PropagatesIoError {T E : Type 0} (error : E) (old new : ℕ) (result : Result T E) : Type 0 where
  pub monotone : old ≤ new
  pub reported : old < new → IsErrOf result error
  pub caused : IsErrOf result error → HasFailed old new

-- Likewise for several errors that report a failure of the store.
pub record PropagatesIoErrors {T E : Type 0} (fails : E → Bool) (old new : ℕ) (result : Result T E) : Type 0 where
  pub monotone : old ≤ new
  pub reported : old < new → IsErrAnd result (λ e. fails e ≡ true)
  pub caused : IfErr result (λ e. fails e ≡ true → HasFailed old new)

-- likewise for a single store call, which also fails whenever the counter is at its maximum
pub record CountsFailure {T : Type 0} (old new : ℕ) (result : Result T StoreFault) : Type 0 where
  pub monotone : old ≤ new
  pub reported : HasFailed old new → IsErrOf result FileError
  pub caused : IsErrOf result FileError → HasFailed old new

-- if the counter is at its maximum before the call, the result is a system error
abbrev pub FailsAtLastCount : {T E : Type 0} → (E → Bool) → ℕ → Result T E → Type 0
FailsAtLastCount is_system_error old result = old ≡ max_failures → IsErrAnd result (λ e. is_system_error e ≡ true)

-- a failed call: the file it requested and, for a read, the offset
pub record FailedCall : Type 0 where
  pub name : List ℕ
  pub at : Option ℕ

-- the last failed call, if the store reveals it
abbrev pub LastFailure : Type 0
LastFailure = Option FailedCall

-- the last failed call requested this file, if the store reveals it
abbrev pub FailedOn : LastFailure → List ℕ → Type 0
FailedOn last_failure name = IfSome last_failure (λ c. c.name ≡ name)

-- the last failed call read this file from this offset, if the store reveals it
abbrev pub FailedAt : LastFailure → List ℕ → ℕ → Type 0
FailedAt last_failure name at = IfSome last_failure (λ c. (c.name ≡ name) × (c.at ≡ Some at))

-- the last failed call read this file from an offset between these, if the store reveals it
abbrev pub FailedWithin : LastFailure → List ℕ → ℕ → ℕ → Type 0
FailedWithin last_failure name begin end = IfSome last_failure (λ c. (c.name ≡ name) × (at : ℕ) × (c.at ≡ Some at) × (begin ≤ at) × (at ≤ end))

-- the bytes of a file, or none if it doesn't exist
abbrev pub bytes_in : Option (List ℕ) → List ℕ
bytes_in file = unwrap_or file []

-- if a file has bytes up to an offset, the last failed call read it from there on, at most at its end
abbrev pub FailsInside : Option (List ℕ) → LastFailure → List ℕ → ℕ → Type 0
FailsInside file last_failure name at = at ≤ length (bytes_in file) → FailedWithin last_failure name at (length (bytes_in file))

-- after a failure the last failed call satisfies P; otherwise it is unchanged
abbrev pub RecordsFailure : {T : Type 0} → (LastFailure → Type 0) → LastFailure → LastFailure → Result T StoreFault → Type 0
RecordsFailure IsExpected old new (Err FileError) = IsExpected new
RecordsFailure IsExpected old new (Err FileNotFound) = new ≡ old
RecordsFailure IsExpected old new (Err OutOfMemory) = new ≡ old
RecordsFailure IsExpected old new (Ok x) = new ≡ old

-- The first n bytes of the buffer are the file's next n bytes. n is 0 only at the end of the file or if the
-- buffer is empty.
pub record ReadsPrefix (rest : List ℕ) (n : ℕ) (buf : List ℕ) : Type 0 where
  pub within : n ≤ length rest
  pub prefix : take n buf ≡ take n rest
  pub ends : n ≡ 0 → 0 < length buf → rest ≡ []

-- the bytes of the file from an offset are read into the buffer, or the file doesn't exist
abbrev pub ReadsAt : Option (List ℕ) → ℕ → List ℕ → Result ℕ StoreFault → Type 0
ReadsAt None at buf (Ok n) = ⊥
ReadsAt (Some bytes) at buf (Ok n) = ReadsPrefix (drop at bytes) n buf
ReadsAt file at buf (Err FileNotFound) = file ≡ None
ReadsAt file at buf (Err FileError) = ⊤
ReadsAt file at buf (Err OutOfMemory) = ⊤

-- new is old with the file emptied, or equals old after an error; a missing file is no error
abbrev pub CreatesFile : Files → List ℕ → Files → Result (Unit {0}) StoreFault → Type 0
CreatesFile old name new (Ok u) = new ≡ insert old name []
CreatesFile old name new (Err FileNotFound) = ⊥
CreatesFile old name new (Err FileError) = new ≡ old
CreatesFile old name new (Err OutOfMemory) = new ≡ old

-- new is old with the first n bytes of the piece appended to the file
pub record ExtendsFile (old : Files) (name piece : List ℕ) (n : ℕ) (new : Files) (bytes : List ℕ) : Type 0 where
  pub existing : get old name ≡ Some bytes
  pub extended : new ≡ insert old name (bytes ++ take n piece)

abbrev pub AppendsToFile : Files → List ℕ → List ℕ → Files → Result ℕ StoreFault → Type 0
AppendsToFile old name piece new (Ok n) = (bytes : List ℕ) × ExtendsFile old name piece n new bytes
AppendsToFile old name piece new (Err FileNotFound) = (get old name ≡ None) × (new ≡ old)
AppendsToFile old name piece new (Err FileError) = new ≡ old
AppendsToFile old name piece new (Err OutOfMemory) = new ≡ old

-- if the files are known, those before and after are related by P
abbrev pub RelatesFiles : (Files → Files → Type 0) → Option Files → Option Files → Type 0
RelatesFiles P None new = ⊤
RelatesFiles P (Some old) None = ⊥
RelatesFiles P (Some old) (Some new) = P old new

-- the buffer is filled from the offset, up to its own end or that of the file
pub record FillsAll (rest : List ℕ) (n : ℕ) (buf : List ℕ) : Type 0 where
  pub count : n ≡ min (length buf) (length rest)
  pub prefix : take n buf ≡ take n rest

abbrev pub ReadsFull : Option (List ℕ) → ℕ → List ℕ → Result ℕ StoreFault → Type 0
ReadsFull None at buf (Ok n) = ⊥
ReadsFull (Some bytes) at buf (Ok n) = FillsAll (drop at bytes) n buf
ReadsFull file at buf (Err FileNotFound) = file ≡ None
ReadsFull file at buf (Err FileError) = ⊤
ReadsFull file at buf (Err OutOfMemory) = ⊤

-- the first n bytes of the buffer are those of the file from the offset
abbrev pub FilledTo : Option (List ℕ) → ℕ → ℕ → List ℕ → Type 0
FilledTo None at n buf = n ≡ 0
FilledTo (Some bytes) at n buf = (n ≤ length (drop at bytes)) × (take n buf ≡ take n (drop at bytes))

-- no store call failed between the two counts
pub record NoneFailed (old new : ℕ) : Type 0 where
  pub same : new ≡ old
  pub before : old < max_failures
