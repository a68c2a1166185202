-- The exports and imports in the records of an object.
use Rattle.std.specs.Prelude.{◌≡◌, ℕ, List, length, Result, Ok, Err}
use Rattle.object65.specs.declared.fault.ObjectFault.{ObjectFault}
use Rattle.object65.specs.Record.{RefinesErr, is_memory}
use Rattle.object65.specs.Scanning.{State, object_of_state, object_from, start}
use Rattle.object65.specs.Reading.{records_at}
use Rattle.library65.specs.declared.contents.Contents.{Contents}
use Rattle.library65.specs.Libraries.{contents_from}

-- the records from an offset on form an object of this version with these exports and imports; `end` is the offset
-- after its END
pub record HasObjectContents (bytes : List ℕ) (version at : ℕ) (c : Contents) (end : ℕ) : Type 0 where
  pub state : State
  pub read : records_at (length bytes) (start version) at (length bytes) bytes ≡ Ok (state, end)
  pub whole : object_of_state state ≡ Ok (object_from state)
  pub contents : c ≡ contents_from (object_from state)

-- the exports and imports, with the offset after the END; or the records' first error; or out of memory
abbrev pub ReadsContents : List ℕ → ℕ → ℕ → Result (Contents × ℕ) ObjectFault → Type 0
ReadsContents bytes version at (Ok x) = HasObjectContents bytes version at x.0 x.1
ReadsContents bytes version at (Err e) =
    RefinesErr is_memory e (records_at (length bytes) (start version) at (length bytes) bytes)
