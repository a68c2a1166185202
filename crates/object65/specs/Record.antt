-- Records, and the errors of reading an object.
use Rattle.std.specs.Prelude.{ℕ, ◌<◌, List, get_or, Bool, true, false, codes, nat_le, not, ◌==◌, ◌&&◌, ◌||◌}
use Rattle.base65.specs.declared.store.StoreFault.{StoreFault}
use Rattle.base65.specs.declared.store.StoreFault.TheVariants as store
use Rattle.object65.specs.declared.fault.ObjectFault.{ObjectFault}
use Rattle.object65.specs.declared.fault.ObjectFault.TheVariants.{FailedBefore, OutOfMemory, NotAnObject, UnknownVersion, CutShort, UnknownRecord, OutOfOrder, IndexOutOfRange, BadSize, NotCanonical, BytesAfterEnd, FileError, FileNotFound}
use Rattle.object65.specs.declared.record.Record.{Record}
pub use Rattle.base65.specs.Outcome.{◌>>=◌, Refines, RefinesErr}
pub use Rattle.base65.specs.Store.{IsBytes}

-- ---- Errors: their messages, and which of them are system errors.

abbrev pub of_store : StoreFault → ObjectFault
of_store store.OutOfMemory = OutOfMemory
of_store store.FileNotFound = FileNotFound
of_store store.FileError = FileError

-- memory ran out
abbrev pub is_memory : ObjectFault → Bool
is_memory OutOfMemory = true
is_memory _ = false

-- memory ran out or the store failed
abbrev pub is_system_error : ObjectFault → Bool
is_system_error OutOfMemory = true
is_system_error FileError = true
is_system_error _ = false

abbrev pub fault_text : ObjectFault → List ℕ
fault_text FailedBefore = codes "failed before"
fault_text OutOfMemory = codes "out of memory"
fault_text NotAnObject = codes "not an object"
fault_text UnknownVersion = codes "unknown version"
fault_text CutShort = codes "object cut short"
fault_text UnknownRecord = codes "unknown record"
fault_text OutOfOrder = codes "record out of order"
fault_text IndexOutOfRange = codes "index out of range"
fault_text BadSize = codes "bad size"
fault_text NotCanonical = codes "not canonical"
fault_text BytesAfterEnd = codes "bytes after the end"
fault_text FileError = codes "file error"
fault_text FileNotFound = codes "file not found"

-- ---- Records and their kinds.

-- a record as its kind and the bytes of its body
pub record RawRecord : Type 0 where
  pub kind : ℕ
  pub body : List ℕ

abbrev pub raw_record : Record → RawRecord
raw_record r = record { kind = r.kind; body = r.body.items }

-- the versions of objects
abbrev pub is_version : ℕ → Bool
is_version version = version == 1 || version == 2

-- the kinds of records of a version; version 1 has no FILE
abbrev pub is_record_kind : ℕ → ℕ → Bool
is_record_kind version kind = nat_le 1 kind && nat_le kind 8 || not (version == 1) && kind == 9
