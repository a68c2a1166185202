-- Errors of the store: their texts, and which are system errors.
use Rattle.std.specs.Prelude.{ℕ, List, Bool, true, false, codes}
use Rattle.base65.specs.declared.store.StoreFault.{StoreFault}
use Rattle.base65.specs.declared.store.StoreFault.TheVariants.{OutOfMemory, FileNotFound, FileError}

abbrev pub store_fault_message : StoreFault → List ℕ
store_fault_message OutOfMemory = codes "out of memory"
store_fault_message FileNotFound = codes "file not found"
store_fault_message FileError = codes "file error"

-- out of memory, or a failure of the store
abbrev pub is_store_system_error : StoreFault → Bool
is_store_system_error OutOfMemory = true
is_store_system_error FileNotFound = false
is_store_system_error FileError = true
