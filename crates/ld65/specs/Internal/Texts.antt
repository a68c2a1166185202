-- A script's bytes as they are read: no more of them than tell that it is too long.
use Rattle.std.specs.Prelude.{ℕ, ◌+◌, List, take, Result, Ok, Err}
use Rattle.std.specs.FinMap.{get}
use Rattle.base65.specs.Store.{Files}
use Rattle.ld65.specs.declared.fault.LinkCommandFault.{LinkCommandFault}
use Rattle.ld65.specs.Linkage.{text_of}

-- the largest size of a script, in bytes
abbrev pub script_limit : ℕ
script_limit = 1048576

abbrev pub limited_bytes : Result (List ℕ) LinkCommandFault → Result (List ℕ) LinkCommandFault
limited_bytes (Ok bytes) = Ok (take (script_limit + 1) bytes)
limited_bytes (Err e) = Err e

abbrev pub script_text : Files → List ℕ → Result (List ℕ) LinkCommandFault
script_text m name = limited_bytes (text_of (get m name))
