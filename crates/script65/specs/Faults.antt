-- The errors of scripts and of placements.
use Rattle.std.specs.Prelude.{Bool, ℕ, true, false, if◌then◌else◌, List, ◌++◌, codes, encode_utf8_all}
use Rattle.script65.specs.declared.fault.Fault.{Fault}
use Rattle.script65.specs.declared.fault.Fault.TheVariants.{OutOfMemory, SyntaxError, UnknownAttribute, AttributeTwice, AttributeMissing, NameTwice, NoSuchArea, OutOfRange, Excluded, TooLong, NoSuchName, AmbiguousName}
use Rattle.script65.specs.declared.fault.FaultAt.{FaultAt}
use Rattle.script65.specs.declared.fault.ScriptFault.{ScriptFault}
use Rattle.std.specs.Fmt.{decimal}
use Rattle.script65.specs.declared.placement.PlaceFault.{PlaceFault}
use Rattle.script65.specs.declared.placement.PlaceFault.TheVariants as place

-- ---- The errors of scripts: their messages, and which of them are system errors.

abbrev pub fault_text : Fault → List ℕ
fault_text OutOfMemory = codes "out of memory"
fault_text SyntaxError = codes "syntax error"
fault_text UnknownAttribute = codes "unknown attribute"
fault_text AttributeTwice = codes "attribute twice"
fault_text AttributeMissing = codes "attribute missing"
fault_text NameTwice = codes "name twice"
fault_text NoSuchArea = codes "no such area"
fault_text OutOfRange = codes "value out of range"
fault_text Excluded = codes "attributes exclude each other"
fault_text TooLong = codes "script too long"
fault_text NoSuchName = codes "no such name"
fault_text AmbiguousName = codes "ambiguous name"

-- whether the message of an error has a name
abbrev pub is_name_fault : Fault → Bool
is_name_fault NoSuchName = true
is_name_fault AmbiguousName = true
is_name_fault _ = false

-- an error, with the name if it is one of a name; each byte is printed as the character with its code (ASCII unchanged)
abbrev pub script_fault_text : ScriptFault → List ℕ
script_fault_text e =
    if is_name_fault e.fault then fault_text e.fault ++ codes ": " ++ encode_utf8_all e.name else fault_text e.fault

abbrev pub is_memory_fault : Fault → Bool
is_memory_fault OutOfMemory = true
is_memory_fault _ = false

-- an error at an offset of the text
abbrev pub fault_at : Fault → ℕ → FaultAt
fault_at fault at = record { fault = fault; at = at }

abbrev pub is_system_error : FaultAt → Bool
is_system_error e = is_memory_fault e.fault

abbrev pub is_script_system_error : ScriptFault → Bool
is_script_system_error e = is_memory_fault e.fault

-- ---- The errors of placements: their messages, and which of them are system errors.

-- each byte of a name is printed as the character with its code (ASCII unchanged), a number in decimal digits
abbrev pub place_fault_text : PlaceFault → List ℕ
place_fault_text place.OutOfMemory = codes "out of memory"
place_fault_text (place.NoRow name) = codes "segment has no row: " ++ encode_utf8_all name
place_fault_text (place.ReadOnlyArea name) = codes "read-only area: " ++ encode_utf8_all name
place_fault_text (place.StartBelow name) = codes "start below what is placed: " ++ encode_utf8_all name
place_fault_text (place.Overflow name n) =
    codes "overflow of " ++ encode_utf8_all name ++ codes " by " ++ decimal n ++ codes " bytes"
place_fault_text (place.NotPlaced name) = codes "name not yet placed: " ++ encode_utf8_all name
place_fault_text (place.AreaOutOfRange name) = codes "area value out of range: " ++ encode_utf8_all name

abbrev pub is_place_system_error : PlaceFault → Bool
is_place_system_error place.OutOfMemory = true
is_place_system_error _ = false
