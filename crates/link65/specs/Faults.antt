-- Errors of the linker: their texts, and which of them a call can return.
use Rattle.std.specs.Prelude.{ℕ, Bool, true, false, List, [], ◌∷◌, ◌++◌, codes, encode_utf8_all, if◌then◌else◌, ◌≡◌, not, ◌||◌, Result, IfErr}
use Rattle.object65.specs.declared.fault.ObjectFault.{ObjectFault}
use Rattle.script65.specs.declared.placement.PlaceFault.{PlaceFault}
use Rattle.object65.specs.Record.{fault_text as object_fault_text, is_memory as is_object_memory}
use Rattle.script65.specs.Faults.{is_place_system_error, place_fault_text}
use Rattle.link65.specs.declared.fault.LinkFault.{LinkFault}
use Rattle.link65.specs.declared.fault.LinkFault.TheVariants.{FailedBefore, OutOfMemory, Malformed, DuplicateExport, Unresolved, Place, Circular, OutOfRange, NoValue, Assertion, IndexDisagrees}
use Rattle.object65.specs.declared.fault.ObjectFault.TheVariants.{CutShort}
use Rattle.link65.specs.declared.fault.LinkFault.TheVariants as fault

-- ---- The texts of errors, and which is *out of memory*.

abbrev pub is_memory : LinkFault → Bool
is_memory OutOfMemory = true
is_memory _ = false

-- an error of a module that is no object, or of placement, as an error of the link; *out of memory* is the
-- link's own
abbrev pub of_object : ObjectFault → LinkFault
of_object f = if is_object_memory f then OutOfMemory else Malformed f

abbrev pub of_place : PlaceFault → LinkFault
of_place f = if is_place_system_error f then OutOfMemory else Place f

-- names separated by commas and blanks
abbrev pub comma_separated : List (List ℕ) → List ℕ
comma_separated [] = []
comma_separated (name ∷ []) = name
comma_separated (name ∷ other ∷ names) = name ++ codes ", " ++ comma_separated (other ∷ names)

abbrev pub fault_text : LinkFault → List ℕ
fault_text FailedBefore = codes "failed before"
fault_text OutOfMemory = codes "out of memory"
fault_text (Malformed f) = object_fault_text f
fault_text (DuplicateExport name) = codes "duplicate export: " ++ name
fault_text (Unresolved names) = codes "unresolved: " ++ comma_separated names
fault_text (Place f) = place_fault_text f
fault_text (Circular s) = codes "circular definition"
fault_text (OutOfRange s) = codes "out of range"
fault_text (NoValue s) = codes "zero divisor or bad shift count"
fault_text (Assertion s text) = text
fault_text IndexDisagrees = codes "index disagrees with member"

-- the text for printing: each byte of a name or of an assertion's text is the character of its code
abbrev pub display_text : LinkFault → List ℕ
display_text (DuplicateExport name) = codes "duplicate export: " ++ encode_utf8_all name
display_text (Unresolved names) = codes "unresolved: " ++ encode_utf8_all (comma_separated names)
display_text (Assertion s text) = encode_utf8_all text
display_text FailedBefore = codes "failed before"
display_text OutOfMemory = codes "out of memory"
display_text (Malformed f) = object_fault_text f
display_text (Place f) = place_fault_text f
display_text (Circular s) = codes "circular definition"
display_text (OutOfRange s) = codes "out of range"
display_text (NoValue s) = codes "zero divisor or bad shift count"
display_text IndexDisagrees = codes "index disagrees with member"

-- the separator between names and a further one
abbrev pub separator_after : List (List ℕ) → List ℕ
separator_after [] = []
separator_after (name ∷ names) = codes ", "

-- ---- The errors that a call of a linker can return, if no call before it failed.

-- an error is *out of memory* or one of the call's own
abbrev pub HasExpectedError : {A : Type 0} → (LinkFault → Bool) → Result A LinkFault → Type 0
HasExpectedError is_own r = IfErr r (λ e. (is_memory e || is_own e) ≡ true)

-- a record that is invalid after the records before it
abbrev pub is_record_fault : LinkFault → Bool
is_record_fault (fault.Malformed f) = not (is_object_memory f)
is_record_fault _ = false

-- a module without its END, one that its library's index disagrees with, or one that defines a name again
abbrev pub is_end_fault : LinkFault → Bool
is_end_fault (fault.Malformed CutShort) = true
is_end_fault fault.IndexDisagrees = true
is_end_fault (fault.DuplicateExport name) = true
is_end_fault _ = false

-- undefined names, segments that can't be placed, and errors of values and assertions
abbrev pub is_finish_fault : LinkFault → Bool
is_finish_fault (fault.Unresolved names) = true
is_finish_fault (fault.Place f) = true
is_finish_fault (fault.Circular location) = true
is_finish_fault (fault.OutOfRange location) = true
is_finish_fault (fault.NoValue location) = true
is_finish_fault (fault.Assertion location text) = true
is_finish_fault _ = false
