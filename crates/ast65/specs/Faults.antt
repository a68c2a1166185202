-- Errors in sources: their texts, and which are system errors.
use Rattle.std.specs.Prelude.{ℕ, List, [], ◌++◌, Bool, true, false, codes, ◌||◌, encode_utf8_all}
use Rattle.syntax65.specs.Faults.{expand_fault_message}
use Rattle.syntax65.specs.declared.fault.ExpandFault.TheVariants as expand
use Rattle.syntax65.specs.declared.expressions.operators.ExprFault.{ExprFault}
use Rattle.syntax65.specs.declared.expressions.operators.ExprFault.TheVariants as expr
use Rattle.base65.specs.declared.store.StoreFault.{StoreFault}
use Rattle.base65.specs.declared.store.StoreFault.TheVariants as store
use Rattle.ast65.specs.declared.fault.AsmFault.{AsmFault}
use Rattle.ast65.specs.declared.fault.AsmFault.TheVariants.{OutOfMemory, Expansion, NotUnderstood, NoSuchForm, DefinedTwice, Undefined, Circular, OutOfRange, NoValue, TooLarge, SectionTooLarge, NoSuchScope, ScopeTwice, NoSuchLabel, ImportedAndDefined, NotDefined, BadAlignment, PopWithoutPush, BadOperand, BadPart, Assertion, SizeChanged, BadScope, FileNotFound, FileError, FileNameTooLong}

-- the text of the message, up to the name or text at its end
abbrev pub message_prefix : AsmFault → List ℕ
message_prefix OutOfMemory = codes "out of memory"
message_prefix (Expansion f) = []
message_prefix NotUnderstood = codes "statement not understood"
message_prefix NoSuchForm = codes "no such addressing form"
message_prefix (DefinedTwice name) = codes "defined twice: "
message_prefix (Undefined name) = codes "undefined name: "
message_prefix Circular = codes "circular definition"
message_prefix OutOfRange = codes "out of range"
message_prefix NoValue = codes "zero divisor or bad shift count"
message_prefix TooLarge = codes "expression too large"
message_prefix SectionTooLarge = codes "section too large"
message_prefix (NoSuchScope name) = codes "no such scope: "
message_prefix (ScopeTwice name) = codes "scope defined twice: "
message_prefix NoSuchLabel = codes "no such unnamed label"
message_prefix (ImportedAndDefined name) = codes "imported and defined: "
message_prefix (NotDefined name) = codes "export not defined: "
message_prefix BadAlignment = codes "bad alignment"
message_prefix PopWithoutPush = codes "popseg without pushseg"
message_prefix BadOperand = codes "operand not constant or out of range"
message_prefix BadPart = codes "incbin out of range"
message_prefix (Assertion text) = []
message_prefix SizeChanged = codes "segment size changed"
message_prefix BadScope = codes "scope not open or not closed"
message_prefix FileNotFound = codes "file not found"
message_prefix FileError = codes "file error"
message_prefix FileNameTooLong = codes "file name too long"

-- the name or text at the end of the message
abbrev pub name_in : AsmFault → List ℕ
name_in (Expansion f) = expand_fault_message f
name_in (DefinedTwice name) = name
name_in (Undefined name) = name
name_in (NoSuchScope name) = name
name_in (ScopeTwice name) = name
name_in (ImportedAndDefined name) = name
name_in (NotDefined name) = name
name_in (Assertion text) = text
name_in _ = []

-- the printed text
abbrev pub fault_text : AsmFault → List ℕ
fault_text e = message_prefix e ++ name_in e

-- the displayed text: each byte of a name becomes the character with its code, so ASCII is unchanged
abbrev pub display_text : AsmFault → List ℕ
display_text e = message_prefix e ++ encode_utf8_all (name_in e)

-- out of memory
abbrev pub is_out_of_memory : AsmFault → Bool
is_out_of_memory OutOfMemory = true
is_out_of_memory (Expansion expand.OutOfMemory) = true
is_out_of_memory _ = false

-- a failure of the store
abbrev pub is_failure : AsmFault → Bool
is_failure (Expansion expand.FileError) = true
is_failure FileError = true
is_failure _ = false

abbrev pub is_system_error : AsmFault → Bool
is_system_error e = is_out_of_memory e || is_failure e

-- the error that reports an error of the store while `.incbin` reads its file
abbrev pub of_store : StoreFault → AsmFault
of_store store.OutOfMemory = OutOfMemory
of_store store.FileNotFound = FileNotFound
of_store store.FileError = FileError

-- a statement whose expression can't be parsed isn't understood
abbrev pub of_expr : ExprFault → AsmFault
of_expr expr.OutOfMemory = OutOfMemory
of_expr _ = NotUnderstood
