-- Errors of tokens, expressions and the preprocessor: their texts, and which are system errors.
use Rattle.std.specs.Prelude.{ℕ, List, codes, Bool, true, false}
use Rattle.syntax65.specs.declared.lexing.tokens.LexFault.{LexFault}
use Rattle.syntax65.specs.declared.expressions.operators.ExprFault.{ExprFault}
use Rattle.syntax65.specs.declared.expressions.operators.ExprFault.TheVariants as expr
use Rattle.syntax65.specs.declared.lexing.tokens.LexFault.TheVariants as lex
use Rattle.base65.specs.declared.store.StoreFault.{StoreFault}
use Rattle.base65.specs.declared.store.StoreFault.TheVariants as store
use Rattle.syntax65.specs.declared.fault.ExpandFault.{ExpandFault}
use Rattle.syntax65.specs.declared.fault.ExpandFault.TheVariants.{FailedBefore, OutOfMemory, Syntax, FileNotFound, FileError, NotConstant, Nested, TooManyLines, NotClosed, NotOpened, TooManyArguments, MacroTwice, MacroInside, CountOutOfRange, FileTooLong, Error, NotUnderstood, LineTooLong}

-- ---- The texts of errors of tokens and expressions.

abbrev pub lex_fault_message : LexFault → List ℕ
lex_fault_message lex.OutOfMemory = codes "out of memory"
lex_fault_message lex.BadCharacter = codes "bad character"
lex_fault_message lex.BadNumber = codes "bad number"
lex_fault_message lex.StringNotClosed = codes "string not closed"
lex_fault_message lex.LineTooLong = codes "line too long"
lex_fault_message lex.NameTooLong = codes "name too long"

-- whether the error is a system error: out of memory
abbrev pub is_lex_system_error : LexFault → Bool
is_lex_system_error lex.OutOfMemory = true
is_lex_system_error _ = false

abbrev pub expr_fault_message : ExprFault → List ℕ
expr_fault_message expr.OutOfMemory = codes "out of memory"
expr_fault_message expr.OperandExpected = codes "operand expected"
expr_fault_message expr.ParenthesisExpected = codes "parenthesis expected"
expr_fault_message expr.TooDeep = codes "nested too deep"

abbrev pub is_expr_system_error : ExprFault → Bool
is_expr_system_error expr.OutOfMemory = true
is_expr_system_error _ = false

-- ---- The errors of the preprocessor: their texts, and which are system errors.

-- the text of the message
abbrev pub expand_fault_message : ExpandFault → List ℕ
expand_fault_message (Syntax fault) = lex_fault_message fault
expand_fault_message (Error text) = text
expand_fault_message FailedBefore = codes "failed before"
expand_fault_message OutOfMemory = codes "out of memory"
expand_fault_message FileNotFound = codes "file not found"
expand_fault_message FileError = codes "file error"
expand_fault_message NotConstant = codes "not constant"
expand_fault_message Nested = codes "nested over 256"
expand_fault_message TooManyLines = codes "too many lines"
expand_fault_message NotClosed = codes "block not closed"
expand_fault_message NotOpened = codes "block end without begin"
expand_fault_message TooManyArguments = codes "too many arguments"
expand_fault_message MacroTwice = codes "macro defined twice"
expand_fault_message MacroInside = codes "macro inside macro"
expand_fault_message CountOutOfRange = codes "repeat count out of range"
expand_fault_message FileTooLong = codes "file too long"
expand_fault_message NotUnderstood = codes "directive not understood"
expand_fault_message LineTooLong = codes "replaced line too long"

-- out of memory, or a failure of the store
abbrev pub is_system_error : ExpandFault → Bool
is_system_error OutOfMemory = true
is_system_error FileError = true
is_system_error _ = false

-- a failure of the store
abbrev pub is_failure : ExpandFault → Bool
is_failure FileError = true
is_failure _ = false

-- the error of a line that can't be split into tokens
abbrev pub fault_of_lexing : LexFault → ExpandFault
fault_of_lexing lex.OutOfMemory = OutOfMemory
fault_of_lexing fault = Syntax fault

-- an expression that can't be parsed is a directive that isn't understood
abbrev pub fault_of_parsing : ExprFault → ExpandFault
fault_of_parsing expr.OutOfMemory = OutOfMemory
fault_of_parsing fault = NotUnderstood

-- the error that reports an error of the store
abbrev pub fault_of_store : StoreFault → ExpandFault
fault_of_store store.OutOfMemory = OutOfMemory
fault_of_store store.FileNotFound = FileNotFound
fault_of_store store.FileError = FileError
