-- The types of lines, macros, expanders and errors that definitions name.
pub use Rattle.syntax65.specs.declared.expressions.operators.ExprFault.{ExprFault}
pub use Rattle.syntax65.specs.declared.fault.ExpandFault.{ExpandFault}
pub use Rattle.syntax65.specs.declared.fault.ExpandFault.TheVariants.{NotClosed, MacroInside, NotUnderstood, FileNotFound, FileTooLong, FileError, Syntax, Nested, TooManyLines, LineTooLong, TooManyArguments, MacroTwice, NotOpened, NotConstant, CountOutOfRange, OutOfMemory}
pub use Rattle.syntax65.specs.declared.source_location.SourceLocation.{SourceLocation}
pub use Rattle.expand65.specs.declared.expander.Expander.{Expander}
pub use Rattle.expand65.specs.declared.expander.PendingLine.TheVariants.{Nothing, Rest}
pub use Rattle.expand65.specs.declared.expander.Statement.{Statement}
pub use Rattle.expand65.specs.declared.file.OpenFile.{OpenFile}
pub use Rattle.expand65.specs.declared.line_start.Directive.{Directive}
pub use Rattle.expand65.specs.declared.line_start.Directive.TheVariants.{Macro, EndMacro, Repeat, EndRepeat, If, ElseIf, Else, EndIf, ExitMacro, Local, Include, Error, End}
pub use Rattle.expand65.specs.declared.line_start.ConditionKind.{ConditionKind}
pub use Rattle.expand65.specs.declared.line_start.ConditionKind.TheVariants.{True, Defined, NotDefined, Blank, NotBlank}
pub use Rattle.expand65.specs.declared.input.LineSource.{LineSource}
pub use Rattle.expand65.specs.declared.line.StoredLine.{StoredLine}
pub use Rattle.expand65.specs.declared.skipping.Peeked.{Peeked}
pub use Rattle.expand65.specs.declared.macro_replay.Body.{Body}
pub use Rattle.expand65.specs.declared.macro_replay.Replay.{Replay}
pub use Rattle.expand65.specs.declared.input_stack.InputStack.{InputStack}
pub use Rattle.expand65.specs.declared.preprocessor.Preprocessor.{Preprocessor}
