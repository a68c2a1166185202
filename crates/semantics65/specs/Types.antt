-- The types of sources and objects that definitions name.
pub use Rattle.syntax65.specs.declared.instructions.names.Mnemonic.{Mnemonic}
pub use Rattle.syntax65.specs.declared.lexing.tokens.AddressSize.{AddressSize}
pub use Rattle.syntax65.specs.declared.source_location.SourceLocation.{SourceLocation}
pub use Rattle.base65.specs.declared.action.Action.{Action}
pub use Rattle.object65.specs.declared.object.Object.{Object}
pub use Rattle.base65.specs.declared.width.Width.{Width}
pub use Rattle.base65.specs.declared.width.Width.TheVariants.{Branch, Byte, Word}
pub use Rattle.ast65.specs.declared.fault.AsmFault.{AsmFault}
pub use Rattle.ast65.specs.declared.fault.AsmFault.TheVariants.{OutOfRange, ImportedAndDefined, NotDefined, Assertion, FileNameTooLong, NotUnderstood, NoSuchForm, DefinedTwice, SectionTooLarge, NoSuchScope, ScopeTwice, BadAlignment, PopWithoutPush, BadOperand, BadPart, SizeChanged, BadScope, FileNotFound, OutOfMemory, Circular, NoValue, TooLarge, NoSuchLabel, Expansion, Undefined}
pub use Rattle.ast65.specs.declared.language.Item.{Item}
pub use Rattle.ast65.specs.declared.language.Item.TheVariants.{Value, StringLiteral}
pub use Rattle.ast65.specs.declared.language.Operand.{Operand}
pub use Rattle.ast65.specs.declared.language.Operand.TheVariants.{Immediate, Address, Indirect, IndirectX, IndirectY, Absent, Accumulator}
pub use Rattle.ast65.specs.declared.language.Statement.{Statement}
pub use Rattle.ast65.specs.declared.language.Statement.TheVariants.{Constant, Instruction, Values, Reserve, Align, Incbin, Import, Export, Global, ForceImport, Assert, IncbinPath, Label, CheapLabel, UnnamedLabel, OpenProc, OpenScope}
pub use Rattle.semantics65.specs.declared.contents.Segment.{Segment}
pub use Rattle.semantics65.specs.declared.contexts.Context.{Context}
pub use Rattle.semantics65.specs.declared.contexts.EncodingChoice.{EncodingChoice}
pub use Rattle.semantics65.specs.declared.contexts.EncodingChoice.TheVariants.{InMode, FillByte, FileOffset, Undecided}
