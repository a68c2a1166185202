-- The program's errors for errors of clap.
use Rattle.std.specs.Prelude.{ℕ, List, Bool, true, false, codes}
use Rattle.clap.specs.declared.error.kind.ErrorKind.{ErrorKind}
use Rattle.clap.specs.declared.error.kind.ErrorKind.TheVariants as kind
use Rattle.cli65.specs.declared.fault.LineFault.{LineFault}
use Rattle.cli65.specs.declared.fault.LineFault.TheVariants.{OutOfMemory, BadArguments}

abbrev pub of_kind : ErrorKind → LineFault
of_kind kind.OutOfMemory = OutOfMemory
of_kind _ = BadArguments

-- errors that don't depend on the arguments alone: out of memory
abbrev pub is_system_error : LineFault → Bool
is_system_error OutOfMemory = true
is_system_error BadArguments = false

-- the text of an error
abbrev pub line_fault_text : LineFault → List ℕ
line_fault_text OutOfMemory = codes "out of memory"
line_fault_text BadArguments = codes "bad arguments"
