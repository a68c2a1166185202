-- Laws of command lines, whatever their arguments.
use Rattle.std.specs.Prelude.{List}
use Rattle.clap.specs.Words.{Text}
use Rattle.base65.specs.SystemErrors.{IsNoSystemError}
use Rattle.cli65.specs.Line.{line_of}
use Rattle.cli65.specs.LineFaults.{is_system_error}

-- any arguments are a command line or bad arguments, which is the only error that isn't a
-- system error
abbrev pub LineExists : Type 0
LineExists = (args : List Text) → IsNoSystemError is_system_error (line_of args)
