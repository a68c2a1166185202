-- Laws about tokens.
use Rattle.std.specs.Prelude.{List, Result}
use Rattle.base65.specs.SystemErrors.{IsNoSystemError}
use Rattle.syntax65.specs.Tokens.{Lexeme}
use Rattle.ast65.specs.Faults.{is_system_error}
use Rattle.ast65.specs.Parsing.{IsStatement}
use Rattle.ast65.specs.declared.fault.AsmFault.{AsmFault}
use Rattle.ast65.specs.declared.language.Statement.{Statement}

-- tokens have a result, a statement or an error, which is no system error
abbrev pub StatementExists : Type 0
StatementExists =
    (ts : List Lexeme) →
    (r : Result Statement AsmFault) × IsStatement ts r × IsNoSystemError is_system_error r
