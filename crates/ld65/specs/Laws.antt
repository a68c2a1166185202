-- Laws of the linker's command lines, whatever the files.
use Rattle.std.specs.Prelude.{◌≡◌, ◌≢◌, ◌+◌, ◌-◌, List, length, Some, Result, Ok, IfSome}
use Rattle.std.specs.FinMap.{get}
use Rattle.std.specs.List.{AllByRecursion}
use Rattle.base65.specs.SystemErrors.{IsNoSystemError}
use Rattle.base65.specs.Store.{FailedCall, Files}
use Rattle.library65.specs.declared.index.Entry.{Entry}
use Rattle.script65.specs.declared.script.Script.{Script}
use Rattle.link65.specs.declared.linking.Linked.{Linked}
use Rattle.cli65.specs.Line.{LinkView}
use Rattle.ld65.specs.Linkage.{IsCommandLink, IsScriptedLink, index_in}
use Rattle.ld65.specs.Naming.{IsCommandFailure}
use Rattle.ld65.specs.Faults.{is_system_error, error_message}
use Rattle.ld65.specs.declared.fault.LinkCommandFault.{LinkCommandFault}

-- by any script a command line has a result for any files, and that is no system error
abbrev pub ScriptedLinkExists : Type 0
ScriptedLinkExists =
    (m : Files) (l : LinkView) (s : Script) →
    (r : Result Linked LinkCommandFault) × IsScriptedLink m l s r × IsNoSystemError is_system_error r

-- the same of a command line, by the script that it names
abbrev pub CommandLinkExists : Type 0
CommandLinkExists =
    (m : Files) (l : LinkView) →
    (r : Result Linked LinkCommandFault) × IsCommandLink m l r × IsNoSystemError is_system_error r

-- The place of a failed call tells which part of a library it asked for: it isn't where a member ends, which is where the next
-- one begins, nor that of the file's last byte, which both the index and the last member ask for.
abbrev pub IdentifiesPart : Files → FailedCall → Type 0
IdentifiesPart m c =
    (es : List Entry) → index_in m c.name ≡ Ok es →
    AllByRecursion (λ e. c.at ≢ Some (e.place + e.size)) es × IfSome (get m c.name) (λ bytes. c.at ≢ Some (length bytes - 1))

-- a call that failed has at most one message
abbrev pub LinkNamingIsUnique : Type 0
LinkNamingIsUnique =
    (m : Files) (l : LinkView) (c : FailedCall) (e f : LinkCommandFault) → IdentifiesPart m c →
    IsCommandFailure (Some m) (Some c) l e → IsCommandFailure (Some m) (Some c) l f → error_message l e ≡ error_message l f
