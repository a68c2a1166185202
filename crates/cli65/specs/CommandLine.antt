-- The definition of the command line, in terms of clap.
use Rattle.std.specs.Prelude.{◌≡◌, ℕ, Some, true, false, codes}
use Rattle.clap.specs.Words.{App, Rule, Text, app_of, new_rule, new_app, with_rule, with_subcommand}
use Rattle.clap.specs.Simple.{new_shape}
use Rattle.clap.specs.declared.builder.action.ArgAction.TheVariants.{Append, SetTrue}
use Rattle.clap.specs.declared.builder.command.Command.{Command}
use Rattle.clap.specs.declared.builder.command.Command.TheViews.{out-Command}

-- an option with one value that may occur once
abbrev pub option_rule : Text → ℕ → Rule
option_rule id short = record (new_rule id) { short = Some short }

abbrev pub required_option_rule : Text → ℕ → Rule
required_option_rule id short = record (new_rule id) { short = Some short; required = true }

-- an option with one value that may be repeated
abbrev pub repeated_option_rule : Text → ℕ → Rule
repeated_option_rule id short = record (new_rule id) { short = Some short; action = Some Append }

-- an option without a value
abbrev pub flag_rule : Text → ℕ → Rule
flag_rule id short = record (new_rule id) { short = Some short; action = Some SetTrue }

-- a required positional argument
abbrev pub positional_rule : Text → Rule
positional_rule id = record (new_rule id) { required = true }

-- a positional argument with any number of values
abbrev pub optional_positionals_rule : Text → Rule
optional_positionals_rule id = record (new_rule id) { action = Some Append }

-- a positional argument with one or more values
abbrev pub required_positionals_rule : Text → Rule
required_positionals_rule id = record (new_rule id) { action = Some Append; required = true }

-- `ca65 [-o FILE] [-I DIR].. [-D NAME[=NUMBER]].. [-g] SOURCE`
abbrev pub ca65 : App
ca65 = with_rule (with_rule (with_rule (with_rule (with_rule (new_app (codes "ca65"))
    (option_rule (codes "output") 111))
    (repeated_option_rule (codes "include") 73))
    (repeated_option_rule (codes "define") 68))
    (flag_rule (codes "debug") 103))
    (positional_rule (codes "source"))

-- `ld65 -C SCRIPT [-o FILE] [-m MAP] INPUT..`
abbrev pub ld65 : App
ld65 = with_rule (with_rule (with_rule (with_rule (new_app (codes "ld65"))
    (required_option_rule (codes "script") 67))
    (option_rule (codes "output") 111))
    (option_rule (codes "map") 109))
    (required_positionals_rule (codes "input"))

-- `ar65 OP LIBRARY [FILE]..`
abbrev pub ar65 : App
ar65 = with_rule (with_rule (with_rule (new_app (codes "ar65"))
    (positional_rule (codes "operation")))
    (positional_rule (codes "library")))
    (optional_positionals_rule (codes "file"))

-- the command without its subcommands: it requires one, and has neither help nor version
abbrev pub root_command : App
root_command = record (new_app (codes "bin65")) {
  top = record (new_shape (codes "bin65")) {
    disable_help_flag = true;
    disable_help_subcommand = true;
    subcommand_required = true;
  };
}

-- the command with all subcommands
abbrev pub bin65 : App
bin65 = with_subcommand (with_subcommand (with_subcommand root_command ca65.top) ld65.top) ar65.top

-- c represents a, and none of its arguments is global
pub record RepresentsApp (a : App) (c : Command) : Type 0 where
  pub app : app_of c ≡ a
  pub local : (out-Command c).has_globals ≡ false

-- new is old with another argument, which isn't global
pub record AddsArgument (old : Command) (r : Rule) (new : Command) : Type 0 where
  pub app : app_of new ≡ with_rule (app_of old) r
  pub local : (out-Command new).has_globals ≡ (out-Command old).has_globals
