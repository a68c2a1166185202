use Rattle.std.proofs.Common.{rules}
use Rattle.std.specs.Prelude.{codes}
use Rattle.clap.specs.Words.{new_app}
use Rattle.cli65.specs.CommandLine.{RepresentsApp}
use Rattle.cli65.proofs.AddedArguments.{with_argument, with_last_argument}
use Rattle.cli65.proofs.commands.ar65.Goals as goal

pub returns : goal.returns
returns c =
    let none : RepresentsApp (new_app (codes "ar65")) c.new.result = search rules in
    let operation = with_argument _ none c.in_ok-command.ensures in
    let library = with_argument _ operation c.in_ok-command-2.ensures in
    with_last_argument _ _ _ c.with_optional_positionals.result library c.with_optional_positionals.ensures
