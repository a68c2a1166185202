use Rattle.std.proofs.Common.{rules}
use Rattle.std.specs.Prelude.{codes}
use Rattle.clap.specs.Words.{new_app}
use Rattle.cli65.specs.CommandLine.{RepresentsApp}
use Rattle.cli65.proofs.AddedArguments.{with_argument, with_last_argument}
use Rattle.cli65.proofs.commands.ld65.Goals as goal

pub returns : goal.returns
returns c =
    let none : RepresentsApp (new_app (codes "ld65")) c.new.result = search rules in
    let script = with_argument _ none c.in_ok-command.ensures in
    let output = with_argument _ script c.in_ok-command-2.ensures in
    let map = with_argument _ output c.in_ok-command-3.ensures in
    with_last_argument _ _ _ c.with_required_positionals.result map c.with_required_positionals.ensures
