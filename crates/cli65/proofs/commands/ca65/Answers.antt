use Rattle.std.proofs.Common.{rules}
use Rattle.std.specs.Prelude.{codes}
use Rattle.clap.specs.Words.{new_app}
use Rattle.cli65.specs.CommandLine.{RepresentsApp}
use Rattle.cli65.proofs.AddedArguments.{with_argument, with_last_argument}
use Rattle.cli65.proofs.commands.ca65.Goals as goal

pub returns : goal.returns
returns c =
    let none : RepresentsApp (new_app (codes "ca65")) c.new.result = search rules in
    let output = with_argument _ none c.in_ok-command.ensures in
    let include = with_argument _ output c.in_ok-command-2.ensures in
    let define = with_argument _ include c.in_ok-command-3.ensures in
    let debug = with_argument _ define c.in_ok-command-4.ensures in
    with_last_argument _ _ _ c.with_positional.result debug c.with_positional.ensures
