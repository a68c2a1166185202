use Rattle.clap.specs.Words.{with_subcommand}
use Rattle.cli65.specs.CommandLine.{ar65, ca65, ld65, root_command}
use Rattle.cli65.proofs.AddedArguments.{with_command, with_last_command}
use Rattle.cli65.proofs.commands.command.Goals as goal

pub returns : goal.returns
returns c =
    let root = c.command_without_subcommands.ensures in
    let one = with_command root_command ca65 root c.in_ok-assemble.ensures c.in_ok-subcommand.ensures in
    let two = with_command (with_subcommand root_command ca65.top) ld65 one c.in_ok-link.ensures
    c.in_ok-subcommand-2.ensures in
    record { app = with_last_command _ _ _ ar65 c.subcommand-3.result two c.in_ok-archive.ensures c.subcommand-3.ensures }
