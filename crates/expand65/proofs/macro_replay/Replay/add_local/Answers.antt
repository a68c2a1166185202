use Rattle.expand65.proofs.Tables.{with_own}
use Rattle.expand65.proofs.macro_replay.Replay.add_local.Goals as goal

pub returns-clause-added : goal.returns-clause-added
returns-clause-added c = with_own c.args.self.now c.insert.new.self.entries c.in_ok-name.name c.in_ok-line.line c.args.name.now c.in_ok-insert.ensures.entries c.in_ok-name.ensures.items c.in_ok-line.ensures
