use Rattle.object65.specs.Record.{raw_record}
use Rattle.object65.proofs.ItemLimits.{taken_from, kept_from}
use Rattle.object65.proofs.scan.Scan.take.Goals as goal

pub returns-clause-effect : goal.returns-clause-effect
returns-clause-effect c = λ s same. taken_from s c.args.self.now (raw_record c.args.next.now) c.advance.new.self c.advance.result same c.advance.ensures.scanned

pub returns-clause-kept : goal.returns-clause-kept
returns-clause-kept c = λ s same. kept_from s c.args.self.now (raw_record c.args.next.now) c.advance.new.self c.advance.result same c.advance.ensures.scanned
