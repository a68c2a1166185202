use Rattle.object65.specs.Record.{raw_record}
use Rattle.link65.specs.CodeInvariants.{partial_program_in}
use Rattle.link65.proofs.LinkerStates.{took}
use Rattle.link65.proofs.module_reader.add_record.Goals as goal

pub returns-clause-accepted : goal.returns-clause-accepted
returns-clause-accepted c = λ p s comes.
    took p s (raw_record c.args.next.now) (partial_program_in c.args.program_builder.now) (partial_program_in c.add_item.new.program_builder) c.args.opened.now.scan c.take.new.self c.in_ok-item.item comes c.in_ok-item.ensures.scanned c.in_ok-add_item.ensures.partial
