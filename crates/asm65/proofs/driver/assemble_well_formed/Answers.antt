use Rattle.semantics65.specs.Views.{location_in}
use Rattle.asm65.proofs.Runs.{sound_leaves}
use Rattle.asm65.proofs.driver.assemble_well_formed.Goals as goal

pub returns-then-is_well_formed-clause-transitions : goal.returns-then-is_well_formed-clause-transitions
returns-then-is_well_formed-clause-transitions c =
    sound_leaves (location_in c.args.at.file.now c.args.at.line) c.args.statement c.args.assembler.now c.assemble_statement.new.self c.assemble_statement.result (c.is_well_formed.ensures.sound c.if-is_well_formed.true) c.assemble_statement.ensures.transitions c.assemble_statement.ensures.texts
