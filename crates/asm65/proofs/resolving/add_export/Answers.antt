use Rattle.std.proofs.Common.{arith}
use Rattle.std.proofs.lemmas.Grind.{common_steps}
use Rattle.asm65.proofs.Exports.{entered_new}
use Rattle.asm65.proofs.resolving.add_export.Goals as goal

pub returns-clause-new : goal.returns-clause-new
returns-clause-new c = entered_new c.args.exported.now.keys c.in_ok-from_slice.field-0 c.args.name.now c.in_ok-insert.field-0 c.in_ok-from_slice.ensures.items c.in_ok-insert.ensures.added

pub returns-clause-names : goal.returns-clause-names
returns-clause-names c = grind (arith, common_steps)
