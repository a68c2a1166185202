use Rattle.std.proofs.lemmas.Grind.{common_steps}
use Rattle.std.proofs.Common.{arith}
use Rattle.expand65.proofs.preprocessor.Preprocessor.execute_with_operands.Goals as goal

pub returns-in-Else-clause-stopped : goal.returns-in-Else-clause-stopped
returns-in-Else-clause-stopped g c = c.execute_bare.ensures.stopped (g.K.Knows.meaning c.args.knows.now)

pub returns-in-EndMacro-clause-stopped : goal.returns-in-EndMacro-clause-stopped
returns-in-EndMacro-clause-stopped g c = c.execute_bare-in-EndMacro.ensures.stopped (g.K.Knows.meaning c.args.knows.now)

pub returns-in-ExitMacro-clause-stopped : goal.returns-in-ExitMacro-clause-stopped
returns-in-ExitMacro-clause-stopped g c = c.execute_bare-in-ExitMacro.ensures.stopped (g.K.Knows.meaning c.args.knows.now)

pub returns-in-Local-clause-keeps : goal.returns-in-Local-clause-keeps
returns-in-Local-clause-keeps g c = c.add_locals.ensures.keeps (g.S.Store.files c.args.store.now)

pub returns-in_ok-text-in-Error-clause-frame : goal.returns-in_ok-text-in-Error-clause-frame
returns-in_ok-text-in-Error-clause-frame g c = grind (arith, common_steps)
