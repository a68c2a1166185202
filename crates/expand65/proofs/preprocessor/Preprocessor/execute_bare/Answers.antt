use Rattle.std.proofs.lemmas.Grind.{common_steps}
use Rattle.std.proofs.Common.{arith}
use Rattle.expand65.proofs.preprocessor.Preprocessor.execute_bare.Goals as goal

pub returns-in-EndIf-clause-keeps : goal.returns-in-EndIf-clause-keeps
returns-in-EndIf-clause-keeps g c = c.end_if.ensures.keeps (g.S.Store.files c.args.store.now)

pub returns-in-ExitMacro-clause-keeps : goal.returns-in-ExitMacro-clause-keeps
returns-in-ExitMacro-clause-keeps g c = c.exit_macro.ensures.keeps (g.S.Store.files c.args.store.now)

pub returns-in-EndIf-clause-outcome : goal.returns-in-EndIf-clause-outcome
returns-in-EndIf-clause-outcome g c = grind (arith, common_steps)

pub returns-in-End-clause-keeps : goal.returns-in-End-clause-keeps
returns-in-End-clause-keeps g c = grind (arith, common_steps)

pub returns-in-EndIf-clause-stopped : goal.returns-in-EndIf-clause-stopped
returns-in-EndIf-clause-stopped g c = grind (arith, common_steps)

pub returns-in-ExitMacro-clause-stopped : goal.returns-in-ExitMacro-clause-stopped
returns-in-ExitMacro-clause-stopped g c = grind (arith, common_steps)

pub returns-in-Else-clause-outcome : goal.returns-in-Else-clause-outcome
returns-in-Else-clause-outcome g c = grind (arith, common_steps)
