use Rattle.std.proofs.lemmas.Grind.{common_steps}
use Rattle.std.proofs.Common.{arith}
use Rattle.asm65.proofs.resolving.resolve_datum.Goals as goal

pub returns-in_ok-from_slice-in-Some-clause-piece : goal.returns-in_ok-from_slice-in-Some-clause-piece
returns-in_ok-from_slice-in-Some-clause-piece c = grind (arith, common_steps)
