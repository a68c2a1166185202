use Rattle.std.proofs.lemmas.Grind.{common_steps}
use Rattle.std.proofs.Common.{arith}
use Rattle.semantics65.specs.Layout.{context_of, own_size}
use Rattle.symbols65.proofs.measuring.bytes.instruction.Goals as goal

pub returns-in_default : goal.returns-in_default
returns-in_default c = λ y h. (let w = c.args.cursor.now in let is = c.mode.ensures y (context_of w) (own_size w) h in grind (arith, common_steps, is))

pub returns-in_err-length : goal.returns-in_err-length
returns-in_err-length c = λ y h. (let w = c.args.cursor.now in let is = c.mode.ensures y (context_of w) (own_size w) h in grind (arith, common_steps, is))

pub returns : goal.returns
returns c = λ y h. (let w = c.args.cursor.now in let is = c.mode.ensures y (context_of w) (own_size w) h in grind (arith, common_steps, is))
