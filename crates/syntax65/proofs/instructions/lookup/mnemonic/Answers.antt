use Rattle.std.proofs.lemmas.Grind.{common_steps}
use Rattle.std.proofs.Common.{arith}
use Rattle.syntax65.proofs.Mnemonics.{of_three, of_others}
use Rattle.syntax65.proofs.instructions.lookup.mnemonic.Goals as goal

pub returns-in-len3-clause-value : goal.returns-in-len3-clause-value
returns-in-len3-clause-value c = of_three c.mnemonic_of_letters.result c.args.bytes.now _ _ _ (omega arith) c.to_ascii_lowercase.ensures.value c.to_ascii_lowercase-in-len3.ensures.value c.to_ascii_lowercase-in-len3-2.ensures.value c.mnemonic_of_letters.ensures

pub returns-in_default-clause-value : goal.returns-in_default-clause-value
returns-in_default-clause-value c = of_others c.args.bytes.now (λ e. absurd (omega (arith, e)))

pub returns-in_default-2-clause-value : goal.returns-in_default-2-clause-value
returns-in_default-2-clause-value c = of_others c.args.bytes.now (λ e. absurd (omega (arith, e)))

pub returns-in_default-2-clause-spelled : goal.returns-in_default-2-clause-spelled
returns-in_default-2-clause-spelled c = grind (arith, common_steps)
