use Rattle.std.proofs.Common.{arith}
use Rattle.std.proofs.lemmas.Grind.{common_steps}
use Rattle.library65.proofs.writing.encode_entry.Goals as goal

pub returns : goal.returns
returns c = grind (arith, common_steps)

pub returns-in_err-encode_names : goal.returns-in_err-encode_names
returns-in_err-encode_names c = grind (arith, common_steps)
