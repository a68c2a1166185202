use Rattle.std.proofs.Common.{◌∙◌, sym}
use Rattle.object65.proofs.laws.encoding_is_unique.Goals as goal

pub returns : goal.returns
returns c = λ a b o first second. first.spelled ∙ sym second.spelled
