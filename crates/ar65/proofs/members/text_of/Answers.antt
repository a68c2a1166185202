use Rattle.std.proofs.lemmas.Str.{IsUtf8-from_is_utf8}
use Rattle.ar65.proofs.members.text_of.Goals as goal

pub returns-in-Err : goal.returns-in-Err
returns-in-Err c = λ is. absurd (c.in-Err.ensures.cases.0 (IsUtf8-from_is_utf8 _ is))
