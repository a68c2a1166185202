use Rattle.std.proofs.lemmas.Str.{is_utf8-from_IsUtf8}
use Rattle.expand65.proofs.FileSearch.{not_utf8}
use Rattle.expand65.proofs.includes.text_of.Goals as goal

pub returns-in-Ok-clause-text : goal.returns-in-Ok-clause-text
returns-in-Ok-clause-text c = (c.in-Ok.ensures.cases.0, is_utf8-from_IsUtf8 c.args.bytes.now c.in-Ok.ensures.cases.1)

pub returns-in-Err-clause-other : goal.returns-in-Err-clause-other
returns-in-Err-clause-other c = not_utf8 c.args.bytes.now c.in-Err.ensures.cases.0
