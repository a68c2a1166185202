use Rattle.link65.proofs.TextLemmas.{filled_piece, known_piece}
use Rattle.link65.proofs.texts.is_data.Goals as goal

pub returns-in-Known : goal.returns-in-Known
returns-in-Known c = known_piece c.args.piece.now c.in-Known.bytes c.len.result c.in-Known.is c.len.ensures

pub returns-in-Filled : goal.returns-in-Filled
returns-in-Filled c = filled_piece c.args.piece.now c.in-Filled.field-0 c.in-Filled.is
