use Rattle.std.proofs.Common.{arith}
use Rattle.std.proofs.lemmas.List.{take_rest}
use Rattle.syntax65.proofs.FirstToken.{text_here, open_text_here}
use Rattle.syntax65.proofs.lexing.positions.string_at.Goals as goal

pub returns-then-len-rest : goal.returns-then-len-rest
returns-then-len-rest c = λ first.
    let tail = take_rest c.args.here.now 1 in
    record { longest = text_here first c.args.here.now c.len_before_quote-len.result c.requires (rw tail at c.len_before_quote-len.ensures.count) (rw tail at c.if-len-rest.true); short = omega arith; value = tt }

pub returns-else-len-rest : goal.returns-else-len-rest
returns-else-len-rest c = λ first.
    let tail = take_rest c.args.here.now 1 in
    open_text_here first c.args.here.now c.requires (rw (rw tail at c.len_before_quote-len.ensures.count) at (rw tail at c.if-len-rest.false))
