use Rattle.std.proofs.Common.{◌+◌, ap, arith}
use Rattle.std.proofs.lemmas.List.{take_rest}
use Rattle.syntax65.specs.Forms.{IsLongest}
use Rattle.syntax65.specs.declared.lexing.tokens.TokenKind.TheVariants.{Identifier}
use Rattle.syntax65.proofs.FirstToken.{identifier_here, identifier_size}
use Rattle.syntax65.proofs.lexing.positions.identifier_at.Goals as goal

pub returns-then-len-le-MAX_NAME : goal.returns-then-len-le-MAX_NAME
returns-then-len-le-MAX_NAME c =
    let tail = take_rest c.args.here.now 1 in
    let longest : IsLongest c.args.first Identifier (1 + c.identifier_len-len.result) c.args.here.now = identifier_here c.args.first c.args.here.now (1 + c.identifier_len-len.result) c.requires.letter c.requires.no_prefix (ap (λ n. 1 + n) (rw tail at c.identifier_len-len.ensures.count)) in
    let size = identifier_size c.args.first (1 + c.identifier_len-len.result) c.args.here.now longest in
    record { longest = longest; short = omega arith; value = tt }

pub returns-else-len-le-MAX_NAME : goal.returns-else-len-le-MAX_NAME
returns-else-len-le-MAX_NAME c =
    let tail = take_rest c.args.here.now 1 in
    let longest : IsLongest c.args.first Identifier (1 + c.identifier_len-len.result) c.args.here.now = identifier_here c.args.first c.args.here.now (1 + c.identifier_len-len.result) c.requires.letter c.requires.no_prefix (ap (λ n. 1 + n) (rw tail at c.identifier_len-len.ensures.count)) in
    let size = identifier_size c.args.first (1 + c.identifier_len-len.result) c.args.here.now longest in
    (Identifier, 1 + c.identifier_len-len.result, longest, omega arith)
