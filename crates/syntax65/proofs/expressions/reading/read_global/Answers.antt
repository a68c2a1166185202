use Rattle.std.proofs.lemmas.Result.{err_from_is_err_and}
use Rattle.syntax65.specs.Tokens.{lexemes}
use Rattle.syntax65.proofs.Phrases.{global_stop, global_phrase}
use Rattle.syntax65.proofs.expressions.reading.read_global.Goals as goal

pub returns-in_err-parts-clause-phrase : goal.returns-in_err-parts-clause-phrase
returns-in_err-parts-clause-phrase c =
    let p = err_from_is_err_and c.from_residual.result c.from_residual.ensures.1 in
    rw (p.1, p.2) (global_stop (lexemes c.args.tokens.now) c.args.depth_left c.args.at c.in_err-parts.field-0.0 c.requires.scope c.in_err-parts.ensures.parts)

pub returns-clause-phrase : goal.returns-clause-phrase
returns-clause-phrase c = rw c.new.ensures (global_phrase (lexemes c.args.tokens.now) c.args.depth_left c.args.at c.in_ok-parts.end c.in_ok-parts.parts c.requires.scope c.in_ok-parts.ensures.parts)
