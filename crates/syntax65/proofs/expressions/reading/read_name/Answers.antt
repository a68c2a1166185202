use Rattle.std.proofs.lemmas.Result.{err_from_is_err_and}
use Rattle.syntax65.specs.Tokens.{lexemes}
use Rattle.syntax65.proofs.Phrases.{name_stop, name_phrase, plain_phrase}
use Rattle.syntax65.proofs.expressions.reading.read_name.Goals as goal

pub returns-in_err-parts-clause-phrase : goal.returns-in_err-parts-clause-phrase
returns-in_err-parts-clause-phrase c =
    let p = err_from_is_err_and c.from_residual-in_err-parts.result c.from_residual-in_err-parts.ensures.1 in
    rw (p.1, p.2) (name_stop (lexemes c.args.tokens.now) c.args.depth_left c.args.at c.in_err-parts.field-0.0 c.requires.name c.in_err-parts.ensures.parts)

pub returns-clause-phrase : goal.returns-clause-phrase
returns-clause-phrase c = rw c.new-2.ensures (name_phrase (lexemes c.args.tokens.now) c.args.depth_left c.args.at c.in_ok-parts.end c.in_ok-parts.parts c.in_ok-parts.ensures.parts)

pub returns-then-not-is_scope-clause-phrase : goal.returns-then-not-is_scope-clause-phrase
returns-then-not-is_scope-clause-phrase c =
    rw (c.new.ensures, c.in_ok-name.ensures, c.text_at.ensures)
    (plain_phrase (lexemes c.args.tokens.now) c.args.depth_left c.args.at c.requires.name (λ e. let t = c.if-not-is_scope.ensures.value.1 e in cc))
