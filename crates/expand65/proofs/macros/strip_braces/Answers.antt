use Rattle.std.proofs.Common.{◌≡◌, ◌-◌, true, List, length, map, take, drop, ap, sym, ◌∙◌, arith}
use Rattle.std.proofs.lemmas.List.{take-map, drop-map, length-map}
use Rattle.syntax65.specs.Tokens.{lexeme_of, lexemes}
use Rattle.syntax65.specs.declared.lexing.tokens.Token.{Token}
use Rattle.expand65.specs.Macros.{is_braced, without_braces}
use Rattle.expand65.proofs.macros.strip_braces.Goals as goal

inside : (ts : List Token) → is_braced (lexemes ts) ≡ true → lexemes (take (length ts - 1 - 1) (drop 1 ts)) ≡ without_braces (lexemes ts)
inside ts h =
    let n : length ts - 1 - 1 ≡ length (map lexeme_of ts) - 2 = omega (arith, length-map ts lexeme_of) in
    rw (h, n) (sym (take-map lexeme_of (length (map lexeme_of ts) - 2) (drop 1 ts)) ∙ ap (take (length (map lexeme_of ts) - 2)) (sym (drop-map lexeme_of 1 ts)))

pub returns-in-len2-up : goal.returns-in-len2-up
returns-in-len2-up c = inside c.args.tokens.now (sym c.is_braced.ensures ∙ c.if-is_braced.true)
