use Rattle.std.proofs.Common.{◌≡◌, ℕ, ◌+◌, ◌≤◌, ◌<◌, ◌∷◌, [], List, map, ap, sym, ◌∙◌, arith, length, take, drop}
use Rattle.std.proofs.lemmas.Bool.Decides.{nat_tests}
use Rattle.std.proofs.lemmas.List.{map-append, length-map, length-drop, take-map, drop-map, drop-drop}
use Rattle.syntax65.specs.Tokens.{lexeme_of, lexemes}
use Rattle.syntax65.specs.declared.lexing.tokens.Token.{Token}
use Rattle.expand65.specs.Macros.{without_braces, arguments_within}
use Rattle.expand65.specs.Replay.{tokens_in}
use Rattle.expand65.specs.declared.line.StoredLine.{StoredLine}
use Rattle.expand65.proofs.Names.{parts_end, parts_more}
use Rattle.expand65.proofs.macros.split_arguments.Goals as goal

-- the tokens after `n` further tokens
further : (ts : List Token) (at n : ℕ) → drop n (lexemes (drop at ts)) ≡ lexemes (drop (at + n) ts)
further ts at n = drop-map lexeme_of n (drop at ts) ∙ ap lexemes (drop-drop n at ts)

part_line : (line : StoredLine) (part own rest following : List Token) (n : ℕ) → tokens_in line ≡ lexemes own → lexemes own ≡ without_braces (lexemes part) → part ≡ take n following → following ≡ rest → tokens_in line ≡ without_braces (take n (lexemes rest))
part_line line part own rest following n e f g h = e ∙ f ∙ ap without_braces (ap lexemes (g ∙ ap (take n) h) ∙ sym (take-map lexeme_of n rest))

pub returns-then-is_empty : goal.returns-then-is_empty
returns-then-is_empty c =
    let return_location = c.split_at.ensures.back in
    let rest = drop c.parts.at c.args.tokens.now in
    let count = rw return_location at c.argument_len-len.ensures.count in
    let empty : length c.split_at-in-parts.result.1.now ≡ 0 = grind (arith, nat_tests, c.is_empty.ensures, c.if-is_empty.true) in
    let gone : length (lexemes rest) ≤ c.argument_len-len.result = omega (arith, length-map rest lexeme_of, ap length return_location, ap length c.split_at-in-parts.ensures.back, length-drop c.argument_len-len.result c.split_at.result.1.now) in
    let same = part_line c.in_ok-line.line c.split_at-in-parts.result.0.now c.strip_braces.result.now rest c.split_at.result.1.now c.argument_len-len.result c.in_ok-line.ensures c.strip_braces.ensures c.split_at-in-parts.ensures.front return_location in
    rw (c.in_ok-push.ensures.ok, map-append tokens_in c.parts.lines (c.in_ok-line.line ∷ []))
    (parts_end (map tokens_in c.parts.lines) (map without_braces (arguments_within 0 (lexemes c.args.tokens.now))) (lexemes rest) (tokens_in c.in_ok-line.line) c.argument_len-len.result count gone same c.parts.invariant.so_far)

pub parts-preserved : goal.parts-preserved
parts-preserved c =
    let return_location = c.split_at.ensures.back in
    let rest = drop c.parts.at c.args.tokens.now in
    let n = c.argument_len-len.result in
    let count = rw return_location at c.argument_len-len.ensures.count in
    let some : 0 < length c.split_at-in-parts.result.1.now = grind (arith, nat_tests, c.is_empty.ensures, c.if-is_empty.false) in
    let more : c.argument_len-len.result < length (lexemes rest) = omega (arith, length-map rest lexeme_of, ap length return_location, ap length c.split_at-in-parts.ensures.back, length-drop c.argument_len-len.result c.split_at.result.1.now) in
    let same = part_line c.in_ok-line.line c.split_at-in-parts.result.0.now c.strip_braces.result.now rest c.split_at.result.1.now c.argument_len-len.result c.in_ok-line.ensures c.strip_braces.ensures c.split_at-in-parts.ensures.front return_location in
    record {
      so_far = rw (c.in_ok-push.ensures.ok, map-append tokens_in c.parts.lines (c.in_ok-line.line ∷ []), ← further c.args.tokens.now c.parts.at (c.argument_len-len.result + 1))
          (parts_more (map tokens_in c.parts.lines) (map without_braces (arguments_within 0 (lexemes c.args.tokens.now))) (lexemes rest) (tokens_in c.in_ok-line.line) c.argument_len-len.result count more same c.parts.invariant.so_far);
      inside = omega (arith, length-map rest lexeme_of, length-drop c.parts.at c.args.tokens.now, more);
    }
