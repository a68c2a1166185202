use Rattle.std.proofs.Common.{◌∷◌, [], Some, true, length, ◌+◌, ◌<◌, map, ap, sym, ◌∙◌, arith, drop, refl}
use Rattle.std.proofs.lemmas.List.{map-append, length-map}
use Rattle.std.specs.Option.{option_map}
use Rattle.syntax65.specs.Tokens.{lexeme_of, lexemes}
use Rattle.expand65.specs.LineStart.{names_from}
use Rattle.expand65.proofs.Names.{no_name, last_name, name_alone, name_and_comma, found_none, found_last, found_next}
use Rattle.expand65.proofs.macros.names_of.Goals as goal

pub returns-in-None : goal.returns-in-None
returns-in-None c =
    let ts = lexemes c.args.tokens.now in
    let none = sym c.name_at.ensures.name ∙ ap (option_map (λ s. s.now)) c.in-None.is in
    found_none (names_from true ts) (names_from true (drop c.names.at ts)) (map (λ s. s.now) c.names.names.items) c.names.invariant (no_name ts c.names.at none)

pub returns-then-at-tokens : goal.returns-then-at-tokens
returns-then-at-tokens c =
    let ts = lexemes c.args.tokens.now in
    let some = sym c.name_at.ensures.name ∙ ap (option_map (λ s. s.now)) c.in-Some.is in
    let all = c.if-at-tokens.true ∙ sym (length-map c.args.tokens.now lexeme_of) in
    ap (λ l. Some (map (λ s. s.now) l)) c.in_ok-push.ensures.items ∙ ap Some (map-append (λ s. s.now) c.names.names.items (c.in-Some.name ∷ []))
    ∙ found_last (names_from true ts) (names_from true (drop c.names.at ts)) (map (λ s. s.now) c.names.names.items) c.in-Some.name.now c.names.invariant (last_name ts c.names.at c.in-Some.name.now some all)

pub returns-then-not-is_comma_at : goal.returns-then-not-is_comma_at
returns-then-not-is_comma_at c =
    let ts = lexemes c.args.tokens.now in
    let some = sym c.name_at.ensures.name ∙ ap (option_map (λ s. s.now)) c.in-Some.is in
    let inside : c.names.at < length c.args.tokens.now = c.in-Some.ensures.in_bounds refl in
    let more : c.names.at + 1 < length ts = omega (arith, length-map c.args.tokens.now lexeme_of, c.if-at-tokens.false, inside) in
    found_none (names_from true ts) (names_from true (drop c.names.at ts)) (map (λ s. s.now) c.names.names.items) c.names.invariant (name_alone ts c.names.at c.in-Some.name.now some more (sym c.is_comma_at.ensures.comma ∙ c.if-not-is_comma_at.true))

pub names-preserved : goal.names-preserved
names-preserved c =
    let ts = lexemes c.args.tokens.now in
    let some = sym c.name_at.ensures.name ∙ ap (option_map (λ s. s.now)) c.in-Some.is in
    rw (c.in_ok-push.ensures.items, map-append (λ s. s.now) c.names.names.items (c.in-Some.name ∷ []))
    (found_next (names_from true ts) (names_from true (drop c.names.at ts)) (names_from true (drop (c.names.at + 2) ts)) (map (λ s. s.now) c.names.names.items) c.in-Some.name.now c.names.invariant (name_and_comma ts c.names.at c.in-Some.name.now some (sym c.is_comma_at.ensures.comma ∙ c.if-not-is_comma_at.false)))
