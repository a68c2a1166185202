use Rattle.std.proofs.Common.{◌≡◌, ◌∙◌, ◌||◌, ◌∷◌, [], ◌++◌, List, ℕ, Bool, false, map, if◌then◌else◌, sym, ap}
use Rattle.link65.specs.Names.{is_among}
use Rattle.link65.specs.Representation.{names_in}
use Rattle.link65.proofs.DefinedNameLemmas.{inserted}
use Rattle.link65.proofs.name_checks.add_missing.Goals as goal

pub returns-in_ok-insert : goal.returns-in_ok-insert
returns-in_ok-insert c =
    let names = map (λ n. n.items) c.args.missing.now.keys in
    let name = c.args.name.now in
    let none : is_among (names_in c.args.provided.now) name ≡ false = cc (c.has.ensures, c.if-not-has.true) in
    ap (map (λ n. n.items)) c.in_ok-insert.ensures.keys
    ∙ inserted (λ n. n.items) c.args.missing.now.keys c.in_ok-from_slice.field-0
    ∙ ap (λ (n : List ℕ). if is_among names n then names else names ++ n ∷ []) c.in_ok-from_slice.ensures.items
    ∙ ap (λ (b : Bool). if b || is_among names name then names else names ++ name ∷ []) (sym none)
