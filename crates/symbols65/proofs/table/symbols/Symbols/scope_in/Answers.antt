use Rattle.std.proofs.Common.{◌≡◌, suc, ◌+◌, Some, option_map, sym, ap, ◌∙◌, arith}
use Rattle.semantics65.specs.Symbols.{one_based}
use Rattle.symbols65.specs.declared.table.symbols.ScopeKey.TheVariants as opening
use Rattle.symbols65.specs.Views.{interned_names_of}
use Rattle.symbols65.proofs.InternedNames.{finds_opened, place_of_opening}
use Rattle.symbols65.proofs.table.symbols.Symbols.scope_in.Goals as goal

pub returns-in-Some : goal.returns-in-Some
returns-in-Some c =
    let t = c.args.self.now in
    let index = c.in-Some.index in
    ap Some (let more : index + 1 ≡ suc index = omega arith in more)
    ∙ ap one_based (sym c.in-Some.is ∙ c.scope_index.ensures.index
    ∙ ap (λ o. place_of_opening t.scopes.entries (option_map (opening.Named c.args.within) o)) c.in_ok-name_id.ensures
    ∙ finds_opened (interned_names_of t) t.scopes.entries c.args.within c.args.name.now t.openings_numbered)

pub returns-in_default-2 : goal.returns-in_default-2
returns-in_default-2 c =
    let t = c.args.self.now in
    ap one_based (sym c.in_default.is ∙ c.scope_index.ensures.index
    ∙ ap (λ o. place_of_opening t.scopes.entries (option_map (opening.Named c.args.within) o)) c.in_ok-name_id.ensures
    ∙ finds_opened (interned_names_of t) t.scopes.entries c.args.within c.args.name.now t.openings_numbered)

pub returns-in_err-name_id : goal.returns-in_err-name_id
returns-in_err-name_id c =
    let t = c.args.self.now in
    c.from_residual.ensures
    ∙ ap (λ o. one_based (place_of_opening t.scopes.entries (option_map (opening.Named c.args.within) o))) c.in_err-name_id.ensures
    ∙ ap one_based (finds_opened (interned_names_of t) t.scopes.entries c.args.within c.args.name.now t.openings_numbered)
