use Rattle.std.proofs.Common.{rules, ◌≡◌, ◌≢◌, ◌-◌, ◌∙◌, None, option_map, arith, inl, inr, position, sym, ap}
use Rattle.std.specs.Str.{bytes_eq}
use Rattle.std.proofs.lemmas.Bool.Decides.{nat_tests}
use Rattle.semantics65.specs.Symbols.{definition_index, first_found, named, outward_from, scopes_from}
use Rattle.symbols65.specs.declared.table.symbols.InternedKey.TheVariants as entry
use Rattle.symbols65.specs.Views.{table_of, interned_names_of}
use Rattle.symbols65.proofs.Scopes.{found_nowhere, outward_first, outward_last, outward_next}
use Rattle.symbols65.proofs.InternedNames.{finds, place_of_entry}
use Rattle.symbols65.proofs.resolving.scopes.defined_outward.Goals as goal
use Rattle.symbols65.proofs.resolving.scopes.defined_outward.Goals.{then-scope-eq-GLOBAL-via-then-scope-eq-GLOBAL, then-scope-eq-GLOBAL-via-else-scope-eq-GLOBAL+then-left-eq0}

pub returns-in_err-name_id : goal.returns-in_err-name_id
returns-in_err-name_id c =
    let t = c.args.symbols.now in
    let n = c.args.name.now in
    let absent : position (bytes_eq n) (interned_names_of t) ≡ None = search rules in
    let result : c.from_residual.result ≡ None = search rules in
    result ∙ found_nowhere (table_of t).scopes (λ s. definition_index (table_of t) (named s n)) (λ s. sym (finds (interned_names_of t) t.definitions.entries (named s n) t.entries_numbered) ∙ ap (λ o. place_of_entry t.definitions.entries (option_map (entry.Named s) o)) absent) (scopes_from (table_of t).scopes c.args.scope)

pub returns-in-Some : goal.returns-in-Some
returns-in-Some c =
    let y = table_of c.args.symbols.now in
    let n = c.args.name.now in
    outward_first y.scopes (λ s. definition_index y (named s n)) c.loop-index.left c.loop-index.scope c.in-Some.index (c.in-Some.ensures n (sym c.in_ok-name_id.ensures)) ∙ c.loop-index.invariant

pub returns-then-scope-eq-GLOBAL : goal.returns-then-scope-eq-GLOBAL
returns-then-scope-eq-GLOBAL c =
    let y = table_of c.args.symbols.now in
    let n = c.args.name.now in
    let none : None ≡ definition_index y (named c.loop-index.scope n) = c.in_default.ensures n (sym c.in_ok-name_id.ensures) in
    elim c.then-scope-eq-GLOBAL.branch [
      | then-scope-eq-GLOBAL-via-then-scope-eq-GLOBAL w ↦ outward_last y.scopes (λ s. definition_index y (named s n)) c.loop-index.left c.loop-index.scope none (inl (let yes = w.if-scope-eq-GLOBAL.true in grind (arith, nat_tests))) ∙ c.loop-index.invariant
      | then-scope-eq-GLOBAL-via-else-scope-eq-GLOBAL+then-left-eq0 w ↦ outward_last y.scopes (λ s. definition_index y (named s n)) c.loop-index.left c.loop-index.scope none (inr (let yes = w.if-left-eq0.true in grind (arith, nat_tests))) ∙ c.loop-index.invariant
    ]

pub loop-index-preserved : goal.loop-index-preserved
loop-index-preserved c =
    let y = table_of c.args.symbols.now in
    let n = c.args.name.now in
    let none : None ≡ definition_index y (named c.loop-index.scope n) = c.in_default.ensures n (sym c.in_ok-name_id.ensures) in
    ap (λ q. first_found (λ s. definition_index y (named s n)) (outward_from y.scopes (c.loop-index.left - 1) q)) c.enclosing-scope.ensures
    ∙ outward_next y.scopes (λ s. definition_index y (named s n)) c.loop-index.left c.loop-index.scope none (let other = c.if-scope-eq-GLOBAL.false in let isnt : c.loop-index.scope ≢ 0 = grind (arith, nat_tests) in isnt) (let other = c.if-left-eq0.false in let isnt : c.loop-index.left ≢ 0 = grind (arith, nat_tests) in isnt)
    ∙ c.loop-index.invariant
