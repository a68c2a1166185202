use Rattle.std.proofs.Common.{ap, ◌∙◌, sym, take, false}
use Rattle.semantics65.specs.Symbols.{first_found, nested_scope, scope_from, scope_in, scopes_from}
use Rattle.symbols65.specs.Views.{table_of}
use Rattle.symbols65.proofs.Scopes.{inside_none}
use Rattle.symbols65.proofs.resolving.scopes.scope_of.Goals as goal

pub returns : goal.returns
returns c =
    let before = take c.args.opened (table_of c.args.symbols.now).scopes in
    c.inner_scope-2.ensures
    ∙ ap (nested_scope before c.in_ok-first.names.now) c.in_ok-outer.ensures
    ∙ ap (λ n. nested_scope before c.in_ok-first.names.now (first_found (λ s. scope_in before s n) (scopes_from before c.args.scope))) c.as_slice.ensures
    ∙ sym (ap (λ b. scope_from before c.args.scope b c.args.names.now) c.if-is_global.false ∙ ap (scope_from before c.args.scope false) c.in_ok-first.ensures.cases.0)

pub returns-in_err-outer : goal.returns-in_err-outer
returns-in_err-outer c =
    let before = take c.args.opened (table_of c.args.symbols.now).scopes in
    c.from_residual-in_err-outer.ensures
    ∙ sym (inside_none before c.in_ok-first.names.now)
    ∙ ap (nested_scope before c.in_ok-first.names.now) c.in_err-outer.ensures
    ∙ ap (λ n. nested_scope before c.in_ok-first.names.now (first_found (λ s. scope_in before s n) (scopes_from before c.args.scope))) c.as_slice.ensures
    ∙ sym (ap (λ b. scope_from before c.args.scope b c.args.names.now) c.if-is_global.false ∙ ap (scope_from before c.args.scope false) c.in_ok-first.ensures.cases.0)
