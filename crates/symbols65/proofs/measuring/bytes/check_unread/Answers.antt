use Rattle.std.proofs.Common.{◌≡◌, ◌∙◌, Option, ap, refl, subst, sym}
use Rattle.std.specs.Prelude.{◌++◌, Result}
use Rattle.std.proofs.lemmas.Result.{err_from_is_err_and}
use Rattle.syntax65.specs.Trees.{Tree}
use Rattle.ast65.specs.declared.fault.AsmFault.{AsmFault}
use Rattle.semantics65.specs.Layout.{Cursor, context_of, missing_scopes_fault, optional_tree, own_size, unless_fault}
use Rattle.semantics65.specs.Symbols.{Symbols}
use Rattle.symbols65.specs.Evaluations.{IsEvaluated}
use Rattle.symbols65.specs.Views.{table_of}
use Rattle.symbols65.specs.declared.constants.Evaluation.{Evaluation}
use Rattle.symbols65.proofs.StatementLayouts.{refused_same}
use Rattle.symbols65.proofs.FileParts.{unread_len, unread_lost, unread_start, unread_well}
use Rattle.symbols65.proofs.measuring.bytes.check_unread.Goals as goal

abbrev checks : Symbols → Cursor → Option Tree → Option Tree → Result (Unit {0}) AsmFault
checks y w start len = unless_fault (missing_scopes_fault y.scopes w.scope (optional_tree start ++ optional_tree len)) tt

same_checks : (y : Symbols) (w : Cursor) (a start b len : Option Tree) → a ≡ start → b ≡ len → checks y w start len ≡ checks y w a b
same_checks y w a start b len p q = sym (ap (λ x. checks y w x b) p ∙ ap (checks y w start) q)

same_found : (y : Symbols) (w : Cursor) (a start : Option Tree) (o : Option Evaluation) → a ≡ start → IsEvaluated y (context_of w) (own_size w) a o → IsEvaluated y (context_of w) (own_size w) start o
same_found y w a start o p h = subst (λ (x : Option Tree). IsEvaluated y (context_of w) (own_size w) x o) p h

pub returns-in_err-found : goal.returns-in_err-found
returns-in_err-found c =
    let p = err_from_is_err_and c.from_residual.result c.from_residual.ensures.1 in
    let e = c.in_err-found.field-0.0 in
    let y = table_of c.args.before.symbols.now in
    let w = c.args.before.cursor.now in
    let range = c.args.range in
    rw (p.1, p.2) (unread_lost y w range.start.now range.len.now (context_of w) refl w.scope e refl (refused_same e _ _ (same_checks y w _ range.start.now _ range.len.now c.get.ensures c.get-2.ensures) c.in_err-found.ensures.scopes))

pub returns-in_err-optional_constant : goal.returns-in_err-optional_constant
returns-in_err-optional_constant c =
    let p = err_from_is_err_and c.from_residual-in_err-optional_constant.result c.from_residual-in_err-optional_constant.ensures.1 in
    let e = c.in_err-optional_constant.field-0.0 in
    let y = table_of c.args.before.symbols.now in
    let w = c.args.before.cursor.now in
    let range = c.args.range in
    let none = same_checks y w _ range.start.now _ range.len.now c.get.ensures c.get-2.ensures ∙ c.in_ok-found.ensures.scopes in
    rw (p.1, p.2) (unread_start y w range.start.now range.len.now (context_of w) refl w.scope refl none e
    (c.in_err-optional_constant.ensures y (context_of w) (own_size w) range.start.now (same_found y w _ range.start.now c.in_ok-found.found.first c.get.ensures c.in_ok-found.ensures.first)))

pub returns-in_err-optional_constant-2 : goal.returns-in_err-optional_constant-2
returns-in_err-optional_constant-2 c =
    let p = err_from_is_err_and c.from_residual-in_err-optional_constant-2.result c.from_residual-in_err-optional_constant-2.ensures.1 in
    let e = c.in_err-optional_constant-2.field-0.0 in
    let y = table_of c.args.before.symbols.now in
    let w = c.args.before.cursor.now in
    let range = c.args.range in
    let none = same_checks y w _ range.start.now _ range.len.now c.get.ensures c.get-2.ensures ∙ c.in_ok-found.ensures.scopes in
    rw (p.1, p.2) (unread_len y w range.start.now range.len.now (context_of w) refl w.scope refl none e
    (c.in_err-optional_constant-2.ensures y (context_of w) (own_size w) range.len.now (same_found y w _ range.len.now c.in_ok-found.found.second c.get-2.ensures c.in_ok-found.ensures.second)))

pub returns : goal.returns
returns c =
    let y = table_of c.args.before.symbols.now in
    let w = c.args.before.cursor.now in
    let s = context_of w in
    let range = c.args.range in
    let none = same_checks y w _ range.start.now _ range.len.now c.get.ensures c.get-2.ensures ∙ c.in_ok-found.ensures.scopes in
    unread_well y w range.start.now range.len.now s refl w.scope refl none c.in_ok-optional_constant.field-0 c.in_ok-optional_constant-2.field-0
    (c.in_ok-optional_constant.ensures y s (own_size w) range.start.now (same_found y w _ range.start.now c.in_ok-found.found.first c.get.ensures c.in_ok-found.ensures.first))
    (c.in_ok-optional_constant-2.ensures y s (own_size w) range.len.now (same_found y w _ range.len.now c.in_ok-found.found.second c.get-2.ensures c.in_ok-found.ensures.second))
