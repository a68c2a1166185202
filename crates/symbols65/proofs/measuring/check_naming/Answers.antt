use Rattle.std.proofs.Common.{Option, Result, Ok, Err, subst}
use Rattle.std.specs.Prelude.{◌&&◌}
use Rattle.std.proofs.lemmas.Result.{err_from_is_err_and}
use Rattle.ast65.specs.declared.fault.AsmFault.{AsmFault}
use Rattle.ast65.specs.declared.fault.AsmFault.TheVariants.{NotUnderstood}
use Rattle.ast65.specs.declared.language.Statement.{Statement}
use Rattle.semantics65.specs.declared.contexts.Context.{Context}
use Rattle.semantics65.specs.Symbols.{Symbols, key_defined}
use Rattle.semantics65.specs.Layout.{context_of, defined_twice, is_not_global, missing_scopes_fault, opened_twice, or_then, scope_name, is_global_only, trees_of, fault_if}
use Rattle.symbols65.specs.Measuring.{ChecksStatement, naming_fault}
use Rattle.symbols65.specs.Views.{table_of}
use Rattle.symbols65.proofs.StatementLayouts.{checked_next, refused_first}
use Rattle.symbols65.proofs.measuring.check_naming.Goals as goal

abbrev outside : Context → Statement → Option AsmFault
outside s x = fault_if (is_global_only x && is_not_global s.scope) NotUnderstood

abbrev lost : Symbols → Context → Statement → Option AsmFault
lost y s x = missing_scopes_fault y.scopes s.scope (trees_of x)

abbrev opened : Symbols → Context → Statement → Option AsmFault
opened y s x = opened_twice y.scopes s.scope (scope_name x)

abbrev twice : Symbols → Context → Statement → Option AsmFault
twice y s x = defined_twice y (key_defined s x)

after_outside : (y : Symbols) (s : Context) (x : Statement) (r : Result (Unit {0}) AsmFault) → ChecksStatement (Ok tt) (outside s x) → ChecksStatement r (or_then (lost y s x) (or_then (opened y s x) (twice y s x))) → ChecksStatement r (naming_fault y s x)
after_outside y s x r h k = checked_next (outside s x) (or_then (lost y s x) (or_then (opened y s x) (twice y s x))) r h k

after_trees : (y : Symbols) (s : Context) (x : Statement) (r : Result (Unit {0}) AsmFault) → ChecksStatement (Ok tt) (outside s x) → ChecksStatement (Ok tt) (lost y s x) → ChecksStatement r (or_then (opened y s x) (twice y s x)) → ChecksStatement r (naming_fault y s x)
after_trees y s x r h k j = after_outside y s x r h (checked_next (lost y s x) (or_then (opened y s x) (twice y s x)) r k j)

pub returns-in_err-check_global_only-clause-naming : goal.returns-in_err-check_global_only-clause-naming
returns-in_err-check_global_only-clause-naming c =
    let p = err_from_is_err_and c.from_residual.result c.from_residual.ensures.1 in
    let e = c.in_err-check_global_only.field-0.0 in
    let y = table_of c.args.before.symbols.now in
    let x = c.args.statement.now in
    rw (p.1, p.2) (subst (λ (s : Context). ChecksStatement (Err e) (naming_fault y s x)) c.context-context.ensures (refused_first e _ _ tt c.in_err-check_global_only.ensures))

pub returns-in_err-found-clause-naming : goal.returns-in_err-found-clause-naming
returns-in_err-found-clause-naming c =
    let p = err_from_is_err_and c.from_residual-in_err-found.result c.from_residual-in_err-found.ensures.1 in
    let e = c.in_err-found.field-0.0 in
    let y = table_of c.args.before.symbols.now in
    let s = context_of c.args.before.cursor.now in
    let x = c.args.statement.now in
    let first = subst (λ (s : Context). ChecksStatement (Ok tt) (outside s x)) c.context-context.ensures c.in_ok-check_global_only.ensures in
    rw (p.1, p.2) (after_outside y s x (Err e) first (refused_first e (lost y s x) (or_then (opened y s x) (twice y s x)) tt c.in_err-found.ensures.scopes))

pub returns-in_err-check_opened-clause-naming : goal.returns-in_err-check_opened-clause-naming
returns-in_err-check_opened-clause-naming c =
    let p = err_from_is_err_and c.from_residual-in_err-check_opened.result c.from_residual-in_err-check_opened.ensures.1 in
    let e = c.in_err-check_opened.field-0.0 in
    let y = table_of c.args.before.symbols.now in
    let s = context_of c.args.before.cursor.now in
    let x = c.args.statement.now in
    let first = subst (λ (s : Context). ChecksStatement (Ok tt) (outside s x)) c.context-context.ensures c.in_ok-check_global_only.ensures in
    let third = subst (λ (s : Context). ChecksStatement (Err e) (opened y s x)) c.context-context.ensures c.in_err-check_opened.ensures in
    rw (p.1, p.2) (after_trees y s x (Err e) first c.in_ok-found.ensures.scopes (refused_first e (opened y s x) (twice y s x) tt third))

pub returns-in_err-check_defined-clause-naming : goal.returns-in_err-check_defined-clause-naming
returns-in_err-check_defined-clause-naming c =
    let p = err_from_is_err_and c.from_residual-in_err-check_defined.result c.from_residual-in_err-check_defined.ensures.1 in
    let e = c.in_err-check_defined.field-0.0 in
    let y = table_of c.args.before.symbols.now in
    let s = context_of c.args.before.cursor.now in
    let x = c.args.statement.now in
    let first = subst (λ (s : Context). ChecksStatement (Ok tt) (outside s x)) c.context-context.ensures c.in_ok-check_global_only.ensures in
    let third = subst (λ (s : Context). ChecksStatement (Ok tt) (opened y s x)) c.context-context.ensures c.in_ok-check_opened.ensures in
    let last = subst (λ (s : Context). ChecksStatement (Err e) (twice y s x)) c.context-context.ensures c.in_err-check_defined.ensures in
    rw (p.1, p.2) (after_trees y s x (Err e) first c.in_ok-found.ensures.scopes (checked_next (opened y s x) (twice y s x) (Err e) third last))

pub returns-clause-naming : goal.returns-clause-naming
returns-clause-naming c =
    let y = table_of c.args.before.symbols.now in
    let s = context_of c.args.before.cursor.now in
    let x = c.args.statement.now in
    let first = subst (λ (s : Context). ChecksStatement (Ok tt) (outside s x)) c.context-context.ensures c.in_ok-check_global_only.ensures in
    let third = subst (λ (s : Context). ChecksStatement (Ok tt) (opened y s x)) c.context-context.ensures c.in_ok-check_opened.ensures in
    let last = subst (λ (s : Context). ChecksStatement (Ok tt) (twice y s x)) c.context-context.ensures c.in_ok-check_defined.ensures in
    after_trees y s x (Ok tt) first c.in_ok-found.ensures.scopes (checked_next (opened y s x) (twice y s x) (Ok tt) third last)
