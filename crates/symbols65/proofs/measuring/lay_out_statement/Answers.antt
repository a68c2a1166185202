use Rattle.std.proofs.Common.{Ok, ◌∙◌}
use Rattle.std.proofs.lemmas.Result.{err_from_is_err_and}
use Rattle.semantics65.specs.Layout.{context_of, own_size}
use Rattle.symbols65.specs.Evaluations.{first_tree}
use Rattle.symbols65.specs.Views.{table_of}
use Rattle.symbols65.proofs.StatementLayouts.{measured_named, measured_refused, refused_same, room_of}
use Rattle.symbols65.proofs.measuring.lay_out_statement.Goals as goal

pub returns-in_err-found-clause-measured : goal.returns-in_err-found-clause-measured
returns-in_err-found-clause-measured c =
    let p = err_from_is_err_and c.from_residual.result c.from_residual.ensures.1 in
    rw (p.1, p.2) (measured_refused (table_of c.args.before.symbols.now) c.args.before.cursor.now c.args.statement.now c.in_err-found.field-0.0 c.in_err-found.ensures.naming)

pub returns-in_err-measured-clause-measured : goal.returns-in_err-measured-clause-measured
returns-in_err-measured-clause-measured c =
    let p = err_from_is_err_and c.from_residual-in_err-measured.result c.from_residual-in_err-measured.ensures.1 in
    rw (p.1, p.2) (refused_same c.in_err-measured.field-0.0 _ _ (measured_named (table_of c.args.before.symbols.now) c.args.before.cursor.now c.args.statement.now c.in_ok-found.ensures.naming) c.in_err-measured.ensures)

pub returns-clause-measured : goal.returns-clause-measured
returns-clause-measured c = measured_named (table_of c.args.before.symbols.now) c.args.before.cursor.now c.args.statement.now c.in_ok-found.ensures.naming ∙ c.in_ok-measured.ensures

pub returns-clause-fits : goal.returns-clause-fits
returns-clause-fits c = room_of (table_of c.args.before.symbols.now) c.args.before.cursor.now c.args.statement.now (Ok c.in_ok-measured.measured) c.in_ok-measured.ensures

pub returns-clause-form : goal.returns-clause-form
returns-clause-form c =
    let w = c.args.before.cursor.now in
    c.final_form-form.ensures (table_of c.args.before.symbols.now) (context_of w) (own_size w) (first_tree c.args.statement.now) c.in_ok-found.ensures.found.first
