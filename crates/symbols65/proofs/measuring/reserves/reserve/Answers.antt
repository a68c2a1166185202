use Rattle.std.proofs.Common.{◌∙◌, ap, sym}
use Rattle.std.specs.Prelude.{not, pos}
use Rattle.std.proofs.lemmas.Result.{err_from_is_err_and}
use Rattle.ast65.specs.declared.fault.AsmFault.TheVariants.{BadOperand}
use Rattle.semantics65.specs.Layout.{context_of, is_byte_value, own_size, fault_if}
use Rattle.semantics65.specs.Norms.{fill_encoding, optional_value}
use Rattle.symbols65.proofs.StatementLayouts.{as_ok, bad_count, bad_fill, fill_refused, fill_there, refused_same, reserved_as, reserved_full, reserved_well}
use Rattle.symbols65.proofs.measuring.reserves.reserve.Goals as goal

pub returns-in_err-count : goal.returns-in_err-count
returns-in_err-count c = λ y n v h.
    (let p = err_from_is_err_and c.from_residual.result c.from_residual.ensures.1 in
    let e = c.in_err-count.field-0.0 in
    let w = c.args.cursor.now in
    let s = context_of w in
    let b = is_byte_value (optional_value y s v (pos 0)) in
    rw (p.1, p.2) (refused_same e _ _ (reserved_as y w n v c.constant_value.result (sym (c.constant_value.ensures y s (own_size w) n h.first)))
    (bad_count w b (fill_encoding y s v) c.constant_value.result e c.in_err-count.ensures)))

pub returns-in_err-encoding : goal.returns-in_err-encoding
returns-in_err-encoding c = λ y n v h.
    (let p = err_from_is_err_and c.from_residual-in_err-encoding.result c.from_residual-in_err-encoding.ensures.1 in
    let e = c.in_err-encoding.field-0.0 in
    let w = c.args.cursor.now in
    let s = context_of w in
    let b = is_byte_value (optional_value y s v (pos 0)) in
    rw (p.1, p.2) (refused_same e _ _ (reserved_as y w n v c.constant_value.result (sym (c.constant_value.ensures y s (own_size w) n h.first)))
    (bad_fill w b (fill_encoding y s v) c.constant_value.result c.in_ok-count.count e c.in_ok-count.ensures
    (fill_refused e (fault_if (not b) BadOperand) (fill_encoding y s v) tt (c.in_err-encoding.ensures y s (own_size w) v h.second)))))

pub returns-in_err-length : goal.returns-in_err-length
returns-in_err-length c = λ y n v h.
    (let p = err_from_is_err_and c.from_residual-in_err-length.result c.from_residual-in_err-length.ensures.1 in
    let e = c.in_err-length.field-0.0 in
    let w = c.args.cursor.now in
    let s = context_of w in
    let b = is_byte_value (optional_value y s v (pos 0)) in
    let filled = fill_there (fault_if (not b) BadOperand) (fill_encoding y s v) c.in_ok-encoding.encoding (c.in_ok-encoding.ensures y s (own_size w) v h.second) in
    rw (p.1, p.2) (refused_same e _ _ (reserved_as y w n v c.constant_value.result (sym (c.constant_value.ensures y s (own_size w) n h.first)))
    (reserved_full w b (fill_encoding y s v) c.constant_value.result c.in_ok-count.count e c.in_ok-count.ensures filled.0 (sym c.in_err-length.ensures))))

pub returns : goal.returns
returns c = λ y n v h.
    (let w = c.args.cursor.now in
    let s = context_of w in
    let b = is_byte_value (optional_value y s v (pos 0)) in
    let filled = fill_there (fault_if (not b) BadOperand) (fill_encoding y s v) c.in_ok-encoding.encoding (c.in_ok-encoding.ensures y s (own_size w) v h.second) in
    reserved_as y w n v c.constant_value.result (sym (c.constant_value.ensures y s (own_size w) n h.first))
    ∙ reserved_well w b (fill_encoding y s v) c.constant_value.result c.in_ok-count.count c.in_ok-length.length c.in_ok-count.ensures filled.0 (sym c.in_ok-length.ensures)
    ∙ ap (λ own. as_ok c.in_ok-length.length own 1 (fill_encoding y s v)) (sym c.layout_without_bytes.ensures.size)
    ∙ ap (λ m. as_ok c.in_ok-length.length c.layout_without_bytes.result.size m (fill_encoding y s v)) (sym c.layout_without_bytes.ensures.alignment)
    ∙ ap (as_ok c.in_ok-length.length c.layout_without_bytes.result.size c.layout_without_bytes.result.alignment) filled.1)
