use Rattle.std.proofs.Common.{◌≡◌, ◌∙◌, ◌<◌, ◌-◌, ℕ, zero, suc, Some, ap, arith, sym}
use Rattle.std.specs.Int.{next_multiple_of}
use Rattle.std.specs.Prelude.{not, pos}
use Rattle.std.proofs.lemmas.Result.{err_from_is_err_and}
use Rattle.ast65.specs.declared.fault.AsmFault.TheVariants.{BadOperand}
use Rattle.semantics65.specs.Layout.{context_of, is_byte_value, own_size, fault_if}
use Rattle.semantics65.specs.Norms.{fill_encoding, gap, optional_value}
use Rattle.symbols65.proofs.StatementLayouts.{aligned_as, aligned_full, aligned_well, as_ok, bad_byte, bad_multiple, fill_refused, fill_there, is_multiple, no_multiple, none_there, refused_same}
use Rattle.symbols65.proofs.measuring.reserves.align.Goals as goal

gap_is : (offset end alignment : ℕ) {multiple : ℕ} → 0 < alignment → multiple ≡ next_multiple_of end alignment → end ≡ offset → multiple - end ≡ gap offset (Some (pos alignment))
gap_is offset end zero some is same = absurd (omega (arith, some))
gap_is offset end (suc n) some is same = ap (λ k. k - end) is ∙ ap (λ k. next_multiple_of k (suc n) - k) same

pub returns-then-is_none : goal.returns-then-is_none
returns-then-is_none c = λ y n v h.
    (let w = c.args.cursor.now in
    let s = context_of w in
    let b = is_byte_value (optional_value y s v (pos 0)) in
    aligned_as y w n v c.constant_value-alignment.result (sym (c.constant_value-alignment.ensures y s (own_size w) n h.first))
    ∙ no_multiple w b (fill_encoding y s v) c.constant_value-alignment.result (none_there c.constant_value-alignment.result (c.is_none.ensures ∙ ap not c.if-is_none.true)))

pub returns-in_err-encoding : goal.returns-in_err-encoding
returns-in_err-encoding c = λ y n v h.
    (let p = err_from_is_err_and c.from_residual.result c.from_residual.ensures.1 in
    let e = c.in_err-encoding.field-0.0 in
    let w = c.args.cursor.now in
    let s = context_of w in
    let b = is_byte_value (optional_value y s v (pos 0)) in
    rw (p.1, p.2) (refused_same e _ _ (aligned_as y w n v c.constant_value-alignment.result (sym (c.constant_value-alignment.ensures y s (own_size w) n h.first)))
    (bad_byte w b (fill_encoding y s v) c.constant_value-alignment.result e (is_multiple c.constant_value-alignment.result (c.is_none.ensures ∙ ap not c.if-is_none.false))
    (fill_refused e (fault_if (not b) BadOperand) (fill_encoding y s v) tt (c.in_err-encoding.ensures y s (own_size w) v h.second)))))

pub returns-in_err-alignment : goal.returns-in_err-alignment
returns-in_err-alignment c = λ y n v h.
    (let p = err_from_is_err_and c.from_residual-in_err-alignment.result c.from_residual-in_err-alignment.ensures.1 in
    let e = c.in_err-alignment.field-0.0 in
    let w = c.args.cursor.now in
    let s = context_of w in
    let b = is_byte_value (optional_value y s v (pos 0)) in
    let filled = fill_there (fault_if (not b) BadOperand) (fill_encoding y s v) c.in_ok-encoding.encoding (c.in_ok-encoding.ensures y s (own_size w) v h.second) in
    rw (p.1, p.2) (refused_same e _ _ (aligned_as y w n v c.constant_value-alignment.result (sym (c.constant_value-alignment.ensures y s (own_size w) n h.first)))
    (bad_multiple w b (fill_encoding y s v) c.constant_value-alignment.result e (is_multiple c.constant_value-alignment.result (c.is_none.ensures ∙ ap not c.if-is_none.false)) filled.0 c.in_err-alignment.ensures.alignment)))

pub returns-in_err-length : goal.returns-in_err-length
returns-in_err-length c = λ y n v h.
    (let p = err_from_is_err_and c.from_residual-in_err-length.result c.from_residual-in_err-length.ensures.1 in
    let e = c.in_err-length.field-0.0 in
    let w = c.args.cursor.now in
    let s = context_of w in
    let b = is_byte_value (optional_value y s v (pos 0)) in
    let filled = fill_there (fault_if (not b) BadOperand) (fill_encoding y s v) c.in_ok-encoding.encoding (c.in_ok-encoding.ensures y s (own_size w) v h.second) in
    rw (p.1, p.2) (refused_same e _ _ (aligned_as y w n v c.constant_value-alignment.result (sym (c.constant_value-alignment.ensures y s (own_size w) n h.first)))
    (aligned_full w b (fill_encoding y s v) c.constant_value-alignment.result c.in_ok-alignment.alignment (c.next_multiple_of.result - c.segment.result.now.end) e filled.0 c.in_ok-alignment.ensures.alignment (gap_is _ _ _ c.in_ok-alignment.ensures.positive c.next_multiple_of.ensures.value (ap (λ g. g.end) c.segment.ensures.current)) (sym c.in_err-length.ensures))))

pub returns : goal.returns
returns c = λ y n v h.
    (let w = c.args.cursor.now in
    let s = context_of w in
    let b = is_byte_value (optional_value y s v (pos 0)) in
    let filled = fill_there (fault_if (not b) BadOperand) (fill_encoding y s v) c.in_ok-encoding.encoding (c.in_ok-encoding.ensures y s (own_size w) v h.second) in
    aligned_as y w n v c.constant_value-alignment.result (sym (c.constant_value-alignment.ensures y s (own_size w) n h.first))
    ∙ aligned_well w b (fill_encoding y s v) c.constant_value-alignment.result c.in_ok-alignment.alignment (c.next_multiple_of.result - c.segment.result.now.end) c.in_ok-length.length filled.0 c.in_ok-alignment.ensures.alignment (gap_is _ _ _ c.in_ok-alignment.ensures.positive c.next_multiple_of.ensures.value (ap (λ g. g.end) c.segment.ensures.current)) (sym c.in_ok-length.ensures)
    ∙ ap (λ own. as_ok c.in_ok-length.length own c.in_ok-alignment.alignment (fill_encoding y s v)) (sym c.layout_without_bytes.ensures.size)
    ∙ ap (as_ok c.in_ok-length.length c.layout_without_bytes.result.size c.in_ok-alignment.alignment) filled.1)
