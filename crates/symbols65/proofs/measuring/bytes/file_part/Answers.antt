use Rattle.std.proofs.lemmas.Grind.{common_steps}
use Rattle.std.proofs.Common.{arith, ◌≡◌, refl, subst, Err}
use Rattle.std.proofs.lemmas.Result.{err_from_is_err_and}
use Rattle.base65.specs.Outcome.{Unless}
use Rattle.ast65.specs.Faults.{is_out_of_memory}
use Rattle.semantics65.specs.Layout.{context_of, own_size}
use Rattle.symbols65.specs.Measuring.{range_in_file}
use Rattle.symbols65.proofs.FileParts.{bad_len, bad_start, refused}
use Rattle.symbols65.proofs.measuring.bytes.file_part.Goals as goal

pub returns-in_err-start : goal.returns-in_err-start
returns-in_err-start c = λ y start len h.
    (let p = err_from_is_err_and c.from_residual.result c.from_residual.ensures.1 in
    let w = c.args.cursor.now in
    let s = context_of w in
    rw (p.1, p.2) (bad_start y w start len s refl c.args.bytes.now c.in_err-start.field-0.0 (c.in_err-start.ensures y s (own_size w) start h.first)))

pub returns-in_err-len : goal.returns-in_err-len
returns-in_err-len c = λ y start len h.
    (let p = err_from_is_err_and c.from_residual-in_err-len.result c.from_residual-in_err-len.ensures.1 in
    let w = c.args.cursor.now in
    let s = context_of w in
    rw (p.1, p.2) (bad_len y w start len s refl c.args.bytes.now c.in_err-len.field-0.0 (c.in_err-len.ensures y s (own_size w) len h.second)))

pub returns-in_err-start-2 : goal.returns-in_err-start-2
returns-in_err-start-2 c = λ y start len h.
    (let p = err_from_is_err_and c.from_residual-in_err-start-2.result c.from_residual-in_err-start-2.ensures.1 in
    let w = c.args.cursor.now in
    let s = context_of w in
    let e = c.in_err-start-2.field-0.0 in
    let none = subst (λ n. Unless (is_out_of_memory e) (range_in_file n c.in_ok-start.start c.in_ok-len.len ≡ Err e)) c.len.ensures c.in_err-start-2.ensures.part in
    rw (p.1, p.2, c.in-Some.is) (refused y w start len s refl c.in_ok-start.start c.in_ok-len.len (c.in_ok-start.ensures y s (own_size w) start h.first) (c.in_ok-len.ensures y s (own_size w) len h.second) c.in-Some.bytes e none))

pub returns-in_err-length : goal.returns-in_err-length
returns-in_err-length c = grind (arith, common_steps)

pub returns : goal.returns
returns c = grind (arith, common_steps)
