use Rattle.std.proofs.lemmas.Grind.{common_steps}
use Rattle.std.proofs.Common.{◌≡◌, ℕ, List, IfSome, drop, rules, subst, true, arith}
use Rattle.std.proofs.lemmas.Result.{err_from_is_err_and}
use Rattle.base65.specs.Store.{FailedAt}
use Rattle.syntax65.specs.Faults.{is_failure}
use Rattle.expand65.specs.Lines.{IsPiece, FailedAtRefill, bytes_of}
use Rattle.expand65.proofs.Lines.{told_kept, told_none}
use Rattle.expand65.proofs.file.OpenFile.refill_buffer.Goals as goal

pub returns-clause-kept : goal.returns-clause-kept
returns-clause-kept g c =
    let P : List ℕ → Type 0 = λ s. IfSome (g.S.Store.files c.args.store.now) (λ m. IsPiece (drop c.args.self.now.next (bytes_of m s)) c.piece_size-max_len.result c.in_ok-n.n c.read_piece.new.bytes.items) in
    told_kept (g.S.Store.files c.args.store.now) c.args.self.now.name c.args.self.now.buffer.items c.args.self.now.at c.args.self.now.next c.piece_size-max_len.result c.in_ok-n.n c.read_piece.new.bytes.items c.requires.all c.piece_size-max_len.ensures.few (subst P c.as_str.ensures c.in_ok-n.ensures.read)

pub returns-clause-none : goal.returns-clause-none
returns-clause-none g c =
    let P : List ℕ → Type 0 = λ s. IfSome (g.S.Store.files c.args.store.now) (λ m. IsPiece (drop c.args.self.now.next (bytes_of m s)) c.piece_size-max_len.result c.in_ok-n.n c.read_piece.new.bytes.items) in
    told_none (g.S.Store.files c.args.store.now) c.args.self.now.name c.args.self.now.next c.piece_size-max_len.result c.in_ok-n.n c.read_piece.new.bytes.items c.piece_size-max_len.ensures.some c.in_ok-n.ensures.few.1 (subst P c.as_str.ensures c.in_ok-n.ensures.read)

pub returns-in_err-n-clause-frame : goal.returns-in_err-n-clause-frame
returns-in_err-n-clause-frame g c =
    let p = err_from_is_err_and c.from_residual.result c.from_residual.ensures.1 in
    let old = c.args.self.now in
    let last_failure = g.S.Store.last_failure c.read_piece.new.store in
    let l = c.in_err-n.ensures.frame in
    let told : is_failure c.in_err-n.field-0.0 ≡ true → FailedAtRefill old last_failure = λ failed. (subst (λ s. FailedAt last_failure s old.next) c.as_str.ensures (l.last_failure failed), c.requires.more, c.requires.all) in
    record { last_failure = rw (p.1, p.2) told; files = l.files; count = search rules }

pub returns-clause-frame : goal.returns-clause-frame
returns-clause-frame g c = grind (arith, common_steps)
