use Rattle.std.proofs.lemmas.Grind.{common_steps}
use Rattle.std.proofs.Common.{arith, ◌≡◌, subst}
use Rattle.std.proofs.lemmas.Result.{err_from_is_err_and}
use Rattle.std.specs.Prelude.{IfSome}
use Rattle.semantics65.specs.Views.{location_in}
use Rattle.asm65.specs.Internal.RunState.{IsRejectedUnread, read_bytes}
use Rattle.asm65.proofs.files.read_incbin.Goals as goal

pub returns-in_err-statement-clause-refused : goal.returns-in_err-statement-clause-refused
returns-in_err-statement-clause-refused g c = λ count t h.
    (let p = err_from_is_err_and c.from_residual.result c.from_residual.ensures.1 in
    rw (p.1, p.2) (subst (λ s. IsRejectedUnread (g.S.Store.files c.args.store.now) (g.S.Store.last_failure c.with_read_bytes.new.store) t (location_in c.args.at.file.now c.args.at.line) s c.in_err-statement.field-0.0) c.replace-named.ensures.value (c.in_err-statement.ensures.refused count t h)))

pub returns-clause-bytes : goal.returns-clause-bytes
returns-clause-bytes g c =
    subst (λ s. IfSome (g.S.Store.files c.args.store.now) (λ m. c.in_ok-statement.field-0 ≡ read_bytes m (location_in c.args.at.file.now c.args.at.line) s)) c.replace-named.ensures.value c.in_ok-statement.ensures.bytes

pub returns-in_err-statement-clause-bytes : goal.returns-in_err-statement-clause-bytes
returns-in_err-statement-clause-bytes g c = grind (arith, common_steps)
