use Rattle.std.proofs.lemmas.Result.{err_from_is_err_and}
use Rattle.syntax65.specs.Tokens.{lexemes}
use Rattle.expand65.specs.Failures.{StepFails}
use Rattle.expand65.specs.Macros.{repeat_line}
use Rattle.expand65.specs.Representation.{state_of}
use Rattle.expand65.specs.declared.preprocessor.LineOutcome.{LineOutcome}
use Rattle.expand65.proofs.ExpansionFailures.{stood_inside}
use Rattle.expand65.proofs.preprocessor.Preprocessor.begin_repeat.Goals as goal

pub returns-in_err-count-clause-stopped : goal.returns-in_err-count-clause-stopped
returns-in_err-count-clause-stopped g c = λ stands.
    (let p = err_from_is_err_and c.from_residual.result c.from_residual.ensures.1 in
    let old = c.args.self.now in
    rw (p.1, p.2) (stood_inside LineOutcome (g.S.Store.files c.args.store.now) (λ m. StepFails m (g.S.Store.last_failure c.args.store.now) (repeat_line (g.K.Knows.meaning c.args.knows.now) (state_of m old) (lexemes c.args.tokens.now))) old.stack c.in_err-count.field-0.0 c.in_err-count.ensures.no_failure))

pub returns-in_err-count-2-clause-stopped : goal.returns-in_err-count-2-clause-stopped
returns-in_err-count-2-clause-stopped g c = λ stands.
    (let p = err_from_is_err_and c.from_residual-in_err-count-2.result c.from_residual-in_err-count-2.ensures.1 in
    let old = c.args.self.now in
    rw (p.1, p.2) (stood_inside LineOutcome (g.S.Store.files c.args.store.now) (λ m. StepFails m (g.S.Store.last_failure c.args.store.now) (repeat_line (g.K.Knows.meaning c.args.knows.now) (state_of m old) (lexemes c.args.tokens.now))) old.stack c.in_err-count-2.field-0.0 c.in_err-count-2.ensures.no_failure))
