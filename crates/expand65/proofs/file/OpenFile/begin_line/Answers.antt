use Rattle.std.proofs.Common.{◌+◌, ◌∙◌, ap, sym}
use Rattle.std.proofs.lemmas.Result.{err_from_is_err_and}
use Rattle.expand65.specs.Lines.{IsFileAt, IsReadingAt, location_at}
use Rattle.expand65.proofs.LineCounts.{reads_on_at, stops_before, where_failed_at}
use Rattle.expand65.proofs.LineReads.{file_begins}
use Rattle.expand65.proofs.file.OpenFile.begin_line.Goals as goal

pub returns-in-Some-clause-next_item : goal.returns-in-Some-clause-next_item
returns-in-Some-clause-next_item g c =
    file_begins (g.S.Store.files c.args.store.now) c.has_more.new.self c.in-Some.number (c.in_ok-has_more.ensures.more c.if-not-branch.false) c.in-Some.ensures.1

pub returns-in-Some-clause-location_after : goal.returns-in-Some-clause-location_after
returns-in-Some-clause-location_after g c = λ p line more. ap (location_at p) (c.in-Some.ensures.1 ∙ ap (λ n. n + 1) (c.in_ok-has_more.ensures.line ∙ sym line))

pub returns-in-Some-clause-at : goal.returns-in-Some-clause-at
returns-in-Some-clause-at g c = reads_on_at (g.S.Store.files c.args.store.now) c.args.self.now c.has_more.new.self c.in_ok-has_more.ensures.name c.in_ok-has_more.ensures.line c.in_ok-has_more.ensures.kept

pub returns-then-not-branch-clause-at : goal.returns-then-not-branch-clause-at
returns-then-not-branch-clause-at g c = reads_on_at (g.S.Store.files c.args.store.now) c.args.self.now c.has_more.new.self c.in_ok-has_more.ensures.name c.in_ok-has_more.ensures.line c.in_ok-has_more.ensures.kept

pub returns-in_err-has_more-clause-last_failure : goal.returns-in_err-has_more-clause-last_failure
returns-in_err-has_more-clause-last_failure g c =
    let p = err_from_is_err_and c.from_residual.result c.from_residual.ensures.1 in
    let o = g.S.Store.files c.args.store.now in
    let old = c.args.self.now in
    let last_failure = g.S.Store.last_failure c.has_more.new.store in
    rw (p.1, p.2) (where_failed_at o (λ m q. IsFileAt m old q) (λ m q. IsReadingAt m last_failure q) c.in_err-has_more.field-0.0 (λ failed. stops_before o last_failure old (c.in_err-has_more.ensures.frame.last_failure failed)))
