use Rattle.std.proofs.Common.{◌≡◌, IfSome, OnOk, subst, sym, true}
use Rattle.std.specs.Prelude.{IfErr}
use Rattle.syntax65.specs.Faults.{is_failure}
use Rattle.syntax65.specs.declared.source_location.SourceLocation.{SourceLocation}
use Rattle.expand65.specs.Lines.{IsFileAt, IsReadingAt}
use Rattle.expand65.specs.Representation.{IsSourceAt, next_location, ReadsStoredLine, remaining_in, remaining_iterations}
use Rattle.expand65.specs.declared.input.LineSource.{LineSource}
use Rattle.expand65.proofs.LineCounts.{never_at, nothing_at}
use Rattle.expand65.proofs.StepSequences.{where_so}
use Rattle.expand65.proofs.Iterations.{takes_in_turn}
use Rattle.expand65.proofs.input.LineSource.read_stored_line.Goals as goal

pub returns-in-Repeat-clause-next_line : goal.returns-in-Repeat-clause-next_line
returns-in-Repeat-clause-next_line g c =
    let old = c.in-Repeat.replay in
    let new = c.read_stored_line-in-Repeat.new.self in
    let r = c.read_stored_line-in-Repeat.result in
    let next = c.in-Repeat.field-1 in
    let count = c.in-Repeat.field-2 in
    where_so (g.S.Store.files c.args.store.now) (λ m. ReadsStoredLine (remaining_in m c.args.self.now) r (remaining_iterations new next count)) (λ m. let P : LineSource → Type 0 = λ s. ReadsStoredLine (remaining_in m s) r (remaining_iterations new next count) in subst P (sym c.in-Repeat.is) (takes_in_turn old new next count r c.read_stored_line-in-Repeat.ensures.next_line c.read_stored_line-in-Repeat.ensures.body c.read_stored_line-in-Repeat.ensures.same))

pub returns-in-File-clause-at : goal.returns-in-File-clause-at
returns-in-File-clause-at g c =
    let P : LineSource → Type 0 = λ s. IfSome (g.S.Store.files c.args.store.now) (λ m. (p : SourceLocation) → IsSourceAt m s p → OnOk c.read_stored_line.result (IsFileAt m c.read_stored_line.new.self (next_location s p))) in
    subst P (sym c.in-File.is) c.read_stored_line.ensures.at

pub returns-in-Call-clause-at : goal.returns-in-Call-clause-at
returns-in-Call-clause-at g c = nothing_at (g.S.Store.files c.args.store.now) (λ m p. IsSourceAt m c.args.self.now p) c.read_stored_line-in-Call.result

pub returns-in-Repeat-clause-at : goal.returns-in-Repeat-clause-at
returns-in-Repeat-clause-at g c = nothing_at (g.S.Store.files c.args.store.now) (λ m p. IsSourceAt m c.args.self.now p) c.read_stored_line-in-Repeat.result

pub returns-in-File-clause-last_failure : goal.returns-in-File-clause-last_failure
returns-in-File-clause-last_failure g c =
    let last_failure = g.S.Store.last_failure c.read_stored_line.new.store in
    let P : LineSource → Type 0 = λ s. IfSome (g.S.Store.files c.args.store.now) (λ m. (p : SourceLocation) → IsSourceAt m s p → IfErr c.read_stored_line.result (λ e. is_failure e ≡ true → IsReadingAt m last_failure (next_location s p))) in
    subst P (sym c.in-File.is) c.read_stored_line.ensures.last_failure

pub returns-in-Call-clause-last_failure : goal.returns-in-Call-clause-last_failure
returns-in-Call-clause-last_failure g c = never_at (g.S.Store.files c.args.store.now) (λ m p. IsSourceAt m c.args.self.now p) (λ m p. IsReadingAt m (g.S.Store.last_failure c.args.store.now) (next_location c.args.self.now p)) c.read_stored_line-in-Call.result c.read_stored_line-in-Call.ensures.no_failure

pub returns-in-Repeat-clause-last_failure : goal.returns-in-Repeat-clause-last_failure
returns-in-Repeat-clause-last_failure g c = never_at (g.S.Store.files c.args.store.now) (λ m p. IsSourceAt m c.args.self.now p) (λ m p. IsReadingAt m (g.S.Store.last_failure c.args.store.now) (next_location c.args.self.now p)) c.read_stored_line-in-Repeat.result c.read_stored_line-in-Repeat.ensures.no_failure
