use Rattle.std.proofs.Common.{◌≡◌, ◌+◌, IfSome, Ok, OnOk, subst, sym, true}
use Rattle.std.specs.Prelude.{IfErr, IfOk}
use Rattle.syntax65.specs.Faults.{is_failure}
use Rattle.syntax65.specs.declared.source_location.SourceLocation.{SourceLocation}
use Rattle.expand65.specs.Lines.{IsFileAt, IsReadingAt, location_at}
use Rattle.expand65.specs.Representation.{IsSourceAt, IsLineOf, location_after_next}
use Rattle.expand65.specs.declared.input.NextLine.{NextLine}
use Rattle.expand65.specs.declared.input.NextLine.TheVariants.{AtEnd}
use Rattle.expand65.specs.declared.input.LineSource.{LineSource}
use Rattle.expand65.proofs.LineCounts.{never_at, nothing_at, played_on}
use Rattle.expand65.proofs.input.LineSource.begin_line.Goals as goal

pub returns-in-File-clause-at : goal.returns-in-File-clause-at
returns-in-File-clause-at g c =
    let P : LineSource → Type 0 = λ s. IfSome (g.S.Store.files c.args.store.now) (λ m. (p : SourceLocation) → IsSourceAt m s p → OnOk c.begin_line.result (IsFileAt m c.begin_line.new.self p)) in
    subst P (sym c.in-File.is) c.begin_line.ensures.at

pub returns-in-Call-clause-at : goal.returns-in-Call-clause-at
returns-in-Call-clause-at g c = nothing_at {A = NextLine} (g.S.Store.files c.args.store.now) (λ m p. IsSourceAt m c.args.self.now p) (Ok c.next_line.result)

pub returns-in-Repeat-clause-at : goal.returns-in-Repeat-clause-at
returns-in-Repeat-clause-at g c = nothing_at (g.S.Store.files c.args.store.now) (λ m p. IsSourceAt m c.args.self.now p) c.begin_iteration.result

pub returns-in-File-clause-last_failure : goal.returns-in-File-clause-last_failure
returns-in-File-clause-last_failure g c =
    let last_failure = g.S.Store.last_failure c.begin_line.new.store in
    let P : LineSource → Type 0 = λ s. IfSome (g.S.Store.files c.args.store.now) (λ m. (p : SourceLocation) → IsSourceAt m s p → IfErr c.begin_line.result (λ e. is_failure e ≡ true → IsReadingAt m last_failure p)) in
    subst P (sym c.in-File.is) c.begin_line.ensures.last_failure

pub returns-in-Call-clause-last_failure : goal.returns-in-Call-clause-last_failure
returns-in-Call-clause-last_failure g c = never_at {A = NextLine} (g.S.Store.files c.args.store.now) (λ m p. IsSourceAt m c.args.self.now p) (λ m p. IsReadingAt m (g.S.Store.last_failure c.args.store.now) p) (Ok c.next_line.result) tt

pub returns-in-Repeat-clause-last_failure : goal.returns-in-Repeat-clause-last_failure
returns-in-Repeat-clause-last_failure g c = never_at (g.S.Store.files c.args.store.now) (λ m p. IsSourceAt m c.args.self.now p) (λ m p. IsReadingAt m (g.S.Store.last_failure c.args.store.now) p) c.begin_iteration.result c.begin_iteration.ensures.no_failure

pub returns-in-File-clause-location_after : goal.returns-in-File-clause-location_after
returns-in-File-clause-location_after g c = λ p.
    let P : LineSource → Type 0 = λ s. IsLineOf s p → IfOk c.begin_line.result (λ n. (n ≡ AtEnd → ⊥) → location_after_next n p ≡ location_at p (p.line + 1)) in
    subst P (sym c.in-File.is) (c.begin_line.ensures.location_after p)

pub returns-in-Call-clause-location_after : goal.returns-in-Call-clause-location_after
returns-in-Call-clause-location_after g c = λ p line. played_on (Ok c.next_line.result) p c.next_line.ensures.replayed

pub returns-in-Repeat-clause-location_after : goal.returns-in-Repeat-clause-location_after
returns-in-Repeat-clause-location_after g c = λ p line. played_on c.begin_iteration.result p c.begin_iteration.ensures.replayed
