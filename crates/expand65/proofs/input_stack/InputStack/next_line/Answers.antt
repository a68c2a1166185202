use Rattle.std.proofs.lemmas.Grind.{common_steps}
use Rattle.std.proofs.Common.{◌≡◌, ◌∙◌, ap, refl, suc, arith, ◌-◌, true, Ok, Err}
use Rattle.std.proofs.lemmas.Result.{err_from_is_err_and}
use Rattle.expand65.specs.Representation.{IsSourceAt, IsLineOf, ReadsStoredLine, remaining_in, remaining_of, FailsAtLine, next_location}
use Rattle.expand65.specs.Lines.{IsReadingAt, InputEnd}
use Rattle.expand65.specs.declared.input.NextLine.TheVariants.{AtEnd}
use Rattle.expand65.specs.declared.input_stack.InputStack.{InputStack}
use Rattle.expand65.proofs.Lines.{moved_to}
use Rattle.syntax65.specs.declared.source_location.SourceLocation.{SourceLocation}
use Rattle.syntax65.specs.Faults.{is_failure}
use Rattle.expand65.proofs.FilePositions.{innermost_at, line_stands, reading_before, reading_within, reads_on, stands_by}
use Rattle.expand65.proofs.Inputs.{told_taken, told_refused}
use Rattle.expand65.proofs.ReadFailures.{fails_before, fails_within, stopped_so}
use Rattle.expand65.proofs.input_stack.InputStack.next_line.Goals as goal

pub returns-in_err-line-clause-read : goal.returns-in_err-line-clause-read
returns-in_err-line-clause-read g c =
    let p = err_from_is_err_and c.from_residual-in_err-line.result c.from_residual-in_err-line.ensures.1 in
    let o = g.S.Store.files c.args.store.now in
    let old = c.args.self.now in
    let mid = c.begin_line.new.self in
    let f = c.in_err-line.field-0.0 in
    let not_end : c.in_ok-next.next ≡ AtEnd → ⊥ = λ e. let t : c.is_end.result ≡ true = c.is_end.ensures.1 e in let u = c.if-is_end.false in absurd cc in
    let more : suc (old.budget - 1) ≡ old.budget = omega (arith, c.if-self-eq0.false) in
    let taken = moved_to (λ m. ReadsStoredLine (remaining_in m mid) (Err f) (remaining_in m c.read_stored_line.new.self)) o (g.S.Store.files c.begin_line.new.store) c.in_ok-next.ensures.frame.files c.in_err-line.ensures.next_line in
    rw (p.1, p.2) (told_refused o old mid c.read_stored_line.new.self c.update_location.new.location (old.budget - 1) c.in_ok-next.next f c.in_ok-next.ensures.next_item c.in_ok-next.ensures.same not_end taken c.update_location.ensures more)

pub returns-clause-read : goal.returns-clause-read
returns-clause-read g c =
    let o = g.S.Store.files c.args.store.now in
    let old = c.args.self.now in
    let mid = c.begin_line.new.self in
    let line = c.in_ok-line.line in
    let new : InputStack = record { top = record { source = c.read_stored_line.new.self; conditions = old.top.conditions; return_location = old.top.return_location }; outer = old.outer; budget = old.budget - 1; location = c.update_location.new.location } in
    let not_end : c.in_ok-next.next ≡ AtEnd → ⊥ = λ e. let t : c.is_end.result ≡ true = c.is_end.ensures.1 e in let u = c.if-is_end.false in absurd cc in
    let more : suc (old.budget - 1) ≡ old.budget = omega (arith, c.if-self-eq0.false) in
    let taken = moved_to (λ m. ReadsStoredLine (remaining_in m mid) (Ok line) (remaining_in m c.read_stored_line.new.self)) o (g.S.Store.files c.begin_line.new.store) c.in_ok-next.ensures.frame.files c.in_ok-line.ensures.next_line in
    let same = ap (λ b. let k : InputEnd = record { is_macro = b; conditions = old.top.conditions; return_location = old.top.return_location } in k) (c.in_ok-line.ensures.call ∙ c.in_ok-next.ensures.call) in
    told_taken o old new mid c.in_ok-next.next line c.in_ok-next.ensures.next_item c.in_ok-next.ensures.same not_end taken same refl c.update_location.ensures more

pub returns-in_err-next-clause-stopped : goal.returns-in_err-next-clause-stopped
returns-in_err-next-clause-stopped g c = λ stands.
    (let p = err_from_is_err_and c.from_residual.result c.from_residual.ensures.1 in
    let o = g.S.Store.files c.args.store.now in
    let old = c.args.self.now in
    let new : InputStack = record { top = record { source = c.begin_line.new.self; conditions = old.top.conditions; return_location = old.top.return_location }; outer = old.outer; budget = old.budget; location = old.location } in
    let same = ap (λ b. let k : InputEnd = record { is_macro = b; conditions = old.top.conditions; return_location = old.top.return_location } in k) c.in_err-next.ensures.call in
    let last_failure = g.S.Store.last_failure c.begin_line.new.store in
    rw (p.1, p.2) (stopped_so o (λ m. FailsAtLine m last_failure (remaining_of m old)) old new c.in_err-next.field-0.0 same (λ failed. fails_before o last_failure old (c.in_err-next.ensures.file failed) (reading_before o old last_failure c.in_err-next.field-0.0 failed c.in_err-next.ensures.last_failure stands))))

pub returns-in_err-line-clause-stopped : goal.returns-in_err-line-clause-stopped
returns-in_err-line-clause-stopped g c = λ stands.
    (let p = err_from_is_err_and c.from_residual-in_err-line.result c.from_residual-in_err-line.ensures.1 in
    let o = g.S.Store.files c.args.store.now in
    let old = c.args.self.now in
    let mid = c.begin_line.new.self in
    let next = c.in_ok-next.next in
    let new : InputStack = record { top = record { source = c.read_stored_line.new.self; conditions = old.top.conditions; return_location = old.top.return_location }; outer = old.outer; budget = old.budget - 1; location = c.update_location.new.location } in
    let not_end : c.in_ok-next.next ≡ AtEnd → ⊥ = λ e. let t : c.is_end.result ≡ true = c.is_end.ensures.1 e in let u = c.if-is_end.false in absurd cc in
    let same = ap (λ b. let k : InputEnd = record { is_macro = b; conditions = old.top.conditions; return_location = old.top.return_location } in k) (c.in_err-line.ensures.call ∙ c.in_ok-next.ensures.call) in
    let last_failure = g.S.Store.last_failure c.read_stored_line.new.store in
    let f = c.in_err-line.field-0.0 in
    let stops = moved_to (λ m. (q : SourceLocation) → IsSourceAt m mid q → is_failure f ≡ true → IsReadingAt m last_failure (next_location mid q)) o (g.S.Store.files c.begin_line.new.store) c.in_ok-next.ensures.frame.files c.in_err-line.ensures.last_failure in
    let moves : IsLineOf old.top.source old.location → c.update_location.new.location ≡ next_location mid old.location = λ is. c.update_location.ensures ∙ c.in_ok-next.ensures.location_after old.location is not_end in
    rw (p.1, p.2) (stopped_so o (λ m. FailsAtLine m last_failure (remaining_of m old)) old new f same (λ failed. fails_within o last_failure old mid c.update_location.new.location next (c.in_err-line.ensures.file failed) c.in_ok-next.ensures.next_item c.in_ok-next.ensures.same not_end c.update_location.ensures (reading_within o old mid c.update_location.new.location last_failure f failed c.in_ok-next.ensures.at stops moves stands))))

pub returns-then-is_end-clause-stack_position : goal.returns-then-is_end-clause-stack_position
returns-then-is_end-clause-stack_position g c = λ stands.
    (let o = g.S.Store.files c.args.store.now in
    let old = c.args.self.now in
    let new : InputStack = record { top = record { source = c.begin_line.new.self; conditions = old.top.conditions; return_location = old.top.return_location }; outer = old.outer; budget = old.budget; location = old.location } in
    stands_by o (λ m. (q : SourceLocation) → IsSourceAt m old.top.source q → IsSourceAt m c.begin_line.new.self q) old new (λ m at h. reads_on m old new refl refl c.in_ok-next.ensures.kind refl (at old.location (innermost_at m old h)) h) c.in_ok-next.ensures.at stands)

pub returns-clause-stack_position : goal.returns-clause-stack_position
returns-clause-stack_position g c = λ stands.
    (let o = g.S.Store.files c.args.store.now in
    let old = c.args.self.now in
    let mid = c.begin_line.new.self in
    let new : InputStack = record { top = record { source = c.read_stored_line.new.self; conditions = old.top.conditions; return_location = old.top.return_location }; outer = old.outer; budget = old.budget - 1; location = c.update_location.new.location } in
    let not_end : c.in_ok-next.next ≡ AtEnd → ⊥ = λ e. let t : c.is_end.result ≡ true = c.is_end.ensures.1 e in let u = c.if-is_end.false in absurd cc in
    let told = c.in_ok-next.ensures.frame.files in
    let takes = moved_to (λ m. (q : SourceLocation) → IsSourceAt m mid q → IsSourceAt m c.read_stored_line.new.self (next_location mid q)) o (g.S.Store.files c.begin_line.new.store) told c.in_ok-line.ensures.at in
    let moves : IsLineOf old.top.source old.location → c.update_location.new.location ≡ next_location mid old.location = λ is. c.update_location.ensures ∙ c.in_ok-next.ensures.location_after old.location is not_end in
    line_stands o old new mid refl refl (c.in_ok-line.ensures.kind ∙ c.in_ok-next.ensures.kind) c.in_ok-next.ensures.kind moves c.in_ok-next.ensures.at takes stands)

pub returns-clause-at_end : goal.returns-clause-at_end
returns-clause-at_end g c = grind (arith, common_steps)

pub returns-then-self-eq0-clause-stopped : goal.returns-then-self-eq0-clause-stopped
returns-then-self-eq0-clause-stopped g c = grind (arith, common_steps)

pub returns-clause-innermost : goal.returns-clause-innermost
returns-clause-innermost g c = grind (arith, common_steps)

pub returns-clause-stopped : goal.returns-clause-stopped
returns-clause-stopped g c = grind (arith, common_steps)

pub returns-in_err-line-clause-frame : goal.returns-in_err-line-clause-frame
returns-in_err-line-clause-frame g c = grind (arith, common_steps)

pub returns-then-is_end-clause-frame : goal.returns-then-is_end-clause-frame
returns-then-is_end-clause-frame g c = grind (arith, common_steps)

pub returns-clause-frame : goal.returns-clause-frame
returns-clause-frame g c = grind (arith, common_steps)

pub returns-then-self-eq0-clause-frame : goal.returns-then-self-eq0-clause-frame
returns-then-self-eq0-clause-frame g c = grind (arith, common_steps)
