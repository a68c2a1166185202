use Rattle.std.proofs.lemmas.Grind.{common_steps}
use Rattle.std.proofs.Common.{◌≡◌, ◌+◌, ℕ, ◌<◌, rules, Bool, List, [], ◌∷◌, length, drop, sym, ◌∙◌, subst, arith, Ok, IfSome}
use Rattle.std.proofs.lemmas.Result.{err_from_is_err_and}
use Rattle.expand65.specs.Lines.{IsFileAfterLines, IsReadingAt, line_location, lines_of, AppendsPiece, rest_of}
use Rattle.expand65.proofs.LineCounts.{ended_after, is_some, last_is_after, stops_within, where_failed}
use Rattle.expand65.proofs.Lines.{moved_to, line_ends, line_goes_on, with_more, line_is_last, given_that}
use Rattle.expand65.proofs.file.OpenFile.next_line.Goals as goal

pub returns-then-branch-clause-read : goal.returns-then-branch-clause-read
returns-then-branch-clause-read g c =
    let self = c.pieces.self in
    let new = c.append_piece.new.self in
    let P : Bool → Type 0 = λ b. (following : List ℕ) → AppendsPiece c.pieces.line.items (drop self.at self.buffer.items) following (Ok b) c.append_piece.new.line.items (drop new.at new.buffer.items) in
    let taken = subst P c.if-branch.true c.in_ok-append_piece.ensures.read in
    let Q : List ℕ → Type 0 = λ l. IfSome (g.S.Store.files c.args.store.now) (λ m. lines_of (rest_of m c.args.self.now) ≡ l ∷ lines_of (rest_of m new)) in
    subst Q (sym (c.from_vec.ensures ∙ c.drop_return.ensures)) (line_ends (g.S.Store.files c.args.store.now) c.args.self.now self new c.pieces.line.items c.append_piece.new.line.items c.pieces.invariant.so_far c.in_ok-append_piece.ensures.same.0 c.in_ok-append_piece.ensures.same.1 taken)

pub returns-then-not-branch-clause-read : goal.returns-then-not-branch-clause-read
returns-then-not-branch-clause-read g c =
    let o = g.S.Store.files c.args.store.now in
    let self = c.pieces.self in
    let mid = c.append_piece.new.self in
    let new = c.has_more.new.self in
    let P : Bool → Type 0 = λ b. (following : List ℕ) → AppendsPiece c.pieces.line.items (drop self.at self.buffer.items) following (Ok b) c.append_piece.new.line.items (drop mid.at mid.buffer.items) in
    let taken = subst P c.if-branch.false c.in_ok-append_piece.ensures.read in
    let on = line_goes_on o c.args.self.now self mid c.pieces.line.items c.append_piece.new.line.items c.pieces.invariant.so_far c.in_ok-append_piece.ensures.same.0 c.in_ok-append_piece.ensures.same.1 taken in
    let longer : length c.pieces.line.items < length c.append_piece.new.line.items = c.in_ok-append_piece.ensures.more c.if-branch.false in
    let kept = moved_to (λ m. rest_of m new ≡ rest_of m mid) o (g.S.Store.files c.pieces.store) c.pieces.invariant.files c.in_ok-has_more.ensures.kept in
    let none = moved_to (λ m. rest_of m new ≡ []) o (g.S.Store.files c.pieces.store) c.pieces.invariant.files (given_that (λ m. rest_of m new ≡ []) (g.S.Store.files c.pieces.store) c.if-not-branch.true c.in_ok-has_more.ensures.none) in
    let Q : List ℕ → Type 0 = λ l. IfSome o (λ m. lines_of (rest_of m c.args.self.now) ≡ l ∷ lines_of (rest_of m new)) in
    subst Q (sym c.from_vec-then-not-branch.ensures) (line_is_last o c.args.self.now mid new c.append_piece.new.line.items (omega (arith, longer)) c.in_ok-append_piece.ensures.part on kept none)

pub pieces-preserved : goal.pieces-preserved
pieces-preserved g c =
    let o = g.S.Store.files c.args.store.now in
    let self = c.pieces.self in
    let mid = c.append_piece.new.self in
    let new = c.has_more.new.self in
    let P : Bool → Type 0 = λ b. (following : List ℕ) → AppendsPiece c.pieces.line.items (drop self.at self.buffer.items) following (Ok b) c.append_piece.new.line.items (drop mid.at mid.buffer.items) in
    let taken = subst P c.if-branch.false c.in_ok-append_piece.ensures.read in
    let on = line_goes_on o c.args.self.now self mid c.pieces.line.items c.append_piece.new.line.items c.pieces.invariant.so_far c.in_ok-append_piece.ensures.same.0 c.in_ok-append_piece.ensures.same.1 taken in
    let kept = moved_to (λ m. rest_of m new ≡ rest_of m mid) o (g.S.Store.files c.pieces.store) c.pieces.invariant.files c.in_ok-has_more.ensures.kept in
    record {
      more = c.in_ok-has_more.ensures.more c.if-not-branch.false;
      part = c.in_ok-append_piece.ensures.part;
      few = c.in_ok-append_piece.ensures.few;
      number = c.in_ok-has_more.ensures.line ∙ c.in_ok-append_piece.ensures.same.2 ∙ c.pieces.invariant.number;
      name = c.in_ok-has_more.ensures.name ∙ c.in_ok-append_piece.ensures.same.0 ∙ c.pieces.invariant.name;
      files = c.in_ok-has_more.ensures.frame.files ∙ c.pieces.invariant.files;
      count = search rules;
      so_far = with_more o c.args.self.now mid new c.append_piece.new.line.items on kept;
    }

pub returns-then-branch-clause-following : goal.returns-then-branch-clause-following
returns-then-branch-clause-following g c =
    let e = c.in_ok-append_piece.ensures in
    ended_after (g.S.Store.files c.args.store.now) c.args.self.now c.pieces.self c.append_piece.new.self c.pieces.line.items c.append_piece.new.line.items c.pieces.invariant.so_far c.pieces.invariant.name e.same.0 e.same.1 e.part (e.ended c.if-branch.true)

pub returns-then-not-branch-clause-following : goal.returns-then-not-branch-clause-following
returns-then-not-branch-clause-following g c =
    let o = g.S.Store.files c.args.store.now in
    let self = c.pieces.self in
    let mid = c.append_piece.new.self in
    let new = c.has_more.new.self in
    let after = c.append_piece.new.line.items in
    let P : Bool → Type 0 = λ b. (following : List ℕ) → AppendsPiece c.pieces.line.items (drop self.at self.buffer.items) following (Ok b) c.append_piece.new.line.items (drop mid.at mid.buffer.items) in
    let taken = subst P c.if-branch.false c.in_ok-append_piece.ensures.read in
    let on = line_goes_on o c.args.self.now self mid c.pieces.line.items after c.pieces.invariant.so_far c.in_ok-append_piece.ensures.same.0 c.in_ok-append_piece.ensures.same.1 taken in
    let longer : length c.pieces.line.items < length c.append_piece.new.line.items = c.in_ok-append_piece.ensures.more c.if-branch.false in
    let kept = moved_to (λ m. rest_of m new ≡ rest_of m mid) o (g.S.Store.files c.pieces.store) c.pieces.invariant.files c.in_ok-has_more.ensures.kept in
    let none = moved_to (λ m. rest_of m new ≡ []) o (g.S.Store.files c.pieces.store) c.pieces.invariant.files (given_that (λ m. rest_of m new ≡ []) (g.S.Store.files c.pieces.store) c.if-not-branch.true c.in_ok-has_more.ensures.none) in
    let name = c.in_ok-has_more.ensures.name ∙ c.in_ok-append_piece.ensures.same.0 ∙ c.pieces.invariant.name in
    last_is_after o c.args.self.now new after (omega (arith, longer)) c.in_ok-append_piece.ensures.part name (with_more o c.args.self.now mid new after on kept) none

pub returns-in_err-has_more-clause-last_failure : goal.returns-in_err-has_more-clause-last_failure
returns-in_err-has_more-clause-last_failure g c =
    let p = err_from_is_err_and c.from_residual-in_err-has_more.result c.from_residual-in_err-has_more.ensures.1 in
    let o = g.S.Store.files c.args.store.now in
    let first = c.args.self.now in
    let self = c.pieces.self in
    let mid = c.append_piece.new.self in
    let after = c.append_piece.new.line.items in
    let last_failure = g.S.Store.last_failure c.has_more.new.store in
    let P : Bool → Type 0 = λ b. (following : List ℕ) → AppendsPiece c.pieces.line.items (drop self.at self.buffer.items) following (Ok b) c.append_piece.new.line.items (drop mid.at mid.buffer.items) in
    let taken = subst P c.if-branch.false c.in_ok-append_piece.ensures.read in
    let on = line_goes_on o first self mid c.pieces.line.items after c.pieces.invariant.so_far c.in_ok-append_piece.ensures.same.0 c.in_ok-append_piece.ensures.same.1 taken in
    let longer : length c.pieces.line.items < length c.append_piece.new.line.items = c.in_ok-append_piece.ensures.more c.if-branch.false in
    let name = c.in_ok-append_piece.ensures.same.0 ∙ c.pieces.invariant.name in
    rw (p.1, p.2) (where_failed o (λ m. IsFileAfterLines m first first.line) (λ m. IsReadingAt m last_failure (line_location first.name (first.line + 1))) c.in_err-has_more.field-0.0 (λ failed. stops_within o last_failure first mid after (c.in_err-has_more.ensures.frame.last_failure failed) c.in_ok-append_piece.ensures.part (is_some c.pieces.line.items after longer) name on))

pub returns-then-not-branch-clause-frame : goal.returns-then-not-branch-clause-frame
returns-then-not-branch-clause-frame g c = grind (arith, common_steps)

pub returns-then-not-branch-clause-last_failure : goal.returns-then-not-branch-clause-last_failure
returns-then-not-branch-clause-last_failure g c = grind (arith, common_steps)

pub returns-then-branch-clause-frame : goal.returns-then-branch-clause-frame
returns-then-branch-clause-frame g c = grind (arith, common_steps)

pub returns-in_err-append_piece-clause-read : goal.returns-in_err-append_piece-clause-read
returns-in_err-append_piece-clause-read g c = grind (arith, common_steps)
