use Rattle.std.proofs.Common.{◌≡◌, true, ◌∙◌, List, map, sym, subst, rules, Ok, Err, arith, IfSome}
use Rattle.std.proofs.lemmas.Result.{err_from_is_err_and}
use Rattle.base65.specs.Outcome.{Unless}
use Rattle.syntax65.specs.Tokens.{Lexeme}
use Rattle.expand65.specs.Blocks.{ReadsBlockLine, line_verdict}
use Rattle.syntax65.specs.Faults.{is_failure, is_system_error}
use Rattle.expand65.specs.Representation.{branch_of, remaining_of, FailsAtLine, IsAtFailure, RefinesVerdict, IsStackPositionedIfKnown}
use Rattle.expand65.specs.Replay.{tokens_in}
use Rattle.expand65.specs.declared.blocks.BlockStep.{BlockStep}
use Rattle.expand65.proofs.BlockLines.{Leads, line_missing, line_refused, line_closes, line_goes_on, lines_passed}
use Rattle.expand65.proofs.Lines.{moved_to}
use Rattle.expand65.proofs.FilePositions.{stands_back, stands_so, stands_where}
use Rattle.expand65.proofs.ReadFailures.{line_read, plainly_read, stops_on}
use Rattle.expand65.proofs.input_stack.InputStack.read_block.Goals as goal

pub returns-in_err-line-clause-read : goal.returns-in_err-line-clause-read
returns-in_err-line-clause-read g c =
    let p = err_from_is_err_and c.from_residual.result c.from_residual.ensures.1 in
    let o = g.S.Store.files c.args.store.now in
    let k = c.args.kind in
    let body = map tokens_in c.lines.lines in
    let mid = c.skip_uncollected_lines.new.self in
    let so_far = lines_passed k o c.args.self.now c.lines.self mid c.lines.depth body c.skip_uncollected_lines.ensures.skipped c.lines.invariant.so_far in
    let f = c.in_err-line.field-0.0 in
    let new = c.read_block_line.new.self in
    let taken = moved_to (λ m. Unless (is_system_error f) (ReadsBlockLine (remaining_of m mid) (Err (f, new.location)))) o (g.S.Store.files c.lines.store) c.lines.invariant.files c.in_err-line.ensures.read in
    rw (p.1, p.2) (line_missing k o c.args.self.now mid c.lines.depth body f new.location so_far taken)

pub returns-in_err-end-clause-read : goal.returns-in_err-end-clause-read
returns-in_err-end-clause-read g c =
    let p = err_from_is_err_and c.from_residual-in_err-end.result c.from_residual-in_err-end.ensures.1 in
    let o = g.S.Store.files c.args.store.now in
    let k = c.args.kind in
    let body = map tokens_in c.lines.lines in
    let mid = c.skip_uncollected_lines.new.self in
    let so_far = lines_passed k o c.args.self.now c.lines.self mid c.lines.depth body c.skip_uncollected_lines.ensures.skipped c.lines.invariant.so_far in
    let new = c.read_block_line.new.self in
    let line = c.in_ok-line.line in
    let taken = moved_to (λ m. ReadsBlockLine (remaining_of m mid) (Ok (tokens_in line, remaining_of m new))) o (g.S.Store.files c.lines.store) c.lines.invariant.files c.in_ok-line.ensures.read in
    rw (p.1, p.2) (line_refused k o c.args.self.now mid new c.lines.depth body (tokens_in line) c.in_err-end.field-0.0 so_far taken c.in_err-end.ensures.step)

pub returns-in-Closed-clause-read : goal.returns-in-Closed-clause-read
returns-in-Closed-clause-read g c =
    let o = g.S.Store.files c.args.store.now in
    let k = c.args.kind in
    let body = map tokens_in c.lines.lines in
    let mid = c.skip_uncollected_lines.new.self in
    let so_far = lines_passed k o c.args.self.now c.lines.self mid c.lines.depth body c.skip_uncollected_lines.ensures.skipped c.lines.invariant.so_far in
    let new = c.read_block_line.new.self in
    let line = c.in_ok-line.line in
    let taken = moved_to (λ m. ReadsBlockLine (remaining_of m mid) (Ok (tokens_in line, remaining_of m new))) o (g.S.Store.files c.lines.store) c.lines.invariant.files c.in_ok-line.ensures.read in
    let P : BlockStep → Type 0 = λ s. RefinesVerdict (Ok s) (line_verdict k c.lines.depth (tokens_in line)) in
    let last = subst P c.in-Closed.is c.in_ok-end.ensures.step in
    line_closes k o c.args.self.now mid new c.lines.depth body (tokens_in line) (branch_of c.in-Closed.end) so_far taken last

pub lines-preserved : goal.lines-preserved
lines-preserved g c =
    let o = g.S.Store.files c.args.store.now in
    let k = c.args.kind in
    let body = map tokens_in c.lines.lines in
    let mid = c.skip_uncollected_lines.new.self in
    let so_far = lines_passed k o c.args.self.now c.lines.self mid c.lines.depth body c.skip_uncollected_lines.ensures.skipped c.lines.invariant.so_far in
    let reads = plainly_read k o c.args.self.now c.lines.self mid c.lines.depth c.skip_uncollected_lines.ensures.skipped c.lines.invariant.reads in
    let new = c.read_block_line.new.self in
    let line = c.in_ok-line.line in
    let taken = moved_to (λ m. ReadsBlockLine (remaining_of m mid) (Ok (tokens_in line, remaining_of m new))) o (g.S.Store.files c.lines.store) c.lines.invariant.files c.in_ok-line.ensures.read in
    let P : BlockStep → Type 0 = λ s. RefinesVerdict (Ok s) (line_verdict k c.lines.depth (tokens_in line)) in
    let goes = subst P c.in-Open.is c.in_ok-end.ensures.step in
    let Q : List (List Lexeme) → Type 0 = λ b. IfSome o (Leads k c.in-Open.deeper b new c.args.self.now) in
    let stands_on : IsStackPositionedIfKnown o c.lines.self → IsStackPositionedIfKnown o new = λ h. stands_back o (g.S.Store.files c.lines.store) mid new c.lines.invariant.files c.in_ok-line.ensures.stack_position (stands_so o c.lines.self mid c.skip_uncollected_lines.ensures.stack_position h) in
    record {
      outer = c.in_ok-line.ensures.innermost.outer ∙ c.skip_uncollected_lines.ensures.innermost.outer ∙ c.lines.invariant.outer;
      mark = c.in_ok-line.ensures.innermost.mark ∙ c.skip_uncollected_lines.ensures.innermost.mark ∙ c.lines.invariant.mark;
      budget = omega (arith, c.in_ok-line.ensures.remaining_budget, c.skip_uncollected_lines.ensures.budget, c.lines.invariant.budget);
      files = c.in_ok-line.ensures.frame.files ∙ c.lines.invariant.files;
      count = search rules;
      stands = λ h. stands_on (c.lines.invariant.stands h);
      reads = line_read k o c.args.self.now mid new c.lines.depth c.in-Open.deeper (tokens_in line) reads taken goes;
      so_far = subst Q (sym c.in_ok-append_if_collected-in-Open.ensures) (line_goes_on k o c.args.self.now mid new c.lines.depth c.in-Open.deeper body (tokens_in line) so_far taken goes);
    }

pub returns-in_err-line-clause-stopped : goal.returns-in_err-line-clause-stopped
returns-in_err-line-clause-stopped g c = λ stands.
    (let p = err_from_is_err_and c.from_residual.result c.from_residual.ensures.1 in
    let o = g.S.Store.files c.args.store.now in
    let k = c.args.kind in
    let mid = c.skip_uncollected_lines.new.self in
    let f = c.in_err-line.field-0.0 in
    let reads = plainly_read k o c.args.self.now c.lines.self mid c.lines.depth c.skip_uncollected_lines.ensures.skipped c.lines.invariant.reads in
    let stops = moved_to (λ m. is_failure f ≡ true → IsAtFailure (FailsAtLine m (g.S.Store.last_failure c.read_block_line.new.store) (remaining_of m mid)) mid c.read_block_line.new.self) o (g.S.Store.files c.lines.store) c.lines.invariant.files (c.in_err-line.ensures.stopped (stands_where o (g.S.Store.files c.lines.store) mid c.lines.invariant.files (stands_so o c.lines.self mid c.skip_uncollected_lines.ensures.stack_position (c.lines.invariant.stands stands)))) in
    rw (p.1, p.2) (stops_on (g.S.Store.last_failure c.read_block_line.new.store) k o c.args.self.now mid c.read_block_line.new.self c.lines.depth f reads (c.skip_uncollected_lines.ensures.innermost.mark ∙ c.lines.invariant.mark) stops))

pub returns-in-Closed-clause-stack_position : goal.returns-in-Closed-clause-stack_position
returns-in-Closed-clause-stack_position g c = λ stands.
    (let o = g.S.Store.files c.args.store.now in
    let mid = c.skip_uncollected_lines.new.self in
    let new = c.read_block_line.new.self in
    stands_back o (g.S.Store.files c.lines.store) mid new c.lines.invariant.files c.in_ok-line.ensures.stack_position (stands_so o c.lines.self mid c.skip_uncollected_lines.ensures.stack_position (c.lines.invariant.stands stands)))
