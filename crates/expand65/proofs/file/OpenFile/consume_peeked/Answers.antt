use Rattle.std.proofs.Common.{ℕ, subst, sym}
use Rattle.expand65.specs.Replay.{ReadsFileLine}
use Rattle.expand65.specs.Lines.{IsFileAt, remaining_file_lines, location_at}
use Rattle.expand65.proofs.LineCounts.{here_at}
use Rattle.expand65.proofs.LineReads.{file_peeked}
use Rattle.expand65.proofs.file.OpenFile.consume_peeked.Goals as goal

pub returns-clause-next_line : goal.returns-clause-next_line
returns-clause-next_line c = λ m ts (n, pending, following, number).
    let old = c.args.self.now in
    let line = c.args.line in
    let P : ℕ → Type 0 = λ k. ReadsFileLine (remaining_file_lines m old) line.number ts (remaining_file_lines m (record { name = old.name; buffer = old.buffer; at = k; next = old.next; line = line.number; spare = old.spare })) in
    subst P (sym following) (file_peeked m old n line.number ts pending number)

pub returns-clause-at : goal.returns-clause-at
returns-clause-at c = λ m ts p (n, (pending, lt, read), following, number) h.
    (let old = c.args.self.now in
    let line = c.args.line in
    let P : ℕ → Type 0 = λ k. IsFileAt m (record { name = old.name; buffer = old.buffer; at = k; next = old.next; line = line.number; spare = old.spare }) (location_at p line.number) in
    subst P (sym following) (here_at m old n line.number p pending lt number h))
