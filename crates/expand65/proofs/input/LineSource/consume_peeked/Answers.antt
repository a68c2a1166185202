use Rattle.std.proofs.Common.{sym, subst}
use Rattle.expand65.specs.Representation.{IsSourceAt, remaining_in}
use Rattle.expand65.specs.Replay.{IsBufferedLine, ReadsFileLine}
use Rattle.expand65.specs.Lines.{IsFileAt, remaining_file_lines, location_at}
use Rattle.expand65.specs.declared.input.LineSource.{LineSource}
use Rattle.expand65.proofs.input.LineSource.consume_peeked.Goals as goal

pub returns-in-File-clause-next_line : goal.returns-in-File-clause-next_line
returns-in-File-clause-next_line c = λ m ts.
    let P : LineSource → Type 0 = λ s. IsBufferedLine s c.args.line ts → ReadsFileLine (remaining_in m s) c.args.line.number ts (remaining_file_lines m c.consume_peeked.new.self) in
    subst P (sym c.in-File.is) (c.consume_peeked.ensures.next_line m ts)

pub returns-in-File-clause-at : goal.returns-in-File-clause-at
returns-in-File-clause-at c = λ m ts p.
    let P : LineSource → Type 0 = λ s. IsBufferedLine s c.args.line ts → IsSourceAt m s p → IsFileAt m c.consume_peeked.new.self (location_at p c.args.line.number) in
    subst P (sym c.in-File.is) (c.consume_peeked.ensures.at m ts p)
