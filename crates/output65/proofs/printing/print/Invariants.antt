use Rattle.std.proofs.Common.{◌≡◌, false, length, ◌≤◌}
use Rattle.output65.proofs.Texts.{Printing}
use Rattle.output65.proofs.printing.print.Given as goal

abbrev pub invariant-printing : goal.invariant-printing
invariant-printing g l = record {
  within : length l.rest ≤ length l.text;
  done : Printing (g.W.Write.contents l.fn.stream.writer.now) (g.W.Write.contents l.stream.writer.now) l.text l.rest;
  same : l.stream.writer.ghost_name ≡ l.fn.stream.writer.ghost_name;
  requested : l.stream.has_failed ≡ false;
}

abbrev pub decreases-printing : goal.decreases-printing
decreases-printing g l = length l.rest
