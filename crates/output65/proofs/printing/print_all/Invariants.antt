use Rattle.std.proofs.Common.{◌≡◌, false, map, take, true}
use Rattle.output65.specs.RunEffects.{PrintsText}
use Rattle.cli65.specs.Messages.{concat_texts}
use Rattle.output65.proofs.printing.print_all.Given as goal

abbrev pub invariant-loop-part : goal.invariant-loop-part
invariant-loop-part g l = record {
  printed : PrintsText (g.W.Write.contents l.fn.stream.writer.now) (g.W.Write.contents l.stream.writer.now) (concat_texts (map (λ p. p.now) (take l.part-index l.parts))) true;
  same : l.stream.writer.ghost_name ≡ l.fn.stream.writer.ghost_name;
  requested : l.stream.has_failed ≡ false;
}
