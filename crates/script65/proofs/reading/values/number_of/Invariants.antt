use Rattle.std.proofs.Common.{◌≡◌, ◌≤◌, ◌+◌, ◌*◌, ◌^◌, drop, not}
use Rattle.std.specs.Prelude.{unwrap_or}
use Rattle.script65.specs.AreaSums.{sum_where}
use Rattle.script65.specs.Entries.{ParsedTerm}
use Rattle.script65.proofs.reading.values.number_of.Given as goal

abbrev pub invariant-loop-part : goal.invariant-loop-part
invariant-loop-part l = record {
  more : l.added + sum_where (λ (p : ParsedTerm). not p.minus) (λ (p : ParsedTerm). unwrap_or p.number 0) (drop l.part-index l.parsed_terms) ≡ sum_where (λ (p : ParsedTerm). not p.minus) (λ (p : ParsedTerm). unwrap_or p.number 0) l.parsed_terms;
  less : l.subtracted + sum_where (λ (p : ParsedTerm). p.minus) (λ (p : ParsedTerm). unwrap_or p.number 0) (drop l.part-index l.parsed_terms) ≡ sum_where (λ (p : ParsedTerm). p.minus) (λ (p : ParsedTerm). unwrap_or p.number 0) l.parsed_terms;
  added : l.added ≤ l.part-index * 2 ^ 64;
  subtracted : l.subtracted ≤ l.part-index * 2 ^ 64;
}
