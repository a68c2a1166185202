use Rattle.std.proofs.Common.{◌≡◌, ◌≤◌, ◌+◌, ◌*◌, ◌-◌, ◌^◌, drop, map, not}
use Rattle.script65.specs.AreaSums.{sum_where, known_placements, term_value}
use Rattle.script65.specs.declared.script.Term.{Term}
use Rattle.script65.specs.Internal.SumContexts.{sum_context_in}
use Rattle.script65.specs.Placing.{row_placement}
use Rattle.script65.proofs.placing.sums.SumContext.sum_by.Given as goal

abbrev pub invariant-loop-term : goal.invariant-loop-term
invariant-loop-term l = record {
  more : l.added + sum_where (λ (t : Term). not t.minus) (term_value (known_placements (sum_context_in l.self)) (map row_placement l.self.row_states.now)) (drop l.term-index l.terms) ≡ sum_where (λ (t : Term). not t.minus) (term_value (known_placements (sum_context_in l.self)) (map row_placement l.self.row_states.now)) l.terms;
  less : l.subtracted + sum_where (λ (t : Term). t.minus) (term_value (known_placements (sum_context_in l.self)) (map row_placement l.self.row_states.now)) (drop l.term-index l.terms) ≡ sum_where (λ (t : Term). t.minus) (term_value (known_placements (sum_context_in l.self)) (map row_placement l.self.row_states.now)) l.terms;
  added : l.added ≤ l.term-index * (2 ^ 64 - 1);
  subtracted : l.subtracted ≤ l.term-index * (2 ^ 64 - 1);
}
