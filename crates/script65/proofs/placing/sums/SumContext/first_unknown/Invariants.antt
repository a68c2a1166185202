use Rattle.std.proofs.Common.{◌≡◌, drop, find, is_some, not}
use Rattle.script65.specs.AreaSums.{is_known}
use Rattle.script65.proofs.placing.sums.SumContext.first_unknown.Given as goal

abbrev pub invariant-loop-term : goal.invariant-loop-term
invariant-loop-term l = find (λ t. not (is_known l.self.index (is_some l.self.start) l.self.rows.now t)) (drop l.term-index l.terms) ≡ find (λ t. not (is_known l.self.index (is_some l.self.start) l.self.rows.now t)) l.terms
