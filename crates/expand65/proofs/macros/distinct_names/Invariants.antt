use Rattle.std.proofs.Common.{◌≡◌, map, take, true}
use Rattle.expand65.specs.Macros.{are_distinct}
use Rattle.expand65.proofs.macros.distinct_names.Given as goal

abbrev pub invariant-loop-name : goal.invariant-loop-name
invariant-loop-name l = record {
  keys : map (λ k. k.items) l.set.keys ≡ take l.name-index (map (λ s. s.now) l.names);
  so_far : are_distinct (take l.name-index (map (λ s. s.now) l.names)) ≡ true;
}
