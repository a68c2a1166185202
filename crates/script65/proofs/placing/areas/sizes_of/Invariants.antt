use Rattle.std.proofs.Common.{◌≡◌, ℕ, List, drop}
use Rattle.std.specs.Str.{bytes_eq}
use Rattle.indexmap.specs.IndexMap.{get_by}
use Rattle.script65.specs.Placing.{size_of}
use Rattle.script65.proofs.placing.areas.sizes_of.Given as goal

abbrev pub invariant-loop-i : goal.invariant-loop-i
invariant-loop-i l = (name : List ℕ) → get_by (λ k. bytes_eq name k.now) l.sizes ≡ size_of (drop l.i l.needs) name
