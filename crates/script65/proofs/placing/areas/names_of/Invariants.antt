use Rattle.std.proofs.Common.{◌≡◌, ℕ, List, drop}
use Rattle.std.specs.Prelude.{◌||◌}
use Rattle.std.specs.Str.{bytes_eq}
use Rattle.indexmap.specs.IndexSet.{contains_by}
use Rattle.script65.specs.Placing.{has_row}
use Rattle.script65.proofs.placing.areas.names_of.Given as goal

abbrev pub invariant-loop-row : goal.invariant-loop-row
invariant-loop-row l = (name : List ℕ) → (contains_by (λ k. bytes_eq name k.now) l.names || has_row (drop l.row-index l.rows) name) ≡ has_row l.rows name
