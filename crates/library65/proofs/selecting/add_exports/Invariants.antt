use Rattle.std.proofs.Common.{◌≡◌, ℕ, List, take, Some, if◌then◌else◌}
use Rattle.std.specs.Str.{bytes_eq}
use Rattle.indexmap.specs.IndexMap.{get_by}
use Rattle.object65.specs.Objects.{is_among}
use Rattle.library65.proofs.selecting.add_exports.Given as goal

abbrev pub invariant-loop-name : goal.invariant-loop-name
invariant-loop-name l = (name : List ℕ) → get_by (λ k. bytes_eq name k.now) l.by_name ≡ (if is_among (take l.name-index l.names) name then Some l.index else get_by (λ k. bytes_eq name k.now) l.fn.by_name)
