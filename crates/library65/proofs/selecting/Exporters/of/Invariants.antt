use Rattle.std.proofs.Common.{◌≡◌, ℕ, List, drop}
use Rattle.std.specs.List.{position_from}
use Rattle.std.specs.Str.{bytes_eq}
use Rattle.indexmap.specs.IndexMap.{get_by}
use Rattle.object65.specs.Objects.{is_among}
use Rattle.library65.proofs.selecting.Exporters.of.Given as goal

abbrev pub invariant-loop-index : goal.invariant-loop-index
invariant-loop-index l = (name : List ℕ) → get_by (λ k. bytes_eq name k.now) l.by_name ≡ position_from (λ e. is_among e.exports name) l.index (drop l.index l.entries)
