use Rattle.std.proofs.Common.{◌≡◌, drop, map}
use Rattle.std.specs.List.{list_any}
use Rattle.expand65.specs.Macros.{is_generated_name}
use Rattle.expand65.proofs.repeats.has_generated_name.Given as goal

abbrev pub invariant-loop-name : goal.invariant-loop-name
invariant-loop-name l = list_any is_generated_name (map (λ s. s.now) (drop l.name-index l.names)) ≡ list_any is_generated_name (map (λ s. s.now) l.names)
