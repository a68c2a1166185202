use Rattle.std.proofs.Common.{◌≡◌, map, drop}
use Rattle.base65.specs.Outcome.{try_map}
use Rattle.cli65.specs.Defining.{define_of, define_view}
use Rattle.cli65.proofs.LoopSteps.{following}
use Rattle.cli65.proofs.defining.defines.Given as goal

abbrev pub invariant-loop-text : goal.invariant-loop-text
invariant-loop-text l = try_map define_of (map (λ t. t.now) l.texts) ≡ following (map define_view l.done) (try_map define_of (map (λ t. t.now) (drop l.text-index l.texts)))
