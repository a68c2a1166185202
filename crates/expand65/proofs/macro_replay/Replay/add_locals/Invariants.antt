use Rattle.std.proofs.Common.{◌≡◌, map, take}
use Rattle.expand65.specs.Lines.{with_locals}
use Rattle.expand65.specs.Replay.{substitution_of}
use Rattle.expand65.proofs.macro_replay.Replay.add_locals.Given as goal

abbrev pub invariant-loop-name : goal.invariant-loop-name
invariant-loop-name l = record {
  added : substitution_of l.self ≡ with_locals (take l.name-index (map (λ s. s.now) l.names)) (substitution_of l.fn.self);
  body : l.self.body ≡ l.fn.self.body;
  at : l.self.at ≡ l.fn.self.at;
}
