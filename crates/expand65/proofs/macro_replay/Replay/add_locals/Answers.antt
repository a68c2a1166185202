use Rattle.std.proofs.Common.{◌∙◌}
use Rattle.expand65.specs.Replay.{substitution_of}
use Rattle.expand65.proofs.Tables.{more_names}
use Rattle.expand65.proofs.macro_replay.Replay.add_locals.Goals as goal

pub loop-name-preserved : goal.loop-name-preserved
loop-name-preserved c = record {
  added = more_names c.args.names.now c.loop-name.name-index _ (substitution_of c.args.self.now) (substitution_of c.loop-name.self) (substitution_of c.add_local.new.self) c.loop-name-test.true c.in_ok-add_local.ensures.added c.loop-name.invariant.added;
  body = c.in_ok-add_local.ensures.body ∙ c.loop-name.invariant.body;
  at = c.in_ok-add_local.ensures.at ∙ c.loop-name.invariant.at;
}
