use Rattle.std.proofs.lemmas.Grind.{common_steps}
use Rattle.std.proofs.Common.{refl, rules, arith}
use Rattle.expand65.proofs.FilePositions.{goes_back, stands_so}
use Rattle.expand65.proofs.preprocessor.Preprocessor.replay.Goals as goal

pub returns-clause-keeps : goal.returns-clause-keeps
returns-clause-keeps c = λ files.
    (let old = c.args.self.now.stack in
    let new = c.push_input.new.self in
    record { stands = stands_so files old new (λ m h. goes_back m new new old.location refl refl c.push_input.ensures.current_location (c.in_ok-push_input.ensures.stack_position m old.location tt refl refl h)); size = search rules })

pub returns-clause-outcome : goal.returns-clause-outcome
returns-clause-outcome c = grind (arith, common_steps)

pub returns-in_err-push_input-clause-outcome : goal.returns-in_err-push_input-clause-outcome
returns-in_err-push_input-clause-outcome c = grind (arith, common_steps)
