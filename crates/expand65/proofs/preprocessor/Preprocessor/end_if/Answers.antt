use Rattle.std.proofs.Common.{◌∙◌, sym, ap}
use Rattle.expand65.specs.State.{endif_result}
use Rattle.expand65.specs.Representation.{state_of}
use Rattle.expand65.proofs.ExpansionFailures.{last_is}
use Rattle.expand65.proofs.preprocessor.Preprocessor.end_if.Goals as goal

pub returns-in-None-clause-outcome : goal.returns-in-None-clause-outcome
returns-in-None-clause-outcome c =
    let old = c.args.self.now in
    λ m. sym (ap (endif_result (state_of m old)) (last_is m old ∙ c.in-None.ensures.pops))

pub returns-in-Some-clause-outcome : goal.returns-in-Some-clause-outcome
returns-in-Some-clause-outcome c =
    let old = c.args.self.now in
    λ m. sym (ap (endif_result (state_of m old)) (last_is m old ∙ c.in-Some.ensures.pops))
