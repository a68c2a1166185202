use Rattle.std.proofs.lemmas.Grind.{common_steps}
use Rattle.std.proofs.Common.{◌∙◌, refl, sym, rules, arith}
use Rattle.syntax65.specs.declared.source_location.SourceLocation.{SourceLocation}
use Rattle.expand65.specs.declared.input_stack.InputStack.{InputStack}
use Rattle.expand65.proofs.FilePositions.{goes_back, opened_at, stands_so}
use Rattle.expand65.proofs.preprocessor.Preprocessor.enter_file.Goals as goal

pub returns-clause-keeps : goal.returns-clause-keeps
returns-clause-keeps c = λ files.
    (let location : SourceLocation = record { file = c.in_ok-copy_of.field-0; line = 0 } in
    let mid = c.push_input.new.self in
    let new : InputStack = record { top = mid.top; outer = mid.outer; budget = mid.budget; location = location } in
    record {
      stands = stands_so files c.args.self.now.stack new (λ m h. goes_back m mid new location refl refl refl (c.in_ok-push_input.ensures.stack_position m location (opened_at m c.new.result location (c.new.ensures.name ∙ sym (c.in_ok-copy_of.ensures ∙ c.as_str.ensures)) c.new.ensures.line refl (c.new.ensures.following m)) tt c.in_ok-return_location.ensures h));
      size = search rules;
    })

pub returns-in_err-push_input-clause-outcome : goal.returns-in_err-push_input-clause-outcome
returns-in_err-push_input-clause-outcome c = grind (arith, common_steps)

pub returns-clause-outcome : goal.returns-clause-outcome
returns-clause-outcome c = grind (arith, common_steps)
