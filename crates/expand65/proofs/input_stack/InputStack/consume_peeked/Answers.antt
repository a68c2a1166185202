use Rattle.std.proofs.Common.{◌≡◌, ap, arith, refl, suc, rules}
use Rattle.expand65.specs.Lines.{InputEnd}
use Rattle.expand65.specs.declared.input_stack.InputStack.{InputStack}
use Rattle.expand65.proofs.FilePositions.{takes_on}
use Rattle.expand65.proofs.Inputs.{written_taken}
use Rattle.expand65.proofs.input_stack.InputStack.consume_peeked.Goals as goal

pub returns-clause-next_line : goal.returns-clause-next_line
returns-clause-next_line c = λ m ts (there, some).
    let old = c.args.self.now in
    let number = c.args.line.number in
    let new : InputStack = record { top = record { source = c.consume_peeked.new.self; conditions = old.top.conditions; return_location = old.top.return_location }; outer = old.outer; budget = c.saturating_sub-self.result; location = record { file = old.location.file; line = number } } in
    let more : suc c.saturating_sub-self.result ≡ old.budget = omega (arith, c.saturating_sub-self.ensures, some) in
    let same = ap (λ b. let k : InputEnd = record { is_macro = b; conditions = old.top.conditions; return_location = old.top.return_location } in k) c.consume_peeked.ensures.call in
    written_taken m old new number ts (c.consume_peeked.ensures.next_line m ts there) same refl refl more

pub returns-clause-innermost : goal.returns-clause-innermost
returns-clause-innermost c = record { mark = search rules; outer = refl }

pub returns-clause-stack_position : goal.returns-clause-stack_position
returns-clause-stack_position c = λ m ts (there, some) h.
    (let old = c.args.self.now in
    let number = c.args.line.number in
    let new : InputStack = record { top = record { source = c.consume_peeked.new.self; conditions = old.top.conditions; return_location = old.top.return_location }; outer = old.outer; budget = c.saturating_sub-self.result; location = record { file = old.location.file; line = number } } in
    takes_on m old new c.args.line ts refl refl c.consume_peeked.ensures.kind refl there (c.consume_peeked.ensures.at m ts old.location there) h)
