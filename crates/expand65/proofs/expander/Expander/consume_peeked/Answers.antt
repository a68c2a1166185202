use Rattle.std.proofs.Common.{◌<◌, subst, sym, take, drop}
use Rattle.expand65.specs.Failures.{YieldsStatements, line_statements}
use Rattle.expand65.specs.declared.expander.PendingLine.{PendingLine}
use Rattle.expand65.specs.Representation.{measure_of}
use Rattle.expand65.proofs.BufferedLines.{following, less_after, line_given}
use Rattle.expand65.proofs.expander.Expander.consume_peeked.Goals as goal

pub returns-clause-statements : goal.returns-clause-statements
returns-clause-statements c = λ n ts (right, bare, next) is.
    let old = c.args.self.now in
    let e = c.consume_peeked.ensures in
    let P : PendingLine → Type 0 = λ f. YieldsStatements old (line_statements (take n ts) (drop n ts)) (following old c.consume_peeked.new.self f) in
    subst P (sym bare) (line_given old c.consume_peeked.new.self right bare next.1 e.remaining_budget e.innermost.outer n ts is (λ m. e.next_line m ts next))

pub returns-clause-less : goal.returns-clause-less
returns-clause-less c = λ ts (right, bare, next).
    let old = c.args.self.now in
    let e = c.consume_peeked.ensures in
    let P : PendingLine → Type 0 = λ f. measure_of (following old c.consume_peeked.new.self f) < measure_of old in
    subst P (sym bare) (less_after old c.consume_peeked.new.self right bare next.1 e.remaining_budget e.innermost.outer)

pub returns-clause-positioned : goal.returns-clause-positioned
returns-clause-positioned c = λ m ts (right, bare, next) h. c.consume_peeked.ensures.stack_position m ts next h
