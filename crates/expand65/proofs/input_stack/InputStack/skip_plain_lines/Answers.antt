use Rattle.std.proofs.Common.{refl, ◌∙◌, arith}
use Rattle.expand65.specs.Representation.{remaining_of}
use Rattle.expand65.specs.Replay.{no_line, a_line}
use Rattle.expand65.proofs.input_stack.InputStack.skip_plain_lines.Goals as goal

pub lines-init : goal.lines-init
lines-init c = record {
  outer = refl;
  mark = refl;
  budget = omega arith;
  stands = λ m h. h;
  so_far = λ m. no_line (remaining_of m c.args.self.now);
}

pub lines-preserved : goal.lines-preserved
lines-preserved c =
    let new = c.skip_plain_line.new.self in
    let less = c.skip_plain_line.ensures.budget c.if-not-skip_plain_line.false in
    record {
      outer = c.skip_plain_line.ensures.innermost.outer ∙ c.lines.invariant.outer;
      mark = c.skip_plain_line.ensures.innermost.mark ∙ c.lines.invariant.mark;
      budget = omega (arith, less, c.lines.invariant.budget);
      stands = λ m h. c.skip_plain_line.ensures.stack_position m (c.lines.invariant.stands m h);
      so_far = λ m. a_line (remaining_of m c.args.self.now) (remaining_of m c.lines.self) (remaining_of m new) (c.lines.invariant.so_far m) (c.skip_plain_line.ensures.skipped m c.if-not-skip_plain_line.false);
    }
