use Rattle.std.proofs.Common.{◌-◌, refl, arith}
use Rattle.link65.proofs.TextLemmas.{one_more}
use Rattle.link65.proofs.mapping.hex_digits.Goals as goal

pub digits-preserved : goal.digits-preserved
digits-preserved c = record {
  within = omega (arith, c.digits.invariant.within);
  before = one_more c.args.count c.args.number c.digits.remaining (c.digits.remaining - 1) c.hex_digit.result c.digits.digits.items c.push.new.self.items c.digits-test.true c.digits.invariant.within refl c.digits.invariant.before c.hex_digit.ensures c.push.ensures.items;
}
