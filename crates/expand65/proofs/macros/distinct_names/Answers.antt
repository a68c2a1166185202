use Rattle.std.proofs.lemmas.Grind.{common_steps}
use Rattle.std.proofs.Common.{ap, arith}
use Rattle.expand65.specs.LineStart.{ok_or_not_understood}
use Rattle.expand65.proofs.Names.{names_again, names_more}
use Rattle.expand65.proofs.macros.distinct_names.Goals as goal

pub returns-then-not-is_new-clause-set : goal.returns-then-not-is_new-clause-set
returns-then-not-is_new-clause-set c =
    ap ok_or_not_understood (names_again c.args.names.now c.loop-name.name-index _ c.in_ok-from_slice.field-0 c.loop-name.set.keys c.in_ok-is_new.is_new c.loop-name-test.true c.in_ok-from_slice.ensures.items c.loop-name.invariant.keys c.in_ok-is_new.ensures.added c.if-not-is_new.true)

pub loop-name-preserved : goal.loop-name-preserved
loop-name-preserved c =
    let h = names_more c.args.names.now c.loop-name.name-index _ c.in_ok-from_slice.field-0 c.loop-name.set.keys c.insert.new.self.keys c.in_ok-is_new.is_new c.loop-name-test.true c.in_ok-from_slice.ensures.items c.loop-name.invariant.keys c.in_ok-is_new.ensures.added c.if-not-is_new.false c.loop-name.invariant.so_far c.in_ok-is_new.ensures.keys in
    record { keys = h.0; so_far = h.1 }

pub returns-clause-set : goal.returns-clause-set
returns-clause-set c = grind (arith, common_steps)
