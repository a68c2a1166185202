use Rattle.object65.specs.Scanning.{state_after_record, scan_step}
use Rattle.std.proofs.lemmas.Grind.{common_steps}
use Rattle.std.proofs.Common.{arith}
use Rattle.object65.specs.Record.{raw_record}
use Rattle.object65.specs.Internal.Sound.{state_in}
use Rattle.object65.proofs.ItemLimits.{room_next, whole_next}
use Rattle.object65.proofs.builder.Builder.take.Goals as goal

pub add_item-requires : goal.add_item-requires
add_item-requires c =
    let b = c.self.inside in
    let whole = c.self.invariant c.if-self.false in
    room_next (state_in b.parts b.scan) b.scan (raw_record c.args.next.now) (c.take.new.self, c.in_ok-item.item) whole.reached whole.scanned c.in_ok-item.ensures.scanned

pub invariant_of-self-2 : goal.invariant_of-self-2
invariant_of-self-2 c = λ running.
    let b = c.self.inside in
    whole_next b.parts c.add_item.new.parts b.scan c.take.new.self (raw_record c.args.next.now) c.in_ok-item.item (c.self.invariant c.if-self.false) c.in_ok-item.ensures.scanned c.in_ok-item.ensures.within c.in_ok-add_item.ensures

pub returns-clause-effect : goal.returns-clause-effect
unfolding state_after_record scan_step
returns-clause-effect c = grind (arith, common_steps)
