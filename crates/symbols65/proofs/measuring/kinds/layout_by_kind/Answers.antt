use Rattle.std.proofs.Common.{arith}
use Rattle.std.proofs.lemmas.Grind.{common_steps}
use Rattle.symbols65.specs.Views.{table_of}
use Rattle.symbols65.proofs.measuring.kinds.layout_by_kind.Goals as goal

pub returns-in-Values : goal.returns-in-Values
returns-in-Values c = rw c.in-Values.is (c.values.ensures (table_of c.args.before.symbols.now))

pub returns-in-Reserve : goal.returns-in-Reserve
returns-in-Reserve c = rw c.in-Reserve.is (c.reserve.ensures (table_of c.args.before.symbols.now) c.in-Reserve.count c.in-Reserve.value (rw c.in-Reserve.is at c.requires))

pub returns-in-Align : goal.returns-in-Align
returns-in-Align c = rw c.in-Align.is (c.align.ensures (table_of c.args.before.symbols.now) c.in-Align.alignment c.in-Align.value (rw c.in-Align.is at c.requires))

pub returns-in_err-check_segment-in-Segment : goal.returns-in_err-check_segment-in-Segment
returns-in_err-check_segment-in-Segment c = grind (arith, common_steps)
