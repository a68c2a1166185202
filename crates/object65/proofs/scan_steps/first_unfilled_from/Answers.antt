use Rattle.std.proofs.Common.{◌∙◌, sym, arith}
use Rattle.std.proofs.lemmas.List.Sums.{prefix_len-le-length}
use Rattle.object65.specs.Scanning.{is_filled}
use Rattle.object65.proofs.ScanInvariants.{front-on, front-ends}
use Rattle.object65.proofs.scan_steps.first_unfilled_from.Goals as goal

pub loop-at-preserved : goal.loop-at-preserved
loop-at-preserved c = front-on is_filled c.args.fills.now c.loop-at.at _ c.loop-at-test.true (sym c.is_full_section.ensures ∙ c.if-is_full_section.true) c.loop-at.invariant

pub returns-else-is_full_section : goal.returns-else-is_full_section
returns-else-is_full_section c = front-ends is_filled c.args.fills.now c.loop-at.at _ (sym c.is_full_section.ensures ∙ c.if-is_full_section.false) c.loop-at.invariant

pub returns-after-loop-at : goal.returns-after-loop-at
returns-after-loop-at c = omega (arith, c.loop-at.invariant, c.loop-at-test.false, prefix_len-le-length is_filled c.args.fills.now)
