use Rattle.std.proofs.Common.{rules, ◌≡◌, arith}
use Rattle.semantics65.specs.Norms.{item_len}
use Rattle.symbols65.proofs.StatementLayouts.{items_left, none_left}
use Rattle.symbols65.proofs.measuring.bytes.remaining_after_mixed.Goals as goal
use Rattle.symbols65.proofs.measuring.bytes.remaining_after_mixed.Goals.{in-Value, in-StringLiteral}

pub loop-item-preserved : goal.loop-item-preserved
loop-item-preserved c =
    let e = items_left c.args.width c.args.items.now c.loop-item.item-index c.item-item.result (omega arith) c.item-item.is in
    let length : c.match-item.length ≡ item_len c.args.width c.item-item.result = elim c.match-item.branch [ in-Value w ↦ search rules | in-StringLiteral w ↦ search rules ] in
    omega (arith, e, c.loop-item.invariant, length, c.in_ok-left.ensures.0, c.in_ok-left.ensures.1)

pub returns-in_err-left : goal.returns-in_err-left
returns-in_err-left c =
    let e = items_left c.args.width c.args.items.now c.loop-item.item-index c.item-item.result (omega arith) c.item-item.is in
    let length : c.match-item.length ≡ item_len c.args.width c.item-item.result = elim c.match-item.branch [ in-Value w ↦ search rules | in-StringLiteral w ↦ search rules ] in
    rw c.from_residual.ensures (omega (arith, e, c.loop-item.invariant, length, c.in_err-left.ensures))

pub returns : goal.returns
returns c =
    let e = none_left c.args.width c.args.items.now c.loop-item.item-index c.loop-item-test.false in
    omega (arith, e, c.loop-item.invariant)
