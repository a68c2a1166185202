use Rattle.std.proofs.Common.{rules, ◌≡◌, ◌∙◌, ◌<◌, ◌≤◌, length, ap, sym, arith}
use Rattle.std.proofs.lemmas.Bool.Decides.{nat_tests}
use Rattle.semantics65.specs.Layout.{segment_at}
use Rattle.symbols65.proofs.StatementLayouts.{no_segment}
use Rattle.symbols65.proofs.Segments.{segment_is}
use Rattle.symbols65.proofs.measuring.reserves.check_segment.Goals as goal
use Rattle.symbols65.proofs.measuring.reserves.check_segment.Goals.{After-same_size, in-Some-get, in-None}

own_is : (c : After-same_size) → c.match-get.own ≡ (segment_at c.args.cursor.now.segments c.in-Some-segment_index.index).size
own_is c =
    let i = c.in-Some-segment_index.index in
    let gs = c.segments.result.now in
    elim c.match-get.branch [
      | in-Some-get w ↦ (let less : i < length gs = (let is = w.in-Some-get.ensures.lookup.0 in grind (arith, nat_tests)) in w.own-is ∙ ap (λ g. g.size) (segment_is gs i w.in-Some-get.segment.now less w.in-Some-get.ensures.lookup.1) ∙ ap (λ l. (segment_at l i).size) c.segments.ensures)
      | in-None w ↦ (let past : length gs ≤ i = (let is = w.in-None.ensures.lookup.0 in grind (arith, nat_tests)) in w.own-is ∙ sym (no_segment gs i past) ∙ ap (λ l. (segment_at l i).size) c.segments.ensures)
    ]

pub returns-else-same_size : goal.returns-else-same_size
returns-else-same_size c = let own = own_is (goal.at.returns-else-same_size c).After-same_size in search rules

pub returns-then-same_size : goal.returns-then-same_size
returns-then-same_size c = let own = own_is (goal.at.returns-then-same_size c).After-same_size in search rules
