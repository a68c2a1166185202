use Rattle.std.proofs.Common.{◌≡◌, ◌∙◌, ◌+◌, ◌*◌, ◌<◌, List, length, sym, subst, ap}
use Rattle.std.specs.Prelude.{MatchOption, SomeIff, sum_by}
use Rattle.object65.specs.Objects.{width_len}
use Rattle.ast65.specs.declared.language.Item.{Item}
use Rattle.ast65.specs.Items.{items_of}
use Rattle.semantics65.specs.Norms.{item_len}
use Rattle.symbols65.proofs.StatementLayouts.{numbers_len, what_is_left}
use Rattle.symbols65.proofs.measuring.bytes.remaining_after.Goals as goal

pub returns-in_ok-length-in-Numbers : goal.returns-in_ok-length-in-Numbers
returns-in_ok-length-in-Numbers c =
    let width = c.args.width in
    let P : List Item → Type 0 = λ is. MatchOption c.checked_sub.result (c.args.remaining < sum_by (item_len width) is) (λ left. left + sum_by (item_len width) is ≡ c.args.remaining) in
    let product = length c.as_slice.result.now * c.width_len.result in
    let s = subst (λ o. SomeIff o (product < 18446744073709551616) product) c.in_ok-length-in-Numbers.was c.checked_mul.ensures in
    subst P (sym (ap items_of c.in-Numbers.is) ∙ c.kind.ensures)
    (rw (numbers_len width c.in-Numbers.numbers)
    (what_is_left c.checked_sub.result c.args.remaining c.in_ok-length-in-Numbers.length _
    (s.1 ∙ ap (λ w. length c.as_slice.result.now * w) c.width_len.ensures ∙ ap (λ ns. length ns * width_len width) c.as_slice.ensures) c.checked_sub.ensures))
