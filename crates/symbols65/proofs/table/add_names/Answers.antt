use Rattle.std.proofs.Common.{sym, ap, ◌∙◌, map, add-one, arith, drop, suc}
use Rattle.semantics65.specs.Symbols.{with_new_names}
use Rattle.ast65.proofs.Lists.{drop_item}
use Rattle.symbols65.proofs.InternedNames.{insert_name, with_one}
use Rattle.symbols65.proofs.table.add_names.Goals as goal

pub loop-name-preserved : goal.loop-name-preserved
loop-name-preserved c =
    let known = map (λ k. k.items) c.loop-name.known.keys in
    rw add-one (
    ap (λ l. with_new_names l (drop (suc c.loop-name.name-index) c.args.names.now)) (ap (map (λ k. k.items)) c.in_ok-insert.ensures.keys ∙ insert_name (λ k. k.items) c.loop-name.known.keys c.in_ok-from_slice.field-0 ∙ ap (with_one known) (c.in_ok-from_slice.ensures.items ∙ c.as_slice.ensures))
    ∙ sym (ap (with_new_names known) (drop_item c.args.names.now c.loop-name.name-index c.name-item.result (omega arith) c.name-item.is))
    ∙ c.loop-name.invariant)
