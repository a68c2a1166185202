use Rattle.std.proofs.Common.{true, cond, ap, ◌∙◌}
use Rattle.std.specs.Str.{bytes_eq}
use Rattle.indexmap.specs.IndexSet.{contains_by}
use Rattle.script65.proofs.Members.{name_step, name_end}
use Rattle.script65.proofs.placing.areas.names_of.Goals as goal

pub loop-row-preserved : goal.loop-row-preserved
loop-row-preserved c = λ name.
    let old = contains_by (λ k. bytes_eq name k.now) c.loop-row.names in
    name_step c.args.rows.now c.loop-row.row-index c.row-item.result name old _ c.loop-row-test.true c.row-item.is
    (c.in_ok-insert.ensures.updates.0 (record { ref_ptr = (0, 0); now = name }) ∙ ap (λ key. cond (bytes_eq key name) true old) c.as_slice.ensures)
    (c.loop-row.invariant name)

pub returns : goal.returns
returns c = λ name. name_end c.args.rows.now c.loop-row.row-index name (contains_by (λ k. bytes_eq name k.now) c.loop-row.names) c.loop-row-test.false (c.loop-row.invariant name)
