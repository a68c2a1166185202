use Rattle.std.proofs.Common.{Bor, List, ℕ, Some, cond, ap, ◌∙◌, sym, arith}
use Rattle.std.specs.Str.{bytes_eq}
use Rattle.std.specs.Map.{lookup}
use Rattle.indexmap.specs.IndexMap.{get_by}
use Rattle.script65.proofs.Members.{size_none, size_step}
use Rattle.script65.proofs.placing.areas.sizes_of.Goals as goal

pub loop-i-init : goal.loop-i-init
loop-i-init c = λ name. ap (lookup (λ (k : Bor (List ℕ)). bytes_eq name k.now)) c.new-sizes.ensures.empty ∙ sym (size_none c.args.needs.now name)

pub loop-i-preserved : goal.loop-i-preserved
loop-i-preserved c = λ name.
    let old = get_by (λ k. bytes_eq name k.now) c.loop-i.sizes in
    size_step c.args.needs.now c.loop-i.i c.index-needs-i.result name old _ (omega arith) (omega arith) c.index-needs-i.is
    (c.in_ok-insert.ensures.updates.0 (record { ref_ptr = (0, 0); now = name }) ∙ ap (λ key. cond (bytes_eq key name) (Some c.index-needs-i.result.size) old) c.as_slice.ensures)
    (c.loop-i.invariant name)
