use Rattle.std.proofs.Common.{refl, arith, length, ℕ, List, Some, None, Option, ◌≡◌, ap, ◌∙◌, Bor}
use Rattle.std.proofs.lemmas.Grind.{common_steps}
use Rattle.std.proofs.lemmas.Option.{gets}
use Rattle.std.specs.Map.{lookup}
use Rattle.std.specs.Str.{bytes_eq}
use Rattle.std.specs.Prelude.{unwrap_or, option_map}
use Rattle.std.specs.Option.{option_or}
use Rattle.script65.specs.declared.script.SegmentRow.{SegmentRow}
use Rattle.script65.specs.declared.placement.RowPlacement.{RowPlacement}
use Rattle.link65.specs.Values.{run_at}
use Rattle.link65.proofs.ListLemmas.{known_all, known_more, known_none}
use Rattle.link65.proofs.resolving.runs_of.Goals as goal
use Rattle.link65.proofs.resolving.runs_of.Goals.{in-Some, in-None}

pub loop-i-init : goal.loop-i-init
loop-i-init c = known_none (λ (r : SegmentRow). r.name) (λ i. run_at c.args.placements.now (Some i)) c.args.rows.now (length c.args.rows.now) (λ (name : List ℕ). None) c.with_hasher-runs.result refl
    (λ name. ap (lookup (λ (k : Bor (List ℕ)). bytes_eq name k.now)) c.with_hasher-runs.ensures.empty)

pub loop-i-preserved : goal.loop-i-preserved
loop-i-preserved c =
    known_more (λ (r : SegmentRow). r.name) (λ i. run_at c.args.placements.now (Some i)) c.args.rows.now c.loop-i.i c.index-rows-i.result c.as_slice.result.now _ (λ (name : List ℕ). None) c.loop-i.runs c.insert.new.self (omega arith) (omega arith) c.index-rows-i.is c.as_slice.ensures
    (elim c.match-get.branch [ in-Some w ↦ rw w.run-is (grind (arith, common_steps, gets)) | in-None w ↦ rw w.run-is (grind (arith, common_steps, gets)) ])
    (λ name. c.in_ok-insert.ensures.updates.0 (record { ref_ptr = (0, 0); now = name })) c.loop-i.invariant

run_found : (placements : List RowPlacement) (o : Option ℕ) → unwrap_or (option_or (option_map (λ i. run_at placements (Some i)) o) None) 0 ≡ run_at placements o
run_found placements None = refl
run_found placements (Some i) = refl

pub returns : goal.returns
returns c = λ name.
    ap (λ o. unwrap_or o 0) (known_all (λ (r : SegmentRow). r.name) (λ i. run_at c.args.placements.now (Some i)) c.args.rows.now c.loop-i.i (λ (name : List ℕ). None) c.loop-i.runs (omega arith) c.loop-i.invariant name)
    ∙ run_found c.args.placements.now _
