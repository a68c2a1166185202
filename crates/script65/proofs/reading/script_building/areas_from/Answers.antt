use Rattle.std.proofs.Common.{◌≡◌, length, drop, slice_get, subst, sym, ap, ◌∙◌, arith, Err}
use Rattle.std.proofs.lemmas.Option.{slice_get_within}
use Rattle.std.proofs.lemmas.Result.{err_from_is_err_and}
use Rattle.base65.specs.Outcome.{try_map}
use Rattle.script65.specs.Faults.{is_system_error}
use Rattle.script65.specs.Scripts.{area_from}
use Rattle.script65.proofs.ListLemmas.{following, each_step, each_stops, each_end, none_mapped, longer, unless_map}
use Rattle.script65.proofs.reading.script_building.areas_from.Goals as goal

pub areas-preserved : goal.areas-preserved
areas-preserved c =
    let es = c.args.entries.now in
    subst (λ s. following s (try_map (area_from es) (drop (length s) es.areas)) ≡ try_map (area_from es) es.areas) (sym c.in_ok-push.ensures.ok)
    (each_step (area_from es) c.areas.areas es.areas c.in-Some.entry.now c.in_ok-area_from.field-0 c.areas.invariant
    (ap (slice_get es.areas) (sym c.len.ensures) ∙ sym c.in-Some.ensures) c.in_ok-area_from.ensures)

pub areas-smaller : goal.areas-smaller
areas-smaller c =
    let within = slice_get_within c.args.entries.now.areas c.len.result c.in-Some.entry.now (sym c.in-Some.ensures) in
    let more = ap length c.in_ok-push.ensures.ok ∙ longer c.areas.areas c.in_ok-area_from.field-0 in
    omega (arith, within, more, c.len.ensures)

pub returns-in_err-area_from : goal.returns-in_err-area_from
returns-in_err-area_from c =
    let p = err_from_is_err_and c.from_residual.result c.from_residual.ensures.1 in
    let e = c.in_err-area_from.field-0.0 in
    let es = c.args.entries.now in
    rw (p.1, p.2) (unless_map (area_from es c.in-Some.entry.now ≡ Err e) (try_map (area_from es) es.areas ≡ Err e) (is_system_error e)
    (each_stops (area_from es) c.areas.areas es.areas c.in-Some.entry.now e c.areas.invariant
    (ap (slice_get es.areas) (sym c.len.ensures) ∙ sym c.in-Some.ensures)) c.in_err-area_from.ensures)

pub returns : goal.returns
returns c = each_end (area_from c.args.entries.now) c.areas.areas c.args.entries.now.areas c.areas.invariant
    (ap (slice_get c.args.entries.now.areas) (sym c.len.ensures) ∙ none_mapped _ c.get.result _ c.in_default.not-Some c.get.ensures)
