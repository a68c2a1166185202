use Rattle.std.proofs.Common.{◌≡◌, length, map, drop, slice_get, subst, sym, ap, ◌∙◌, ◌++◌}
use Rattle.script65.specs.Scripts.{symbol_from}
use Rattle.script65.proofs.ListLemmas.{map_step, map_end, none_mapped}
use Rattle.script65.proofs.reading.script_building.symbols_from.Goals as goal

pub symbols-preserved : goal.symbols-preserved
symbols-preserved c =
    subst (λ s. s ++ map symbol_from (drop (length s) c.args.table.now) ≡ map symbol_from c.args.table.now) (sym c.in_ok-push.ensures.ok)
    (map_step symbol_from c.symbols.symbols c.args.table.now c.in-Some.entry.now _ c.symbols.invariant
    (ap (slice_get c.args.table.now) (sym c.len.ensures) ∙ sym c.in-Some.ensures) c.in_ok-symbol_from.ensures)

pub returns : goal.returns
returns c = map_end symbol_from c.symbols.symbols c.args.table.now c.symbols.invariant
    (ap (slice_get c.args.table.now) (sym c.len.ensures) ∙ none_mapped _ c.get.result _ c.in_default.not-Some c.get.ensures)
