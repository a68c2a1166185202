use Rattle.std.proofs.Common.{◌≡◌, ◌<◌, ℕ, map, length, Some, slice_get, subst, ap, arith, refl}
use Rattle.std.proofs.lemmas.List.{length-append}
use Rattle.std.proofs.lemmas.Option.{slice_get_read}
use Rattle.library65.specs.Internal.Searching.{MarksExporters}
use Rattle.library65.specs.Selection.{imports_at}
use Rattle.library65.proofs.Selections.{search_goes_on}
use Rattle.library65.proofs.selecting.find_all.Goals as goal

pub loop-next-preserved : goal.loop-next-preserved
loop-next-preserved c =
    let es = c.args.exporters.now.entries.now in
    let wanted = map (λ n. n.items) c.args.wanted.now.keys in
    let defined = map (λ n. n.items) c.args.defined.now.keys in
    let found = c.loop-next.found.indices.items in
    let new = c.find_imports.new.found.indices.items in
    let next = c.loop-next.next in
    let index = c.index.result.now in
    let lt : next < length found = omega arith in
    let at : slice_get found next ≡ Some index = slice_get_read found (length found) next index refl lt c.index.ensures in
    let finds : MarksExporters es defined (imports_at es index) found new = subst (λ ns. MarksExporters es defined ns found new) c.imports-imports.ensures c.in_ok-find_imports.ensures.found in
    record {
      stands = c.in_ok-find_imports.ensures.stands;
      within = omega (arith, ap (length {A = ℕ}) finds.more, length-append found finds.following);
      found = search_goes_on es wanted defined found new next index lt at c.loop-next.invariant.found finds;
    }
