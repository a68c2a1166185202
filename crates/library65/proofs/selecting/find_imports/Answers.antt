use Rattle.std.proofs.lemmas.Grind.{common_steps}
use Rattle.std.proofs.Common.{arith, ◌∷◌, [], map, take, sym, subst}
use Rattle.library65.specs.Internal.Searching.{MarksExporters}
use Rattle.library65.proofs.Selections.{finds_more}
use Rattle.library65.proofs.Tables.{taken_more}
use Rattle.library65.proofs.selecting.find_imports.Goals as goal

pub loop-name-preserved : goal.loop-name-preserved
loop-name-preserved c =
    let es = c.args.exporters.now.entries.now in
    let defined = map (λ n. n.items) c.args.defined.now.keys in
    let old = c.args.found.now.indices.items in
    let mid = c.loop-name.found.indices.items in
    let new = c.find_name.new.found.indices.items in
    let i = c.loop-name.name-index in
    let last = subst (λ n. MarksExporters es defined (n ∷ []) mid new) c.as_slice.ensures c.in_ok-find_name.ensures.found in
    record {
      stands = c.in_ok-find_name.ensures.stands;
      found = subst (λ ns. MarksExporters es defined ns old new) (sym (taken_more c.args.names.now i c.name-item.result c.loop-name-test.true c.name-item.is)) (finds_more es defined (take i c.args.names.now) c.name-item.result old mid new c.loop-name.invariant.found last);
    }

pub returns : goal.returns
returns c = grind (arith, common_steps)
