use Rattle.std.proofs.Common.{◌∙◌, ◌<◌, ◌≤◌, ◌+◌, map, length, sym, subst, ap, arith}
use Rattle.std.specs.List.{AllByRecursion}
use Rattle.library65.specs.Internal.Searching.{marked_indices_from}
use Rattle.library65.specs.Selection.{IsSelection}
use Rattle.library65.specs.declared.index.Entry.{Entry}
use Rattle.library65.proofs.Selections.{marked_below, searched_selected}
use Rattle.library65.proofs.selecting.select.Goals as goal

pub returns-clause-selected : goal.returns-clause-selected
returns-clause-selected c =
    let wanted = map (λ n. n.items) c.args.wanted.now.keys in
    let defined = map (λ n. n.items) c.args.defined.now.keys in
    let es = c.in_ok-exporters.exporters.entries.now in
    let marks = c.find_all.new.found.marks.items in
    let found = c.find_all.new.found.indices.items in
    let indices = c.in_ok-marked_indices.field-0.items in
    let same = c.in_ok-exporters.ensures.entries ∙ c.as_slice.ensures in
    let marked = c.in_ok-marked_indices.ensures ∙ ap (marked_indices_from 0) c.as_slice-2.ensures.value in
    subst (λ xs. IsSelection xs wanted defined indices) same (searched_selected es wanted defined found marks indices c.in_ok-find_all.ensures.found c.in_ok-find_all.ensures.invariant.sound.marks marked)

pub returns-clause-within : goal.returns-clause-within
returns-clause-within c =
    let n = length c.args.index.now.entries in
    let same = c.in_ok-exporters.ensures.entries ∙ c.as_slice.ensures in
    let marks = c.find_all.new.found.marks.items in
    let all : 0 + length marks ≤ n = omega (arith, c.in_ok-find_all.ensures.invariant.marks, ap (length {A = Entry}) same) in
    let marked = c.in_ok-marked_indices.ensures ∙ ap (marked_indices_from 0) c.as_slice-2.ensures.value in
    subst (AllByRecursion (λ i. i < n)) (sym marked) (marked_below n 0 marks all)
