use Rattle.std.proofs.Common.{◌≡◌, ◌∙◌, length, nat_eq, ℕ, sym, ap, subst}
use Rattle.indexmap.specs.IndexMap.{get}
use Rattle.semantics65.specs.Norms.{defined_form, form_of_definition, form_of_value, norm_of}
use Rattle.symbols65.specs.Resolving.{FindsForm, IsEntryOf}
use Rattle.symbols65.specs.Tables.{KeepsSearches}
use Rattle.symbols65.specs.Views.{table_of}
use Rattle.symbols65.proofs.FormSearch.{entry_kept, searched_more}
use Rattle.symbols65.proofs.resolving.plains.search_constant.Goals as goal

pub run_search-found-requires : goal.run_search-found-requires
run_search-found-requires c =
    let t = c.args.symbols.now in
    subst (λ m. KeepsSearches (table_of t) (get nat_eq m)) (sym c.replace-known.ensures.value) (t.searches_hold, t.searches_past)

pub invariant_of-symbols-2 : goal.invariant_of-symbols-2
invariant_of-symbols-2 c =
    let t = c.args.symbols.now in
    let y = table_of t in
    let j = c.args.index in
    let r = c.run_search-found.result in
    let e = c.in_ok-entry.entry in
    let entry : IsEntryOf (length y.definitions) r e = subst (λ (n : ℕ). IsEntryOf n r e) c.definition_count.ensures c.in_ok-entry.ensures.entry in
    let d = c.in-Some.definition.now in
    let own : defined_form y j ≡ norm_of y d.context c.in-Some-value.value = ap (form_of_definition (norm_of y)) c.in-Some.ensures.definition ∙ ap (form_of_value (norm_of y) d.context) c.in-Some-value.is in
    let finds = subst (FindsForm r) (sym own) c.run_search-found.ensures.form in
    let before = entry_kept (length y.definitions) r e entry c.run_search-found.ensures.entries in
    let kept = searched_more y (get nat_eq c.run_search-found.new.known) (get nat_eq c.record.new.known) j r e finds entry c.in_ok-record.ensures before in
    record {
      entries_numbered = t.entries_numbered;
      counts_fit = t.counts_fit;
      openings_numbered = t.openings_numbered;
      inner_known = t.inner_known;
      openings_distinct = t.openings_distinct;
      forms_final = t.forms_final;
      searches_hold = kept.0;
      searches_past = kept.1;
    }
