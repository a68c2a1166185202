use Rattle.std.proofs.Common.{◌≡◌, ◌∙◌, ℕ, List, [], ◌∷◌, ◌++◌, length, map, nat_eq, true, sym, ap, subst}
use Rattle.std.proofs.lemmas.List.{map-append}
use Rattle.std.specs.Map.{keys_of}
use Rattle.indexmap.specs.IndexMap.{get}
use Rattle.semantics65.specs.Norms.{Extends}
use Rattle.semantics65.specs.Symbols.{Key, Symbols, definition_index}
use Rattle.ast65.proofs.Lists.{map_length, on_ok}
use Rattle.symbols65.specs.declared.table.symbols.Definition.{Definition}
use Rattle.symbols65.specs.declared.table.symbols.InternedKey.{InternedKey}
use Rattle.symbols65.specs.Resolving.{KeepsBindings}
use Rattle.symbols65.specs.Tables.{AreCounted, AreFinal, AreInnerKnown, AreNumbered, KeepsSearches, StoresFinalForm, definition_in, definition_view, key_of, key_name_id, table_in, table_without_imports}
use Rattle.symbols65.specs.Views.{table_of, with_definition, interned_names_of}
use Rattle.symbols65.proofs.TableGrowth.{after, counted_pushed, entry_is, final_pushed, inner_kept, inner_pushed, numbered_pushed}
use Rattle.symbols65.proofs.InternedNames.{finds, place_of_entry}
use Rattle.symbols65.proofs.PreservedBindings.{searches_kept, searches_pushed}
use Rattle.symbols65.proofs.table.defining.define.Goals as goal

pub push-requires : goal.push-requires
push-requires c =
    let t = c.entry.new.symbols in
    ap (place_of_entry t.definitions.entries) (sym c.in_ok-entry.ensures.entry)
    ∙ finds (interned_names_of t) t.definitions.entries (key_of c.args.key) t.entries_numbered
    ∙ ap (λ y. definition_index y (key_of c.args.key)) c.in_ok-entry.ensures.table
    ∙ c.requires.new

pub invariant_of-symbols : goal.invariant_of-symbols
invariant_of-symbols c =
    let t = c.entry.new.symbols in
    let kept = searches_kept (table_of t) (get nat_eq t.searched) (get nat_eq c.clear_unless.new.searched) c.keeps_bindings-keeps.result c.clear_unless.ensures.kept c.clear_unless.ensures.cleared (t.searches_hold, t.searches_past) in
    record {
      entries_numbered = t.entries_numbered;
      counts_fit = t.counts_fit;
      inner_known = inner_kept (keys_of t.definitions.entries) t.inner.items c.mark_inner.new.inner.items c.mark_inner.ensures.kept t.inner_known;
      openings_numbered = t.openings_numbered;
      openings_distinct = t.openings_distinct;
      forms_final = t.forms_final;
      searches_hold = kept.0;
      searches_past = kept.1;
    }

pub invariant_of-symbols-2 : goal.invariant_of-symbols-2
invariant_of-symbols-2 c =
    let t = c.entry.new.symbols in
    let ws = interned_names_of t in
    let es = t.definitions.entries in
    let ss = t.scopes.entries in
    let entry = c.in_ok-entry.entry in
    let definition = c.args.definition in
    let d = definition_in ws (entry, definition) in
    let keeps = c.keeps_bindings-keeps.result in
    let own = entry_is ws (key_of c.args.key) entry c.in_ok-entry.ensures.entry in
    let long : length (table_of t).definitions ≡ length es = map_length (definition_in ws) es in
    let form : StoresFinalForm (table_of t) (length es) d definition =
    subst (λ (k : Key). StoresFinalForm (table_of t) (length es) (definition_view k definition) definition) (sym own.1)
    (subst (λ (n : ℕ). StoresFinalForm (table_of t) n (definition_view (key_of c.args.key) definition) definition) long
    (subst (λ (y : Symbols). StoresFinalForm y (length y.definitions) (definition_view (key_of c.args.key) definition) definition) (sym c.in_ok-entry.ensures.table) c.requires.form)) in
    let meanings : keeps ≡ true → KeepsBindings (table_of t) (with_definition (table_of t) d) =
    λ yes. subst (λ (y : Symbols). KeepsBindings y (with_definition y d)) (sym c.in_ok-entry.ensures.table) (c.keeps_bindings-keeps.ensures yes d own.1) in
    let kept : AreInnerKnown (keys_of es) c.mark_inner.new.inner.items = inner_kept (keys_of es) t.inner.items c.mark_inner.new.inner.items c.mark_inner.ensures.kept t.inner_known in
    let Inner : List (InternedKey × Definition) → Type 0 = λ l. AreInnerKnown (keys_of l) c.mark_inner.new.inner.items in
    let Numbered : List (InternedKey × Definition) → Type 0 = λ l. AreNumbered key_name_id ws (keys_of l) in
    let Counted : List (InternedKey × Definition) → Type 0 = λ l. AreCounted (keys_of l) in
    let Final : List (InternedKey × Definition) → Type 0 = λ l. AreFinal ws l ss in
    let with_imports : (z : Symbols) → Extends (table_without_imports ws es ss) z → Extends (table_of t) z = λ z more. record { later_definitions = more.later_definitions; definitions = more.definitions; later_scopes = more.later_scopes; scopes = more.scopes } in
    let pushed = c.push.ensures.pushed in
    let unchanged = c.push.ensures.unchanged in
    let imports = map (λ k. k.items) t.imports.keys in
    let zero_page = map (λ k. k.items) t.zero_page.keys in
    let old = get nat_eq t.searched in
    let new = get nat_eq c.clear_unless.new.searched in
    let Searches : List (InternedKey × Definition) → Type 0 = λ l. KeepsSearches (table_in ws l ss imports zero_page) new in
    let more : KeepsSearches (with_definition (table_of t) d) new = searches_pushed (table_of t) d old new keeps c.clear_unless.ensures.kept c.clear_unless.ensures.cleared meanings (t.searches_hold, t.searches_past) in
    let longer : Searches (es ++ (entry, definition) ∷ []) = subst (λ ds. KeepsSearches (record (table_of t) { definitions = ds }) new) (sym (map-append (definition_in ws) es ((entry, definition) ∷ []))) more in
    let same : Searches es = searches_kept (table_of t) old new keeps c.clear_unless.ensures.kept c.clear_unless.ensures.cleared (t.searches_hold, t.searches_past) in
    let searches : Searches c.push.new.definitions.entries = after c.push.result (λ e. subst Searches (sym e) longer) (λ e. subst Searches (sym e) same) pushed unchanged in
    record {
      entries_numbered = after c.push.result (λ e. subst Numbered (sym e) (numbered_pushed key_name_id ws es entry definition t.entries_numbered own.0)) (λ e. subst Numbered (sym e) t.entries_numbered) pushed unchanged;
      inner_known = after c.push.result (λ e. subst Inner (sym e) (inner_pushed es entry definition c.mark_inner.new.inner.items kept c.in_ok-mark_inner.ensures.marked)) (λ e. subst Inner (sym e) kept) pushed unchanged;
      counts_fit = after c.push.result (λ e. subst Counted (sym e) (counted_pushed es entry definition t.counts_fit c.in_ok-entry.ensures.counted)) (λ e. subst Counted (sym e) t.counts_fit) pushed unchanged;
      openings_numbered = t.openings_numbered;
      openings_distinct = t.openings_distinct;
      forms_final = after c.push.result (λ e. subst Final (sym e) (final_pushed ws es ss (entry, definition) t.forms_final ((λ f is z more. form.0 f is z (with_imports z more)), (λ r is z more none. form.1 r is z (with_imports z more) none)))) (λ e. subst Final (sym e) t.forms_final) pushed unchanged;
      searches_hold = searches.0;
      searches_past = searches.1;
    }

pub returns : goal.returns
returns c =
    let t = c.entry.new.symbols in
    let k = c.in_ok-entry.entry in
    let key = (entry_is (interned_names_of t) (key_of c.args.key) k c.in_ok-entry.ensures.entry).1 in
    let es = t.definitions.entries in
    on_ok c.push.result (λ h.
    ap (λ l. table_in (interned_names_of t) l t.scopes.entries (map (λ k. k.items) t.imports.keys) (map (λ k. k.items) t.zero_page.keys)) h
    ∙ ap (λ ds. record (table_of t) { definitions = ds }) (map-append (definition_in (interned_names_of t)) es ((k, c.args.definition) ∷ []))
    ∙ ap (λ y. with_definition y (definition_in (interned_names_of t) (k, c.args.definition))) c.in_ok-entry.ensures.table
    ∙ ap (λ q. with_definition (table_of c.args.symbols.now) (definition_view q c.args.definition)) key) c.push.ensures.pushed
