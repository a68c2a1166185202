use Rattle.std.proofs.Common.{◌≡◌, ◌∙◌, map, nat_eq, ap}
use Rattle.symbols65.specs.Tables.{AreFinal, AreNumbered, KeepsSearches, definition_in, scope_opened, table_in, key_name_id, scope_name_id}
use Rattle.symbols65.specs.Views.{interned_names_of}
use Rattle.indexmap.specs.IndexMap.{get, keys}
use Rattle.symbols65.proofs.TableGrowth.{begun, definitions_stay, final_more, numbered_more, scopes_stay, searched_more}
use Rattle.symbols65.proofs.table.symbols.Symbols.intern_name.Goals as goal

pub invariant_of-self : goal.invariant_of-self
invariant_of-self c =
    let t = c.args.self.now in
    let ws = interned_names_of t in
    let es = t.definitions.entries in
    let ss = t.scopes.entries in
    let new = map (λ k. k.items) c.intern.new.interned_names.keys in
    let more = c.intern.ensures.more in
    let imports = map (λ k. k.items) t.imports.keys in
    let zero_page = map (λ k. k.items) t.zero_page.keys in
    let kept : KeepsSearches (table_in new es ss imports zero_page) (get nat_eq t.searched) = begun (λ l. KeepsSearches (table_in l es ss imports zero_page) (get nat_eq t.searched)) ws new more
    (λ m. searched_more ws m es ss imports zero_page (get nat_eq t.searched) t.entries_numbered t.openings_numbered (t.searches_hold, t.searches_past)) in
    record {
      entries_numbered = begun (λ l. AreNumbered key_name_id l (keys t.definitions)) ws new more (λ m. numbered_more ws m key_name_id (keys t.definitions) t.entries_numbered);
      counts_fit = t.counts_fit;
      inner_known = t.inner_known;
      openings_numbered = begun (λ l. AreNumbered scope_name_id l (keys t.scopes)) ws new more (λ m. numbered_more ws m scope_name_id (keys t.scopes) t.openings_numbered);
      openings_distinct = t.openings_distinct;
      forms_final = begun (λ l. AreFinal l es ss) ws new more (λ m. final_more ws m es ss t.entries_numbered t.openings_numbered t.forms_final);
      searches_hold = kept.0;
      searches_past = kept.1;
    }

pub returns-clause-table : goal.returns-clause-table
returns-clause-table c =
    let t = c.args.self.now in
    let ws = interned_names_of t in
    let es = t.definitions.entries in
    let ss = t.scopes.entries in
    let new = map (λ k. k.items) c.intern.new.interned_names.keys in
    let more = c.intern.ensures.more in
    let imports = map (λ k. k.items) t.imports.keys in
    let zero_page = map (λ k. k.items) t.zero_page.keys in
    ap (λ ds. record { definitions = ds; scopes = map (scope_opened new) ss; imports = imports; zero_page = zero_page }) (begun (λ l. map (definition_in l) es ≡ map (definition_in ws) es) ws new more (λ m. definitions_stay ws m es t.entries_numbered))
    ∙ ap (λ cs. record { definitions = map (definition_in ws) es; scopes = cs; imports = imports; zero_page = zero_page }) (begun (λ l. map (scope_opened l) ss ≡ map (scope_opened ws) ss) ws new more (λ m. scopes_stay ws m ss t.openings_numbered))
