use Rattle.std.proofs.Common.{rules, Bool, List, [], map, ap, nat_eq, sym, subst, ◌∙◌, length, option_map, ◌∷◌}
use Rattle.std.proofs.lemmas.List.{map-append}
use Rattle.std.specs.Map.{keys_of, lookup}
use Rattle.indexmap.specs.IndexMap.{get}
use Rattle.semantics65.specs.Layout.{opened_twice}
use Rattle.ast65.proofs.Lists.{on_ok}
use Rattle.symbols65.specs.declared.table.symbols.ScopeKey.{ScopeKey}
use Rattle.symbols65.specs.Tables.{AreDistinct, AreFinal, AreNumbered, scope_name_id, scope_opened, table_in}
use Rattle.symbols65.specs.Views.{interned_names_of, table_of, with_scope}
use Rattle.symbols65.proofs.TableGrowth.{after, distinct_pushed, final_scoped, none_searched, numbered_pushed, opened_once, opening_distinct, opening_numbered, opening_scope}
use Rattle.symbols65.proofs.table.symbols.Symbols.open_scope.Goals as goal

pub push_scope-requires : goal.push_scope-requires
push_scope-requires c = search (rules, c.scope_index.ensures, c.is_some.ensures, c.if-is_some.false)

pub invariant_of-self : goal.invariant_of-self
invariant_of-self c =
    let t = c.new_scope_key.new.self in
    let ws = interned_names_of t in
    let es = t.definitions.entries in
    let ss = t.scopes.entries in
    let k = c.in_ok-scope_key.scope_key in
    let name = option_map (λ n. n.now) c.args.name in
    let opening = c.in_ok-scope_key.ensures.opening in
    let Numbered : List (ScopeKey × Bool) → Type 0 = λ l. AreNumbered scope_name_id ws (keys_of l) in
    let Distinct : List (ScopeKey × Bool) → Type 0 = λ l. AreDistinct (keys_of l) in
    let Final : List (ScopeKey × Bool) → Type 0 = λ l. AreFinal ws es l in
    let imports = map (λ k. k.items) t.imports.keys in
    let zero_page = map (λ k. k.items) t.zero_page.keys in
    let pushed = c.push_scope.ensures.pushed in
    let unchanged = c.push_scope.ensures.unchanged in
    let numbered = opening_numbered ws c.args.within k (length ss) name opening in
    let distinct = opening_distinct ws c.args.within k (length ss) name opening in
    record {
      entries_numbered = t.entries_numbered;
      counts_fit = t.counts_fit;
      inner_known = t.inner_known;
      openings_numbered = after c.push_scope.result (λ e. subst Numbered (sym e) (numbered_pushed scope_name_id ws ss k c.args.is_proc t.openings_numbered numbered)) (λ e. subst Numbered (sym e) t.openings_numbered) pushed unchanged;
      openings_distinct = after c.push_scope.result (λ e. subst Distinct (sym e) (distinct_pushed ss k c.args.is_proc t.openings_distinct distinct)) (λ e. subst Distinct (sym e) t.openings_distinct) pushed unchanged;
      forms_final = after c.push_scope.result (λ e. subst Final (sym e) (final_scoped ws es ss (k, c.args.is_proc) t.forms_final)) (λ e. subst Final (sym e) t.forms_final) pushed unchanged;
      searches_hold = (none_searched (table_in ws es c.push_scope.new.scopes.entries imports zero_page) (get nat_eq c.clear.new.self) (λ j. ap (lookup (nat_eq j)) c.clear.ensures.empty)).0;
      searches_past = (none_searched (table_in ws es c.push_scope.new.scopes.entries imports zero_page) (get nat_eq c.clear.new.self) (λ j. ap (lookup (nat_eq j)) c.clear.ensures.empty)).1;
    }

pub returns-then-is_some : goal.returns-then-is_some
returns-then-is_some c = λ once.
    (let t = c.new_scope_key.new.self in
    let ws = interned_names_of t in
    let k = c.in_ok-scope_key.scope_key in
    let name = option_map (λ n. n.now) c.args.name in
    let new = opened_once ws c.args.within k t.scopes.entries name t.openings_numbered t.openings_distinct c.in_ok-scope_key.ensures.opening (ap (λ y. opened_twice y.scopes c.args.within name) c.in_ok-scope_key.ensures.table ∙ once) in
    search (rules, new, c.scope_index.ensures, c.is_some.ensures, c.if-is_some.true))

pub returns : goal.returns
returns c =
    let t = c.new_scope_key.new.self in
    let ws = interned_names_of t in
    let es = t.definitions.entries in
    let ss = t.scopes.entries in
    let imports = map (λ k. k.items) t.imports.keys in
    let zero_page = map (λ k. k.items) t.zero_page.keys in
    let name = option_map (λ n. n.now) c.args.name in
    let k = c.in_ok-scope_key.scope_key in
    let scope = opening_scope ws c.args.within k (length ss) name c.args.is_proc c.in_ok-scope_key.ensures.opening in
    on_ok c.push_scope.result (λ e once. ap (λ l. table_in ws es l imports zero_page) e
    ∙ ap (λ l. record (table_of t) { scopes = l }) (map-append (scope_opened ws) ss ((k, c.args.is_proc) ∷ []))
    ∙ ap (with_scope (table_of t)) scope
    ∙ ap (λ y. with_scope y (record { within = c.args.within; name = name; is_proc = c.args.is_proc })) c.in_ok-scope_key.ensures.table) c.push_scope.ensures.pushed
