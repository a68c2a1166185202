use Rattle.std.proofs.Common.{◌≡◌, ◌∙◌, ℕ, List, Option, Some, None, Bool, true, false, option_map, position, ap, refl, sym}
use Rattle.std.specs.Prelude.{is_some, not}
use Rattle.std.specs.Borrow.{Bor}
use Rattle.std.specs.Str.{bytes_eq}
use Rattle.semantics65.specs.Symbols.{definition_index, import_index, named}
use Rattle.symbols65.specs.declared.table.symbols.InternedKey.TheVariants as entry
use Rattle.symbols65.specs.declared.table.symbols.Key.{Key}
use Rattle.symbols65.specs.declared.table.symbols.Key.TheVariants as key
use Rattle.symbols65.specs.Tables.{key_of}
use Rattle.symbols65.specs.Views.{interned_names_of, table_of}
use Rattle.symbols65.proofs.InternedNames.{finds, place_of_entry}
use Rattle.symbols65.proofs.PreservedBindings.{keeps_label, keeps_unknown}
use Rattle.symbols65.proofs.table.defining.keeps_bindings.Goals as goal

none_is : (o : Option ℕ) (b : Bool) → is_some o ≡ not b → b ≡ true → o ≡ None
none_is None b h e = refl
none_is (Some x) b h e = (let never : true ≡ false = h ∙ ap not e in absurd cc)

pub returns-then-is_none : goal.returns-then-is_none
returns-then-is_none c = λ yes d own.
    (let t = c.args.symbols.now in
    let n = c.in-Named.name.now in
    let name_id : position (bytes_eq n) (interned_names_of t) ≡ None = sym c.name_id.ensures ∙ none_is c.name_id.result c.is_none.result c.is_none.ensures c.if-is_none.true in
    let absent : import_index (table_of t) n ≡ None = sym c.imported.ensures ∙ none_is c.imported.result c.is_none-then-is_none.result c.is_none-then-is_none.ensures yes in
    let nowhere : (s : ℕ) → definition_index (table_of t) (named s n) ≡ None = λ s. sym (finds (interned_names_of t) t.definitions.entries (named s n) t.entries_numbered) ∙ ap (λ o. place_of_entry t.definitions.entries (option_map (entry.Named s) o)) name_id in
    keeps_unknown (table_of t) d c.in-Named.scope n (own ∙ ap key_of c.in-Named.is) (record { nowhere = nowhere; absent = absent }))

pub returns-in_default : goal.returns-in_default
returns-in_default c = λ yes d own. keeps_label (table_of c.args.symbols.now) d (λ q n is. label c.args.key c.in_default.not-Named q n (sym own ∙ is))
  where
    label : (k : Key) → ((x : ℕ) (m : Bor (List ℕ)) → k ≡ key.Named x m → ⊥) → (q : ℕ) (n : List ℕ) → key_of k ≡ named q n → ⊥
    label (key.Named s m) other q n is = other s m refl
    label (key.Cheap r m) other q n is = cc
    label (key.Unnamed k) other q n is = cc
