use Rattle.std.proofs.Common.{◌∙◌, option_map, sym, ap}
use Rattle.semantics65.specs.Symbols.{named}
use Rattle.symbols65.specs.declared.table.symbols.InternedKey.TheVariants as entry
use Rattle.symbols65.specs.Views.{interned_names_of}
use Rattle.symbols65.proofs.InternedNames.{finds, place_of_entry}
use Rattle.symbols65.proofs.table.symbols.Symbols.defined_in.Goals as goal

pub returns : goal.returns
returns c = λ n at.
    (let t = c.args.self.now in
    c.index_of_key.ensures
    ∙ sym (ap (λ o. place_of_entry t.definitions.entries (option_map (entry.Named c.args.scope) o)) at)
    ∙ finds (interned_names_of t) t.definitions.entries (named c.args.scope n) t.entries_numbered)
