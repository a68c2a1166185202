use Rattle.std.proofs.Common.{ap, ◌∙◌}
use Rattle.symbols65.specs.Tables.{key_of}
use Rattle.symbols65.specs.Views.{interned_names_of}
use Rattle.symbols65.proofs.InternedNames.{finds, place_of_entry}
use Rattle.symbols65.proofs.table.symbols.Symbols.defined.Goals as goal

pub returns : goal.returns
returns c =
    let t = c.args.self.now in
    c.index_of_key.ensures ∙ ap (place_of_entry t.definitions.entries) c.in_ok-interned_key.ensures ∙ finds (interned_names_of t) t.definitions.entries (key_of c.args.key) t.entries_numbered

pub returns-in_err-interned_key : goal.returns-in_err-interned_key
returns-in_err-interned_key c =
    let t = c.args.self.now in
    c.from_residual.ensures ∙ ap (place_of_entry t.definitions.entries) c.in_err-interned_key.ensures ∙ finds (interned_names_of t) t.definitions.entries (key_of c.args.key) t.entries_numbered
