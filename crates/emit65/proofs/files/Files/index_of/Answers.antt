use Rattle.std.proofs.Common.{◌∙◌, Some, map, option_map, sym, ap}
use Rattle.std.specs.Prelude.{string_bytes}
use Rattle.std.specs.List.{list_any}
use Rattle.std.specs.Str.{bytes_eq}
use Rattle.std.proofs.lemmas.Option.{slice_get-map}
use Rattle.ast65.proofs.Lists.{position_mapped, same_bytes}
use Rattle.emit65.proofs.Naming.{begins_inserted, named_there}
use Rattle.emit65.proofs.files.Files.index_of.Goals as goal

pub returns-in-Some-get_index_of-clause-place : goal.returns-in-Some-get_index_of-clause-place
returns-in-Some-get_index_of-clause-place c =
    let keys = c.args.self.now.table.keys in
    named_there (map string_bytes keys) c.args.name.now c.in-Some-get_index_of.index (position_mapped (bytes_eq c.args.name.now) string_bytes keys ∙ sym c.get_index_of.ensures.index ∙ c.in-Some-get_index_of.is)

pub returns-clause-more : goal.returns-clause-more
returns-clause-more c =
    let keys = c.args.self.now.table.keys in
    let key = c.in_ok-from_str.field-0 in
    begins_inserted string_bytes keys c.insert_full.new.self.keys key (list_any (λ k. bytes_eq (string_bytes key) (string_bytes k)) keys) c.in_ok-index.ensures.keys

pub returns-clause-place : goal.returns-clause-place
returns-clause-place c =
    let (k, at, same) = c.in_ok-index.ensures.stored in
    slice_get-map string_bytes c.insert_full.new.self.keys c.in_ok-index.index
    ∙ ap (option_map string_bytes) at
    ∙ ap Some (sym (same_bytes _ (string_bytes k) same) ∙ c.in_ok-from_str.ensures.ok)
