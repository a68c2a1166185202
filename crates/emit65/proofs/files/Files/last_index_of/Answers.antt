use Rattle.std.proofs.Common.{◌∙◌, Some, option_map, string_bytes, sym, ap}
use Rattle.std.proofs.lemmas.Option.{slice_get-map}
use Rattle.ast65.proofs.Lists.{same_bytes}
use Rattle.emit65.proofs.files.Files.last_index_of.Goals as goal

pub returns-then-eq : goal.returns-then-eq
returns-then-eq c =
    let there = slice_get-map string_bytes c.args.self.now.table.keys c.in_ok-index.index ∙ ap (option_map string_bytes) (sym c.in_ok-file.ensures.key) in
    there ∙ ap Some (sym c.as_str.ensures.value ∙ same_bytes _ _ (sym c.eq.ensures ∙ c.if-eq.true))
