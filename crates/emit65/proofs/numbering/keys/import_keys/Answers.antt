use Rattle.std.proofs.Common.{◌∙◌, [], ap, drop, map, sym, ◌+◌}
use Rattle.std.specs.List.{flat_map}
use Rattle.semantics65.specs.Numbering.{distinct_keys, content_imports}
use Rattle.emit65.specs.SectionContents.{content_of, names_of}
use Rattle.emit65.proofs.Keys.{drop_item, once_append}
use Rattle.emit65.proofs.numbering.keys.import_keys.Goals as goal

pub loop-entry-preserved : goal.loop-entry-preserved
loop-entry-preserved c =
    let f = content_imports (names_of c.args.imports.now) in
    let rest = flat_map f (map (content_of []) (drop (c.loop-entry.entry-index + 1) c.args.entries.now)) in
    ap (λ k. distinct_keys k rest) c.in_ok-add_entry.ensures
    ∙ once_append (f (content_of [] c.entry-item.result)) c.loop-entry.keys.keys rest
    ∙ sym (ap (λ es. distinct_keys c.loop-entry.keys.keys (flat_map f (map (content_of []) es))) (drop_item c.args.entries.now c.loop-entry.entry-index c.entry-item.result c.loop-entry-test.true c.entry-item.is))
    ∙ c.loop-entry.invariant
