use Rattle.std.proofs.Common.{◌≡◌, [], drop, map}
use Rattle.std.specs.List.{flat_map}
use Rattle.semantics65.specs.Numbering.{distinct_keys, content_imports, import_keys}
use Rattle.emit65.specs.SectionContents.{content_of, names_of}
use Rattle.emit65.proofs.numbering.keys.import_keys.Given as goal

abbrev pub invariant-loop-entry : goal.invariant-loop-entry
invariant-loop-entry l = distinct_keys l.keys.keys (flat_map (content_imports (names_of l.imports)) (map (content_of []) (drop l.entry-index l.entries))) ≡ import_keys (names_of l.imports) (map (content_of []) l.entries)
