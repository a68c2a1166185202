use Rattle.std.proofs.Common.{◌≡◌, ◌++◌, map, drop}
use Rattle.semantics65.specs.Numbering.{name_of}
use Rattle.emit65.specs.SectionContents.{names_of}
use Rattle.emit65.proofs.numbering.import_names.Given as goal

abbrev pub invariant-loop-key : goal.invariant-loop-key
invariant-loop-key l = l.found ++ map (name_of (names_of l.imports)) (drop l.key-index l.keys) ≡ map (name_of (names_of l.imports)) l.keys
