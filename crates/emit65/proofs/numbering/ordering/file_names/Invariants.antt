use Rattle.std.proofs.Common.{◌≡◌, ◌++◌, drop, map, true}
use Rattle.std.specs.Prelude.{string_bytes}
use Rattle.std.specs.List.{AllByRecursion}
use Rattle.std.specs.Str.{is_utf8}
use Rattle.semantics65.specs.Numbering.{name_of}
use Rattle.emit65.proofs.numbering.ordering.file_names.Given as goal

abbrev pub invariant-loop-index : goal.invariant-loop-index
invariant-loop-index l = record {
  names : l.names ++ map (name_of (map string_bytes l.table)) (drop l.index-index l.indices) ≡ map (name_of (map string_bytes l.table)) l.indices;
  texts : AllByRecursion (λ name. is_utf8 name ≡ true) l.names;
}
