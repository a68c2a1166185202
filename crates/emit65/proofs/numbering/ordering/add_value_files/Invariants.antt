use Rattle.std.proofs.Common.{◌≡◌, drop}
use Rattle.std.specs.List.{flat_map}
use Rattle.semantics65.specs.Numbering.{distinct_keys}
use Rattle.emit65.specs.Internal.Drafts.{HasLast, value_keys}
use Rattle.emit65.proofs.numbering.ordering.add_value_files.Given as goal

abbrev pub invariant-loop-entry : goal.invariant-loop-entry
invariant-loop-entry l = record {
  last : HasLast l.order;
  named : distinct_keys l.order.files.keys (flat_map value_keys (drop l.entry-index l.entries)) ≡ distinct_keys l.fn.order.files.keys (flat_map value_keys l.entries);
}
