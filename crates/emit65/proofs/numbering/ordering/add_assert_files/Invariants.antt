use Rattle.std.proofs.Common.{◌≡◌, drop}
use Rattle.std.specs.List.{flat_map}
use Rattle.semantics65.specs.Numbering.{distinct_keys}
use Rattle.emit65.specs.Internal.Drafts.{HasLast, assert_keys}
use Rattle.emit65.proofs.numbering.ordering.add_assert_files.Given as goal

abbrev pub invariant-loop-located : goal.invariant-loop-located
invariant-loop-located l = record {
  last : HasLast l.order;
  named : distinct_keys l.order.files.keys (flat_map assert_keys (drop l.located-index l.declarations)) ≡ distinct_keys l.fn.order.files.keys (flat_map assert_keys l.declarations);
}
