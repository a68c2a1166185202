use Rattle.std.proofs.Common.{◌≡◌, drop}
use Rattle.std.specs.List.{flat_map}
use Rattle.semantics65.specs.Numbering.{distinct_keys}
use Rattle.emit65.specs.Internal.Drafts.{HasLast, draft_keys}
use Rattle.emit65.proofs.numbering.ordering.add_draft_files.Given as goal

abbrev pub invariant-loop-draft : goal.invariant-loop-draft
invariant-loop-draft l = record {
  last : HasLast l.order;
  named : distinct_keys l.order.files.keys (flat_map draft_keys (drop l.draft-index l.drafts)) ≡ distinct_keys l.fn.order.files.keys (flat_map draft_keys l.drafts);
}
