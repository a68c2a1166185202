use Rattle.std.proofs.Common.{◌∙◌, ap, drop, ◌+◌}
use Rattle.std.specs.List.{flat_map}
use Rattle.semantics65.specs.Numbering.{distinct_keys}
use Rattle.emit65.specs.Internal.Drafts.{draft_keys, value_keys}
use Rattle.emit65.proofs.Keys.{once_step}
use Rattle.emit65.proofs.numbering.ordering.add_draft_files.Goals as goal

pub loop-draft-preserved : goal.loop-draft-preserved
loop-draft-preserved c =
    let named = c.in_ok-add_value_files.ensures.named ∙ ap (λ es. distinct_keys c.loop-draft.order.files.keys (flat_map value_keys es)) c.as_slice.ensures in
    record {
      last = c.in_ok-add_value_files.ensures.last;
      named =
          ap (λ k. distinct_keys k (flat_map draft_keys (drop (c.loop-draft.draft-index + 1) c.args.drafts.now))) named
          ∙ once_step draft_keys c.args.drafts.now c.loop-draft.draft-index c.draft-item.result _ _ c.loop-draft-test.true c.draft-item.is c.loop-draft.invariant.named;
    }
