use Rattle.std.proofs.Common.{◌∙◌, ◌++◌, []}
use Rattle.std.specs.List.{flat_map}
use Rattle.semantics65.specs.Numbering.{distinct_keys}
use Rattle.emit65.specs.Internal.Drafts.{assert_keys, draft_keys, export_keys}
use Rattle.emit65.proofs.Keys.{once_append}
use Rattle.emit65.proofs.numbering.ordering.files_in_order.Goals as goal

pub returns : goal.returns
returns c =
    let p = c.args.by_section.now in
    let a = flat_map draft_keys p.drafts.items in
    let b = flat_map export_keys p.declarations in
    let t = flat_map assert_keys p.declarations in
    let drafts = c.in_ok-add_draft_files.ensures.named ∙ (λ n. distinct_keys (c.new.ensures.empty n) (flat_map draft_keys (c.as_slice.ensures.value n))) in
    let exports = c.in_ok-add_export_files.ensures.named ∙ (λ n. distinct_keys (drafts n) (flat_map export_keys (c.as_slice-2.ensures n))) ∙ once_append a [] b in
    c.in_ok-add_assert_files.ensures.named ∙ (λ n. distinct_keys (exports n) (flat_map assert_keys (c.as_slice-3.ensures n))) ∙ once_append (a ++ b) [] t
