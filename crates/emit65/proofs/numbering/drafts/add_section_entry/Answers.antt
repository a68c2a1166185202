use Rattle.std.proofs.Common.{◌∙◌, sym, ap, nat_eq}
use Rattle.std.specs.List.{list_any}
use Rattle.emit65.specs.declared.numbering.drafts.SectionDraft.{SectionDraft}
use Rattle.emit65.proofs.SectionDrafts.{none_stands, nothing_put, one_changed, pushed, put_there}
use Rattle.emit65.proofs.numbering.drafts.add_section_entry.Goals as goal

pub returns-in_ok-push : goal.returns-in_ok-push
returns-in_ok-push c =
    let d : SectionDraft = c.index_mut-draft.result.now in
    one_changed (λ (d : SectionDraft). d.segment) c.in-Some.segment (pushed c.args.entry) c.args.sections.now.keys c.args.drafts.now.items c.in-Some-get_index_of.index d (record d { entries = c.push.new.self })
    c.requires.keys c.requires.distinct c.in-Some-get_index_of.ensures.index c.index_mut-draft.ensures.value
    (ap (λ es. record d { entries = es }) (c.in_ok-push.ensures.ok))
    ∙ put_there c.args.entry c.in-Some.segment c.args.drafts.now.items (sym c.segment_of.ensures ∙ c.in-Some.is)

pub returns-in_default-get_index_of : goal.returns-in_default-get_index_of
returns-in_default-get_index_of c =
    sym (none_stands (λ (d : SectionDraft). d.segment) c.in-Some.segment (pushed c.args.entry) c.args.drafts.now.items
    (ap (list_any (nat_eq c.in-Some.segment)) c.requires.keys ∙ sym c.in_default-get_index_of.ensures.found))
    ∙ put_there c.args.entry c.in-Some.segment c.args.drafts.now.items (sym c.segment_of.ensures ∙ c.in-Some.is)

pub returns-in_default : goal.returns-in_default
returns-in_default c = nothing_put c.args.entry c.args.drafts.now.items (sym c.segment_of.ensures ∙ c.in_default.is)
