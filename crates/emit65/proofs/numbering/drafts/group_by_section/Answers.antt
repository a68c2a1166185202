use Rattle.std.proofs.Common.{◌≡◌, ◌∙◌, [], ◌++◌, append_assoc, ap, arith, map, rules, sym}
use Rattle.std.specs.List.{flat_map}
use Rattle.std.specs.Vec.Iter.{into_iter_items}
use Rattle.std.proofs.lemmas.Grind.{common_steps}
use Rattle.emit65.specs.Internal.Drafts.{draft_of, declarations_of}
use Rattle.emit65.specs.declared.numbering.drafts.SectionDraft.{SectionDraft}
use Rattle.emit65.proofs.SectionDrafts.{all_after, following, none_after, one_after, segments_begin, segments_stay}
use Rattle.emit65.proofs.numbering.drafts.group_by_section.Goals as goal

pub loop-entry-init : goal.loop-entry-init
loop-entry-init c =
    let s = c.args.sections.now.keys in
    let es = c.args.entries.items in
    let first : into_iter_items c.into_iter-entry-iterator.result ≡ es = search rules in
    let begun = c.in_ok-new_drafts.ensures ∙ ap (map (draft_of [])) c.as_slice.ensures.keys in
    record {
      keys = ap (map (λ (d : SectionDraft). d.segment)) begun ∙ segments_begin s;
      drafts = (λ n. map (following (first n)) (begun n)) ∙ all_after es s;
      declarations = (λ n. c.new.ensures n ++ flat_map declarations_of (first n));
    }

pub loop-entry-preserved : goal.loop-entry-preserved
loop-entry-preserved c =
    let ds = c.loop-entry.by_section.drafts.items in
    let ts = c.loop-entry.by_section.declarations in
    let e = c.in-Some.entry in
    let rest = into_iter_items c.next.new.self in
    let step = c.in_ok-add_entry.ensures in
    record {
      keys = ap (map (λ (d : SectionDraft). d.segment)) step.drafts ∙ segments_stay e ds ∙ c.loop-entry.invariant.keys;
      drafts =
          ap (map (following rest)) step.drafts ∙ one_after e rest ds
          ∙ sym (ap (λ es. map (following es) ds) c.in-Some.ensures.steps.0)
          ∙ c.loop-entry.invariant.drafts;
      declarations =
          ap (λ made. made ++ flat_map declarations_of rest) step.declarations ∙ append_assoc ts (declarations_of e) (flat_map declarations_of rest)
          ∙ sym (ap (λ es. ts ++ flat_map declarations_of es) c.in-Some.ensures.steps.0)
          ∙ c.loop-entry.invariant.declarations;
    }

pub returns-clause-drafts : goal.returns-clause-drafts
returns-clause-drafts c =
    let ds = c.loop-entry.by_section.drafts.items in
    let none : into_iter_items c.loop-entry.entry-iterator ≡ [] = grind (arith, common_steps) in
    none_after ds ∙ sym (ap (λ es. map (following es) ds) none) ∙ c.loop-entry.invariant.drafts
