use Rattle.std.proofs.Common.{◌∙◌, List, Ok, ℕ, ap, sym, rules}
use Rattle.std.proofs.Math.Seq.{map-set_same}
use Rattle.link65.specs.declared.parts.SegmentContent.{SegmentContent}
use Rattle.link65.specs.CodeInvariants.{partial_program_in, names_in, segment_index}
use Rattle.link65.proofs.SegmentLemmas.{bare_begun, section_more}
use Rattle.link65.proofs.building.begin_section.Goals as goal

pub returns : goal.returns
returns c =
    let mid = c.find_or_add_segment.new.program_builder in
    let at = c.in_ok-at.ensures in
    let begun = bare_begun (partial_program_in c.args.program_builder.now) mid c.in_ok-at.at _ c.in_ok-begin.begin c.index_mut.result.now c.open_section.new.content c.args.name c.args.align (rw c.as_slice.ensures at at.added.partial) at.added.named.names (rw c.as_slice.ensures at at.index) at.within c.index_mut.ensures.value (search rules) c.in_ok-begin.ensures.grown (ap Ok (sym c.in_ok-begin.ensures.begin)) in
    let same = c.in_ok-begin.ensures.name ∙ ap (λ (x : SegmentContent). x.name) c.index_mut.ensures.value in
    let here = ap (λ (n : List ℕ). segment_index n (names_in mid)) (sym c.as_slice.ensures) ∙ at.index in
    record {
      partial = rw c.in_ok-push.ensures.items begun;
      named = record {
        names = at.added.named.names ∙ sym (map-set_same (λ x. x.name) mid.contents.items c.in_ok-at.at c.open_section.new.content c.index_mut.result.now same);
        sections = rw (c.in_ok-push.ensures.items, c.in_ok-push-2.ensures.items) (section_more (names_in mid) mid.sections.items mid.segment_indices.items (record { segment = c.args.name; offset = c.in_ok-begin.begin; size = 0 }) c.in_ok-at.at at.added.named.sections here);
      };
    }
