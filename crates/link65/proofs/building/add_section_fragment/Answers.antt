use Rattle.std.proofs.Common.{◌≡◌, ◌∙◌, ◌<◌, ◌+◌, ℕ, Some, length, slice_get, sym, ap, refl, arith}
use Rattle.std.specs.Prelude.{slice_set}
use Rattle.std.specs.Str.{bytes_eq}
use Rattle.std.proofs.Math.Seq.{map-set_same}
use Rattle.std.proofs.lemmas.List.{length-map, map-set}
use Rattle.std.proofs.lemmas.Option.{slice_get_read}
use Rattle.object65.specs.Objects.{fragment_len}
use Rattle.link65.specs.declared.parts.SegmentContent.{SegmentContent}
use Rattle.link65.specs.declared.parts.SectionPosition.{SectionPosition}
use Rattle.link65.specs.CodeInvariants.{names_in, segment_index, segment_from, segments_from}
use Rattle.link65.specs.Growing.{with_added_size, with_cells}
use Rattle.link65.specs.Programs.{fragment_cells}
use Rattle.link65.proofs.SegmentLemmas.{longer_stays, part_added, place_within, places_of, same_item, same_length, section_there}
use Rattle.link65.proofs.building.add_section_fragment.Goals as goal

pub index_mut-requires : goal.index_mut-requires
index_mut-requires c =
    let g = c.args.program_builder.now in
    let secs = g.sections.items in
    let k = c.args.k in
    let at = c.index-at.result.now in
    let within : k < length secs = omega (arith, c.if-k-len.false, c.len.ensures, g.sections.ok.0) in
    let counts = same_length (λ (s : SectionPosition). segment_index s.segment (names_in g)) (λ (i : ℕ). Some i) secs g.segment_indices.items c.requires.sections in
    let inside : k < length g.segment_indices.items = omega (arith, within, counts) in
    let s = section_there (names_in g) secs g.segment_indices.items k at c.requires.sections within (slice_get_read g.segment_indices.items (length g.segment_indices.items) k at refl inside c.index-at.ensures) in
    let among : at < length (names_in g) = place_within (bytes_eq s.0.segment) (names_in g) at s.2 in
    let count : length (names_in g) ≡ length g.contents.items = ap length c.requires.names ∙ length-map g.contents.items (λ x. x.name) in
    omega (arith, among, count, g.contents.ok.0)

pub returns : goal.returns
returns c =
    let g = c.args.program_builder.now in
    let secs = g.sections.items in
    let cs = g.contents.items in
    let k = c.args.k in
    let f = c.args.fragment in
    let at = c.index-at.result.now in
    let within : k < length secs = omega (arith, c.if-k-len.false, c.len.ensures, g.sections.ok.0) in
    let counts = same_length (λ (s : SectionPosition). segment_index s.segment (names_in g)) (λ (i : ℕ). Some i) secs g.segment_indices.items c.requires.sections in
    let inside : k < length g.segment_indices.items = omega (arith, within, counts) in
    let s = section_there (names_in g) secs g.segment_indices.items k at c.requires.sections within (slice_get_read g.segment_indices.items (length g.segment_indices.items) k at refl inside c.index-at.ensures) in
    let among : at < length (names_in g) = place_within (bytes_eq s.0.segment) (names_in g) at s.2 in
    let count : length (names_in g) ≡ length cs = ap length c.requires.names ∙ length-map cs (λ x. x.name) in
    let held : at < length cs = omega (arith, among, count) in
    let was : c.index_mut-section.result.now ≡ s.0 = same_item secs k c.index_mut-section.result.now s.0 within c.index_mut-section.ensures.value s.1 in
    let idx = c.index_mut-section.result.now in
    let lengthened =
    ap (λ (n : ℕ). slice_set secs k (record { segment = idx.segment; offset = idx.offset; size = n })) (c.in_ok-section.ensures ∙ ap (λ l. idx.size + l) c.fragment_size-len.ensures)
    ∙ ap (λ (p : SectionPosition). slice_set secs k (with_added_size p (fragment_len f))) was in
    let added = λ (x : SegmentContent) (there : slice_get cs at ≡ Some x). (let same = same_item cs at c.index_mut.result.now x held c.index_mut.ensures.value there in
    map-set segment_from cs at c.add_fragment.new.content ∙ ap (slice_set (segments_from cs) at) (c.in_ok-add_fragment.ensures.grown ∙ ap (λ (y : SegmentContent). with_cells (fragment_len f) (fragment_cells c.len-owner.result f) (segment_from y)) same)) in
    record {
      partial = part_added g k at f s.0 _ _ c.requires.names s.1 s.2 (rw c.len-owner.ensures at added) lengthened;
      named = record {
        names = c.requires.names ∙ sym (map-set_same (λ x. x.name) cs at c.add_fragment.new.content c.index_mut.result.now (c.in_ok-add_fragment.ensures.name ∙ ap (λ (x : SegmentContent). x.name) c.index_mut.ensures.value));
        sections = ap (places_of (names_in g)) lengthened ∙ longer_stays (names_in g) secs k s.0 _ s.1 ∙ c.requires.sections;
      };
    }
