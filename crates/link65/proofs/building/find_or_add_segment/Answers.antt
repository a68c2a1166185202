use Rattle.std.proofs.lemmas.Grind.{common_steps}
use Rattle.std.proofs.Common.{◌≡◌, ◌∙◌, ◌∷◌, [], ◌++◌, List, ℕ, Option, Some, None, length, map, sym, ap, refl, arith}
use Rattle.std.proofs.lemmas.Cmp.{nat_list_eq_equiv}
use Rattle.std.proofs.lemmas.List.{length-map, map-append}
use Rattle.std.specs.Str.{bytes_eq}
use Rattle.object65.proofs.Names.{pushed_name}
use Rattle.link65.specs.CodeInvariants.{segments_from, partial_program_in, with_partial_segments, names_in, segment_index}
use Rattle.link65.proofs.SegmentLemmas.{none_among, place_last, places_of, places_stay, segment_names, with_name_new, with_name_there}
use Rattle.link65.proofs.building.find_or_add_segment.Goals as goal

pub returns-in-Some-clause-added : goal.returns-in-Some-clause-added
returns-in-Some-clause-added c =
    let old = c.args.program_builder.now in
    let n = c.args.name.now in
    let names = segment_names old.contents.items ∙ sym c.requires.names in
    record {
      partial = ap (with_partial_segments (partial_program_in old)) (sym (with_name_there n (segments_from old.contents.items) c.in-Some.index (ap (segment_index n) names ∙ sym c.in-Some.ensures.index)));
      named = c.requires;
    }

is_none : (o : Option ℕ) → ((i : ℕ) → o ≡ Some i → ⊥) → o ≡ None
is_none None never = refl
is_none (Some i) never = absurd (never i refl)

none_there : (c : goal.In_ok-insert) → segment_index c.args.name.now (names_in c.args.program_builder.now) ≡ None
none_there c = sym c.segment_index.ensures.index ∙ is_none c.segment_index.result c.in_default.not-Some

names_then : (c : goal.In_ok-insert) → map (λ n. n.items) c.insert.new.self.keys ≡ names_in c.args.program_builder.now ++ c.args.name.now ∷ []
names_then c =
    let names = names_in c.args.program_builder.now in
    let key : c.in_ok-key.key.items ≡ c.args.name.now = c.in_ok-key.ensures.items in
    let new = pushed_name (λ n. n.items) c.args.program_builder.now.names.keys c.in_ok-key.key names refl (rw key (none_among (bytes_eq c.args.name.now) names (none_there c))) in
    ap (map (λ n. n.items)) c.in_ok-insert.ensures.keys ∙ new ∙ ap (λ (x : List ℕ). names ++ x ∷ []) key

pub returns-clause-added : goal.returns-clause-added
returns-clause-added c =
    let old = c.args.program_builder.now in
    let n = c.args.name.now in
    let cs = old.contents.items in
    let same = segment_names cs ∙ sym c.requires.names in
    record {
      partial = ap (with_partial_segments (partial_program_in old)) (rw (c.in_ok-push.ensures.items, map-append, c.in_ok-copy_of.ensures, c.new.ensures) (sym (with_name_new n (segments_from cs) (ap (segment_index n) same ∙ none_there c))));
      named = record {
        names = names_then c ∙ ap (λ ns. ns ++ n ∷ []) c.requires.names ∙ rw (c.in_ok-push.ensures.items, map-append, c.in_ok-copy_of.ensures) refl;
        sections = ap (λ ns. places_of ns old.sections.items) (names_then c) ∙ places_stay (names_in old) (n ∷ []) old.sections.items old.segment_indices.items c.requires.sections;
      };
    }

pub returns-clause-index : goal.returns-clause-index
returns-clause-index c =
    let old = c.args.program_builder.now in
    let n = c.args.name.now in
    let count : length (names_in old) ≡ c.len-index.result = ap length c.requires.names ∙ length-map old.contents.items (λ x. x.name) ∙ sym old.contents.ok.0 ∙ sym c.len-index.ensures in
    ap (segment_index n) (names_then c) ∙ place_last (bytes_eq n) (names_in old) n (none_there c) ((nat_list_eq_equiv).refl n) ∙ ap Some count

pub returns-in-Some-clause-within : goal.returns-in-Some-clause-within
returns-in-Some-clause-within c = grind (arith, common_steps)
