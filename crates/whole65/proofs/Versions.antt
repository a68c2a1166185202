-- Version 1 of the object of statements is the object that results from origins with lines only.
use Rattle.std.proofs.lemmas.Grind.{common_steps}
use Rattle.std.proofs.Common.{arith, ◌≡◌, ℕ, ◌+◌, not, List, [], ◌∷◌, ◌++◌, map, filter, refl, ◌∙◌, ap}
use Rattle.std.specs.Prelude.{filter_map}
use Rattle.object65.specs.Versions.{version_one_assert, version_one_export, version_one_fragment, version_one_object, line_origin, version_one_section}
use Rattle.object65.specs.declared.object.Fragment.{Fragment}
use Rattle.object65.specs.declared.object.Fragment.TheVariants.{Literal, Fill}
use Rattle.object65.specs.declared.object.Object.{Object}
use Rattle.object65.specs.declared.object.Origin.{Origin}
use Rattle.syntax65.specs.declared.source_location.SourceLocation.{SourceLocation}
use Rattle.semantics65.specs.Contents.{Content, Part, Declaration, ExportedSymbol, ForcedImport, LinkAssertion}
use Rattle.semantics65.specs.declared.contents.Segment.{Segment}
use Rattle.semantics65.specs.Numbering.{merged_neighbours, all_declarations, assert_of, export_of, fragment_of, fragments_of, import_keys, is_empty, merged_fragments, renumbered_form, object_by, section_keys, section_of}

-- ---- Fragments.

joined_in_one : (f : Fragment) (fs : List Fragment) → map version_one_fragment (merged_fragments f fs) ≡ merged_fragments (version_one_fragment f) (map version_one_fragment fs)
joined_in_one f [] = refl
joined_in_one (Literal a) (Literal b ∷ fs) = joined_in_one (Literal (a ++ b)) fs
joined_in_one (Fill m) (Fill n ∷ fs) = joined_in_one (Fill (m + n)) fs
joined_in_one f (g ∷ fs) = ap (λ z. version_one_fragment f ∷ z) (joined_in_one g fs)

all_joined_in_one : (fs : List Fragment) → map version_one_fragment (merged_neighbours fs) ≡ merged_neighbours (map version_one_fragment fs)
all_joined_in_one x = grind (arith, common_steps, joined_in_one)

empty_in_one : (f : Fragment) → is_empty (version_one_fragment f) ≡ is_empty f
empty_in_one x = grind (arith, common_steps)

kept_in_one : (fs : List Fragment) → map version_one_fragment (filter (λ f. not (is_empty f)) fs) ≡ filter (λ f. not (is_empty f)) (map version_one_fragment fs)
kept_in_one [] = refl
kept_in_one (f ∷ fs) = grind (arith, common_steps, (kept_in_one fs), empty_in_one)

module _ (origins : SourceLocation → Origin) (sections imports : List ℕ) where
  -- origins without files
  abbrev lines : SourceLocation → Origin
  lines place = line_origin (origins place)

  part_by_line : (p : Part) → version_one_fragment (fragment_of origins sections imports p) ≡ fragment_of lines sections imports p
  part_by_line x = grind (arith, common_steps)

  parts_by_line : (ps : List Part) → map version_one_fragment (map (fragment_of origins sections imports) ps) ≡ map (fragment_of lines sections imports) ps
  parts_by_line [] = refl
  parts_by_line (p ∷ ps) = grind (arith, common_steps, (parts_by_line ps), part_by_line)

  fragments_by_line : (ps : List Part) → map version_one_fragment (merged_neighbours (fragments_of origins sections imports ps)) ≡ merged_neighbours (fragments_of lines sections imports ps)
  fragments_by_line ps = grind (arith, common_steps, all_joined_in_one, kept_in_one, parts_by_line)

  sections_by_line : (gs : List Segment) (cs : List Content) (ks : List ℕ) → map version_one_section (map (section_of origins gs sections imports cs) ks) ≡ map (section_of lines gs sections imports cs) ks
  sections_by_line gs cs [] = refl
  sections_by_line gs cs (k ∷ ks) = grind (arith, common_steps, (sections_by_line gs cs ks), fragments_by_line)

  -- ---- Exports and assertions.

  exports_by_line : (ss : List Declaration) → map version_one_export (filter_map (export_of origins sections imports) ss) ≡ filter_map (export_of lines sections imports) ss
  exports_by_line [] = refl
  exports_by_line (ExportedSymbol n place f ∷ ss) = ap (λ z. record { name = n; origin = lines place; form = renumbered_form sections imports f } ∷ z) (exports_by_line ss)
  exports_by_line (ForcedImport n ∷ ss) = exports_by_line ss
  exports_by_line (LinkAssertion act place words f ∷ ss) = exports_by_line ss

  asserts_by_line : (ss : List Declaration) → map version_one_assert (filter_map (assert_of origins sections imports) ss) ≡ filter_map (assert_of lines sections imports) ss
  asserts_by_line [] = refl
  asserts_by_line (ExportedSymbol n place f ∷ ss) = asserts_by_line ss
  asserts_by_line (ForcedImport n ∷ ss) = asserts_by_line ss
  asserts_by_line (LinkAssertion act place words f ∷ ss) = ap (λ z. record { action = act; origin = lines place; text = words; form = renumbered_form sections imports f } ∷ z) (asserts_by_line ss)

-- ---- Objects.

-- version 1 of an object is the object of version 1 of the same contents, with origins that have only lines
pub by_lines : (version : ℕ) (files : List (List ℕ)) (origins : SourceLocation → Origin) (gs : List Segment) (names : List (List ℕ)) (cs : List Content) → version_one_object (object_by version files origins gs names cs) ≡ object_by 1 [] (λ place. line_origin (origins place)) gs names cs
by_lines version files origins gs names cs =
    let sections : List ℕ = section_keys cs in
    let imports : List ℕ = import_keys names cs in
    let o : Object = object_by 1 [] (λ place. line_origin (origins place)) gs names cs in
    ap (λ z. record o { sections = z; exports = map version_one_export (filter_map (export_of origins sections imports) (all_declarations cs)); asserts = map version_one_assert (filter_map (assert_of origins sections imports) (all_declarations cs)) }) (sections_by_line origins sections imports gs cs sections)
    ∙ ap (λ z. record o { exports = z; asserts = map version_one_assert (filter_map (assert_of origins sections imports) (all_declarations cs)) }) (exports_by_line origins sections imports (all_declarations cs))
    ∙ ap (λ z. record o { asserts = z }) (asserts_by_line origins sections imports (all_declarations cs))
