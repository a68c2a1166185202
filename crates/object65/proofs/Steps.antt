-- One further record, and the properties of the state after it.
use Rattle.std.proofs.lemmas.Grind.{common_steps}
use Rattle.std.proofs.Common.{◌≡◌, ◌∙◌, ℕ, ◌<◌, ◌++◌, List, [], ◌∷◌, length, map, Bool, true, false, ◌&&◌, ◌||◌, not, nat_le, ◌==◌, if◌then◌else◌, Result, Ok, refl, sym, ap, subst, arith, append_assoc, inl, inr}
use Rattle.std.proofs.lemmas.Bool.Decides.{nat_tests}
use Rattle.std.proofs.lemmas.List.{length-map, map-append}
use Rattle.std.proofs.lemmas.List.Folds.{list_all-append}
use Rattle.std.specs.List.{flat_map, list_all, AllByRecursion}
use Rattle.std.specs.Str.{is_utf8}
use Rattle.object65.specs.declared.builder.Draft.{Draft}
use Rattle.object65.specs.declared.fault.ObjectError.{ObjectError}
use Rattle.object65.specs.declared.fault.ObjectError.TheVariants.{FailedBefore, OutOfOrder, NotCanonical, IndexOutOfRange, BadSize}
use Rattle.object65.specs.declared.object.Export.{Export}
use Rattle.object65.specs.declared.object.Assert.{Assert}
use Rattle.object65.specs.declared.record.Item.{Item}
use Rattle.object65.specs.declared.record.Item.TheVariants as item
use Rattle.object65.specs.declared.object.Fragment.{Fragment}
use Rattle.object65.specs.declared.scan.SectionFill.{SectionFill}
use Rattle.object65.specs.Bodies.{SectionHeader, section_of, end_of, export_of, assert_of}
use Rattle.object65.specs.Folding.{has_valid_indices, is_normal, node_limit}
use Rattle.object65.specs.Form.{Form, nodes}
use Rattle.object65.specs.Objects.{are_distinct, are_files_of, has_file, has_file_by, has_well_formed_origin, is_file_name, is_well_formed_origin, is_name, is_among, are_names, is_well_formed_form}
use Rattle.object65.specs.Record.{RawRecord, is_record_kind, is_version}
use Rattle.object65.specs.Small.{is_small_text}
use Rattle.object65.specs.Spelling.{file_record, import_record, export_record, assert_record, end_record}
use Rattle.object65.specs.Items.{State, empty_draft, draft_with_fragment, is_none, start, with_item, drafts_with_fragment}
use Rattle.object65.specs.Scanning
use Rattle.object65.specs.Scanning.{state_after_record, state_after_records}
use Rattle.object65.proofs.Drafts.{turned, nil, all_push, all_full, none_open, opened}
use Rattle.object65.proofs.Fields.{export_by, export_reads, assert_by, assert_reads}
use Rattle.object65.proofs.SmallParts.{left, right, and}
use Rattle.object65.proofs.ReachedStates.{Reached, GoodState, GoodDraft, IsEmptyDraft, FitExport, FitAssert, Grows, is_open_form, heading_entry, content_entries, distinct_push, end_entries, entries_so_far, fill_placed, has_good_values, literal_placed, rows, value_placed, values_with_piece, either, none_is, none_of, empties_none, empties_fill, empties_good, empties_fit, names_push, heading_read, heading_spelled, parts_known, literal_grows, fill_grows, value_grows, open_form, goes_in}
use Rattle.object65.proofs.RecordSequences.{bound, passes, IsReadEntry}
use Rattle.object65.proofs.Scannings.{wanted}

-- the effect of an accepted record
pub record Step (s t : State) (e : RawRecord) : Type 0 where
  pub well_formed : GoodState t
  pub reached : (es : List RawRecord) → Reached s es → IsReadEntry e → Reached t (es ++ e ∷ [])

-- ---- A further record of the same kind.

none_2 : (a : List RawRecord) → (a ++ []) ++ [] ≡ a
none_2 a = nil (a ++ []) ∙ nil a

none_3 : (a : List RawRecord) → ((a ++ []) ++ []) ++ [] ≡ a
none_3 a = nil ((a ++ []) ++ []) ∙ none_2 a

row_1 : (a e : List RawRecord) → rows a [] [] [] [] [] ++ e ≡ rows (a ++ e) [] [] [] [] []
row_1 a e = ap (λ xs. xs ++ e) (none_2 (((a ++ []) ++ []) ++ []) ∙ none_3 a) ∙ sym (none_2 ((((a ++ e) ++ []) ++ []) ++ []) ∙ none_3 (a ++ e))

row_2 : (a b e : List RawRecord) → rows a b [] [] [] [] ++ e ≡ rows a (b ++ e) [] [] [] []
row_2 a b e = ap (λ xs. xs ++ e) (none_2 (((a ++ b) ++ []) ++ []) ∙ none_2 (a ++ b)) ∙ append_assoc a b e ∙ sym (none_2 (((a ++ (b ++ e)) ++ []) ++ []) ∙ none_2 (a ++ (b ++ e)))

row_3 : (a b c e : List RawRecord) → rows a b c [] [] [] ++ e ≡ rows a b (c ++ e) [] [] []
row_3 a b c e = ap (λ xs. xs ++ e) (none_3 ((a ++ b) ++ c)) ∙ append_assoc (a ++ b) c e ∙ sym (none_3 ((a ++ b) ++ (c ++ e)))

row_4 : (a b c d e : List RawRecord) → rows a b c d [] [] ++ e ≡ rows a b c (d ++ e) [] []
row_4 a b c d e = ap (λ xs. xs ++ e) (none_2 (((a ++ b) ++ c) ++ d)) ∙ append_assoc ((a ++ b) ++ c) d e ∙ sym (none_2 (((a ++ b) ++ c) ++ (d ++ e)))

row_5 : (a b c d f e : List RawRecord) → rows a b c d f [] ++ e ≡ rows a b c d (f ++ e) []
row_5 a b c d f e = ap (λ xs. xs ++ e) (nil ((((a ++ b) ++ c) ++ d) ++ f)) ∙ append_assoc (((a ++ b) ++ c) ++ d) f e ∙ sym (nil ((((a ++ b) ++ c) ++ d) ++ (f ++ e)))

row_6 : (a b c d f e : List RawRecord) → rows a b c d f [] ++ e ≡ rows a b c d f e
row_6 a b c d f e = ap (λ xs. xs ++ e) (nil ((((a ++ b) ++ c) ++ d) ++ f))

-- the indices in a form are valid for the number of sections
known_in : (s : State) (f : Form) (u : Unit {0}) → Scanning.check_form_indices (length (map Scanning.section_fill s.drafts)) (length s.imports) f ≡ Ok u → Scanning.check_form_indices (length s.drafts) (length s.imports) f ≡ Ok u
known_in s f u h = ap (λ n. Scanning.check_form_indices n (length s.imports) f) (sym (length-map s.drafts Scanning.section_fill)) ∙ h

-- one further record after the FILE records
following : (files rows now es : List RawRecord) (e : RawRecord) → es ≡ files ++ rows → rows ++ e ∷ [] ≡ now → es ++ e ∷ [] ≡ files ++ now
following files rows now es e was more = ap (λ xs. xs ++ e ∷ []) was ∙ append_assoc files rows (e ∷ []) ∙ ap (λ xs. files ++ xs) more

-- ---- A FILE record.

-- the item of the result
item_is : (o : Scanning.Outline) (i : Item) (x : Scanning.Outline × Item) → ◌≡◌ {A = Result (Scanning.Outline × Item) ObjectError} (Ok (o, i)) (Ok x) → i ≡ x.1
item_is o i x h = cc

clash : {A : Type 0} (b : Bool) → b ≡ true → b ≡ false → A
clash true p q = cc
clash false p q = cc

-- there is no assertion yet
none_asserted : (s : State) → not (not (is_none s.asserts)) ≡ true → s.asserts ≡ []
none_asserted s h = grind (arith, common_steps)

file_step : (s : State) (e : RawRecord) (x : Scanning.Outline × Item) → e.kind ≡ 9 → is_record_kind s.version 9 ≡ true → GoodState s → s.ended ≡ false → Scanning.scan_file (Scanning.outline_of s) e.body ≡ Ok x → Step s (with_item s x.1) e
unfolding Scanning.scan_file
file_step s e x kind known r running h =
    let o = Scanning.outline_of s in
    let u = bound (Scanning.ok_if (is_none o.imports && is_none o.fills && is_none o.exports && not o.has_assert) OutOfOrder) _ _ h in
    let stands = wanted (is_none o.imports && is_none o.fills && is_none o.exports && not o.has_assert) OutOfOrder u.0 u.1 in
    let three = left (is_none o.imports && is_none o.fills && is_none o.exports) (not o.has_assert) stands in
    let two = left (is_none o.imports && is_none o.fills) (is_none o.exports) three in
    let no_imports = none_is s.imports (left (is_none o.imports) (is_none o.fills) two) in
    let no_drafts = none_of Scanning.section_fill s.drafts (right (is_none o.imports) (is_none o.fills) two) in
    let no_exports = none_of (λ (y : Export). y.name) s.exports (right (is_none o.imports && is_none o.fills) (is_none o.exports) three) in
    let no_asserts = none_asserted s (right (is_none o.imports && is_none o.fills && is_none o.exports) (not o.has_assert) stands) in
    let t = bound (Scanning.ok_if (is_file_name e.body) BadSize) _ _ u.2 in
    let short = wanted (is_file_name e.body) BadSize t.0 t.1 in
    let v = bound (Scanning.check_new_file s.files e.body) _ _ t.2 in
    let named = wanted (is_utf8 e.body && not (is_among s.files e.body)) NotCanonical v.0 v.1 in
    let files = s.files ++ e.body ∷ [] in
    let item = item_is _ (item.File e.body) x v.2 in
    let e_is : e ≡ file_record e.body = (λ k. record { kind = kind k; body = e.body }) in
    let old = map file_record s.files in
    let none : entries_so_far s ≡ [] = (λ k. rows (map import_record (no_imports k)) (map heading_entry (no_drafts k)) (flat_map content_entries (no_drafts k)) (map export_record (no_exports k)) (map assert_record (no_asserts k)) (end_entries (running k))) in
    subst (λ (i : Item). Step s (with_item s i) e) item (record {
      well_formed = record {
        version = r.version;
        files = files_push s.version s.files e.body known r.files short (turned (is_among s.files e.body) (right (is_utf8 e.body) (not (is_among s.files e.body)) named));
        values = ap (λ (ds : List Draft). list_all (has_good_values s.version (length files)) ds) no_drafts;
        export_origins = ap (λ (xs : List Export). list_all (λ x. is_well_formed_origin s.version (length files) x.origin) xs) no_exports;
        assert_origins = ap (λ (xs : List Assert). list_all (λ x. is_well_formed_origin s.version (length files) x.origin) xs) no_asserts;
        imports = r.imports;
        names = r.names;
        export_names = r.export_names;
        drafts = r.drafts;
        search_start = r.search_start;
        has_fragment = r.has_fragment;
        exported = r.exported;
        asserted = r.asserted;
        full = r.full;
        exports = r.exports;
        asserts = r.asserts;
        failed = r.failed;
      };
      reached = λ es was read. record {
        entries =
            ap (λ xs. xs ++ e ∷ []) (was.entries ∙ ap (λ xs. old ++ xs) none ∙ nil old)
            ∙ ap (λ y. old ++ y ∷ []) e_is
            ∙ sym (map-append file_record s.files (e.body ∷ []))
            ∙ sym (nil (map file_record files))
            ∙ ap (λ xs. map file_record files ++ xs) (sym none);
        files = all_push (λ name. is_utf8 name ≡ true) s.files e.body was.files (left (is_utf8 e.body) (not (is_among s.files e.body)) named);
        drafts = was.drafts;
        exports = was.exports;
        asserts = was.asserts;
        texts = was.texts;
      };
    })
  where
    files_push : (v : ℕ) (files : List (List ℕ)) (name : List ℕ) → is_record_kind v 9 ≡ true → are_files_of v files ≡ true → is_file_name name ≡ true → is_among files name ≡ false → are_files_of v (files ++ name ∷ []) ≡ true
    files_push v files name known good short new = go (v == 1) known good where
      go : (b : Bool) → (not b && true) ≡ true → (if b then length files == 0 else are_distinct is_file_name files) ≡ true → (if b then length (files ++ name ∷ []) == 0 else are_distinct is_file_name (files ++ name ∷ [])) ≡ true
      go true known good = cc
      go false known good = distinct_push is_file_name files name good short new

-- ---- An IMPORT record.

import_step : (s : State) (e : RawRecord) (x : Scanning.Outline × Item) → e.kind ≡ 1 → GoodState s → s.ended ≡ false → Scanning.scan_import (Scanning.outline_of s) e.body ≡ Ok x → Step s (with_item s x.1) e
unfolding Scanning.scan_import
import_step s e x kind r running h =
    let o = Scanning.outline_of s in
    let u = bound (Scanning.ok_if (is_none o.fills && is_none o.exports && not o.has_assert) OutOfOrder) _ _ h in
    let stands = wanted (is_none o.fills && is_none o.exports && not o.has_assert) OutOfOrder u.0 u.1 in
    let two = left (is_none o.fills && is_none o.exports) (not o.has_assert) stands in
    let no_drafts = none_of Scanning.section_fill s.drafts (left (is_none o.fills) (is_none o.exports) two) in
    let no_exports = none_of (λ (y : Export). y.name) s.exports (right (is_none o.fills) (is_none o.exports) two) in
    let no_asserts = none_asserted s (right (is_none o.fills && is_none o.exports) (not o.has_assert) stands) in
    let v = bound (Scanning.check_new_name s.imports e.body) _ _ u.2 in
    let named = wanted (is_name e.body && not (is_among s.imports e.body)) NotCanonical v.0 v.1 in
    let names = s.imports ++ e.body ∷ [] in
    let item = item_is _ (item.Import e.body) x v.2 in
    let e_is : e ≡ import_record e.body = (λ k. record { kind = kind k; body = e.body }) in
    subst (λ (i : Item). Step s (with_item s i) e) item (record {
      well_formed = record {
        version = r.version;
        files = r.files;
        values = r.values;
        export_origins = r.export_origins;
        assert_origins = r.assert_origins;
        imports = names_push s.imports e.body r.imports (left (is_name e.body) (not (is_among s.imports e.body)) named) (turned (is_among s.imports e.body) (right (is_name e.body) (not (is_among s.imports e.body)) named));
        names = r.names;
        export_names = r.export_names;
        drafts = subst (λ (ds : List Draft). AllByRecursion (GoodDraft (length s.drafts) (length names)) ds) (sym no_drafts) tt;
        search_start = r.search_start;
        has_fragment = r.has_fragment;
        exported = r.exported;
        asserted = r.asserted;
        full = r.full;
        exports = ap (λ (xs : List Export). list_all (λ x. is_well_formed_form (length s.drafts) (length names) x.form) xs) no_exports;
        asserts = ap (λ (xs : List Assert). list_all (λ x. is_open_form (length s.drafts) (length names) x.form) xs) no_asserts;
        failed = r.failed;
      };
      reached = λ es was read. record {
        entries =
            following (map file_record s.files) (entries_so_far s) _ es e was.entries
            (ap (λ xs. xs ++ e ∷ []) (λ k. rows (map import_record s.imports) (map heading_entry (no_drafts k)) (flat_map content_entries (no_drafts k)) (map export_record (no_exports k)) (map assert_record (no_asserts k)) (end_entries (running k)))
            ∙ row_1 (map import_record s.imports) (e ∷ [])
            ∙ ap (λ x. rows (map import_record s.imports ++ x ∷ []) [] [] [] [] []) e_is
            ∙ ap (λ xs. rows xs [] [] [] [] []) (sym (map-append import_record s.imports (e.body ∷ [])))
            ∙ sym (λ k. rows (map import_record names) (map heading_entry (no_drafts k)) (flat_map content_entries (no_drafts k)) (map export_record (no_exports k)) (map assert_record (no_asserts k)) (end_entries (running k))));
        files = was.files;
        drafts = was.drafts;
        exports = was.exports;
        asserts = was.asserts;
        texts = was.texts;
      };
    })

-- ---- A SECTION record.

section_step : (s : State) (e : RawRecord) (x : Scanning.Outline × Item) → e.kind ≡ 2 → GoodState s → s.ended ≡ false → Scanning.scan_section (Scanning.outline_of s) e.body ≡ Ok x → Step s (with_item s x.1) e
unfolding Scanning.scan_section
section_step s e x kind r running h =
    let o = Scanning.outline_of s in
    let u = bound (Scanning.ok_if (not o.has_fragment && is_none o.exports && not o.has_assert) OutOfOrder) _ _ h in
    let stands = wanted (not o.has_fragment && is_none o.exports && not o.has_assert) OutOfOrder u.0 u.1 in
    let two = left (not o.has_fragment && is_none o.exports) (not o.has_assert) stands in
    let begun = turned s.has_fragment (left (not o.has_fragment) (is_none o.exports) two) in
    let no_exports = none_of (λ (y : Export). y.name) s.exports (right (not o.has_fragment) (is_none o.exports) two) in
    let no_asserts = none_asserted s (right (not o.has_fragment && is_none o.exports) (not o.has_assert) stands) in
    let g = bound (section_of e.body) _ _ u.2 in
    let d = empty_draft g.0.name g.0.size g.0.align in
    let v = bound (Scanning.check_new_name o.sections d.name) _ _ g.2 in
    let named = wanted (is_name d.name && not (is_among o.sections d.name)) NotCanonical v.0 v.1 in
    let w = bound (Scanning.ok_if (nat_le d.align 15) NotCanonical) _ _ v.2 in
    let align = wanted (nat_le d.align 15) NotCanonical w.0 w.1 in
    let reads = heading_read e.body g.0 g.1 in
    let empties = r.has_fragment begun in
    let empty : IsEmptyDraft d = record { fragments = refl; literal = refl } in
    let ds = s.drafts ++ d ∷ [] in
    let now_empties = all_push IsEmptyDraft s.drafts d empties empty in
    let n = length ds in
    let i = length s.imports in
    let item = item_is _ (item.Section d.name d.size d.align) x w.2 in
    subst (λ (j : Item). Step s (with_item s j) e) item (record {
      well_formed = record {
        version = r.version;
        files = r.files;
        values = list_all-append (has_good_values s.version (length s.files)) s.drafts (d ∷ []) ∙ and (list_all (has_good_values s.version (length s.files)) s.drafts) true r.values refl;
        export_origins = r.export_origins;
        assert_origins = r.assert_origins;
        imports = r.imports;
        names = ap are_names (map-append (λ x. x.name) s.drafts (d ∷ [])) ∙ names_push o.sections d.name r.names (left (is_name d.name) (not (is_among o.sections d.name)) named) (turned (is_among o.sections d.name) (right (is_name d.name) (not (is_among o.sections d.name)) named));
        export_names = r.export_names;
        drafts = all_push (GoodDraft n i) s.drafts d (empties_good (length s.drafts) i n i s.drafts r.drafts empties) (record {
          align = align;
          size = omega (arith, ap (λ (y : SectionHeader). y.size) reads.fresh, reads.small);
          filled = refl;
          within = omega arith;
          well_formed = refl;
          apart = refl;
          bare = λ bytes. refl;
        });
        search_start = empties_fill ds now_empties;
        has_fragment = λ b. now_empties;
        exported = λ some. clash (is_none s.exports) (ap (λ (xs : List Export). is_none xs) no_exports) some;
        asserted = λ some. clash (is_none s.asserts) (ap (λ (xs : List Assert). is_none xs) no_asserts) some;
        full = λ ended. clash s.ended ended running;
        exports = ap (λ (xs : List Export). list_all (λ x. is_well_formed_form n i x.form) xs) no_exports;
        asserts = ap (λ (xs : List Assert). list_all (λ x. is_open_form n i x.form) xs) no_asserts;
        failed = r.failed;
      };
      reached = λ es was read.
          let e_is : e ≡ heading_entry d = (λ k. record { kind = kind k; body = sym (heading_spelled e.body g.0 read.bytes reads) k }) in
          let imports = map import_record s.imports in
          record {
            entries =
                following (map file_record s.files) (entries_so_far s) _ es e was.entries
                (ap (λ xs. xs ++ e ∷ []) (λ k. rows imports (map heading_entry s.drafts) (empties_none s.drafts empties k) (map export_record (no_exports k)) (map assert_record (no_asserts k)) (end_entries (running k)))
                ∙ row_2 imports (map heading_entry s.drafts) (e ∷ [])
                ∙ ap (λ x. rows imports (map heading_entry s.drafts ++ x ∷ []) [] [] [] []) e_is
                ∙ ap (λ xs. rows imports xs [] [] [] []) (sym (map-append heading_entry s.drafts (d ∷ [])))
                ∙ sym (λ k. rows imports (map heading_entry ds) (empties_none ds now_empties k) (map export_record (no_exports k)) (map assert_record (no_asserts k)) (end_entries (running k))));
            files = was.files;
            drafts = empties_fit ds now_empties;
            exports = was.exports;
            asserts = was.asserts;
            texts = was.texts;
          };
    })

-- ---- A fragment's record.

part_step : (s : State) (e : RawRecord) (x : Scanning.Outline × Item) (grow : SectionFill → Result (SectionFill × Fragment) ObjectError) → ((d : Draft) (y : SectionFill × Fragment) → GoodDraft (length s.drafts) (length s.imports) d → grow (Scanning.section_fill d) ≡ Ok y → Grows (length s.drafts) (length s.imports) e d (draft_with_fragment d y.1)) → ((d : Draft) (y : SectionFill × Fragment) → grow (Scanning.section_fill d) ≡ Ok y → has_well_formed_origin s.version (length s.files) y.1 ≡ true) → GoodState s → s.ended ≡ false → Scanning.scan_part (Scanning.outline_of s) grow ≡ Ok x → Step s (with_item s x.1) e
unfolding Scanning.scan_part
part_step s e x grow grows placed r running h =
    let n = length s.drafts in
    let i = length s.imports in
    let section = bound (Scanning.next_fill (map Scanning.section_fill s.drafts)) _ _ h in
    let g = bound (grow section.0.1) _ _ section.2 in
    let o = opened s.drafts section.0 section.1 in
    let d = o.split.draft in
    let here : grow (Scanning.section_fill d) ≡ Ok g.0 = ap (λ (p : ℕ × SectionFill). grow p.1) o.here ∙ g.1 in
    let ds = drafts_with_fragment s.drafts section.0.0 g.0.1 in
    let now = goes_in n i e s.drafts section.0 g.0.1 o r.drafts r.search_start (λ good. grows d g.0 good here) in
    let exports_none = none_yet (is_none s.exports) (λ some. let none = sym (none_open s.drafts (r.exported some)) ∙ section.1 in cc) in
    let asserts_none = none_yet (is_none s.asserts) (λ some. let none = sym (none_open s.drafts (r.asserted some)) ∙ section.1 in cc) in
    let no_exports = none_is s.exports exports_none in
    let no_asserts = none_is s.asserts asserts_none in
    let item = item_is _ (item.Part section.0.0 section.0.1.filled g.0.1) x g.2 in
    subst (λ (j : Item). Step s (with_item s j) e) item (record {
      well_formed = record {
        version = r.version;
        files = r.files;
        values = values_with_piece s.version (length s.files) g.0.1 (placed d g.0 here) s.drafts section.0.0 r.values;
        export_origins = r.export_origins;
        assert_origins = r.assert_origins;
        imports = r.imports;
        names = ap are_names now.names ∙ r.names;
        export_names = r.export_names;
        drafts = subst (λ k. AllByRecursion (GoodDraft k i) ds) (sym now.count) now.well_formed;
        search_start = now.search_start;
        has_fragment = λ b. cc;
        exported = λ some. clash (is_none s.exports) exports_none some;
        asserted = λ some. clash (is_none s.asserts) asserts_none some;
        full = λ ended. clash s.ended ended running;
        exports = ap (λ (xs : List Export). list_all (λ x. is_well_formed_form (length ds) i x.form) xs) no_exports;
        asserts = ap (λ (xs : List Assert). list_all (λ x. is_open_form (length ds) i x.form) xs) no_asserts;
        failed = r.failed;
      };
      reached = λ es was read.
          let imports = map import_record s.imports in
          record {
            entries =
                following (map file_record s.files) (entries_so_far s) _ es e was.entries
                (ap (λ xs. xs ++ e ∷ []) (λ k. rows imports (map heading_entry s.drafts) (flat_map content_entries s.drafts) (map export_record (no_exports k)) (map assert_record (no_asserts k)) (end_entries (running k)))
                ∙ row_3 imports (map heading_entry s.drafts) (flat_map content_entries s.drafts) (e ∷ [])
                ∙ sym (λ k. rows imports (now.headings k) (now.contents read k) (map export_record (no_exports k)) (map assert_record (no_asserts k)) (end_entries (running k))));
            files = was.files;
            drafts = now.fits read was.drafts;
            exports = was.exports;
            asserts = was.asserts;
            texts = was.texts;
          };
    })
  where
    none_yet : (b : Bool) → (b ≡ false → ⊥) → b ≡ true
    none_yet true h = refl
    none_yet false h = absurd (h refl)

-- ---- An EXPORT record.

export_step : (s : State) (e : RawRecord) (x : Scanning.Outline × Item) → e.kind ≡ 6 → GoodState s → s.ended ≡ false → Scanning.scan_export (Scanning.outline_of s) e.body ≡ Ok x → Step s (with_item s x.1) e
unfolding Scanning.scan_export
export_step s e x kind r running h =
    let o = Scanning.outline_of s in
    let n = length s.drafts in
    let i = length s.imports in
    let names = o.exports in
    let u = bound (Scanning.ok_if (list_all Scanning.is_filled o.fills && not o.has_assert) OutOfOrder) _ _ h in
    let stands = wanted (list_all Scanning.is_filled o.fills && not o.has_assert) OutOfOrder u.0 u.1 in
    let full = sym (all_full s.drafts) ∙ left (list_all Scanning.is_filled o.fills) (not o.has_assert) stands in
    let no_asserts = none_asserted s (right (list_all Scanning.is_filled o.fills) (not o.has_assert) stands) in
    let a = bound (export_of s.version e.body) _ _ u.2 in
    let v = bound (Scanning.check_indices (length s.files) (length o.fills) i a.0.origin a.0.form) _ _ a.2 in
    let parts = parts_known (length s.files) (length o.fills) i a.0.origin a.0.form v.0 v.1 in
    let origin : is_well_formed_origin s.version (length s.files) a.0.origin ≡ true = and (has_file_by s.version a.0.origin.file) (has_file (length s.files) a.0.origin.file) (export_by s.version e.body a.0 a.1) parts.0 in
    let there = wanted (has_valid_indices n i a.0.form) IndexOutOfRange v.0 (known_in s a.0.form v.0 parts.1) in
    let w = bound (Scanning.check_new_name names a.0.name) _ _ v.2 in
    let named = wanted (is_name a.0.name && not (is_among names a.0.name)) NotCanonical w.0 w.1 in
    let y = bound (Scanning.check_canonical a.0.form) _ _ w.2 in
    let fine = wanted (is_normal a.0.form && nat_le (nodes a.0.form) node_limit) NotCanonical y.0 y.1 in
    let form : is_well_formed_form n i a.0.form ≡ true = and (has_valid_indices n i a.0.form && is_normal a.0.form) (nat_le (nodes a.0.form) node_limit) (and (has_valid_indices n i a.0.form) (is_normal a.0.form) there (left (is_normal a.0.form) (nat_le (nodes a.0.form) node_limit) fine)) (right (is_normal a.0.form) (nat_le (nodes a.0.form) node_limit) fine) in
    let xs = s.exports ++ a.0 ∷ [] in
    let good_one = λ (z : Export). is_well_formed_form n i z.form in
    let placed = λ (z : Export). is_well_formed_origin s.version (length s.files) z.origin in
    let item = item_is _ (item.Export a.0.name a.0.origin a.0.form) x y.2 in
    subst (λ (j : Item). Step s (with_item s j) e) item (record {
      well_formed = record {
        version = r.version;
        files = r.files;
        values = r.values;
        export_origins = list_all-append placed s.exports (a.0 ∷ []) ∙ and (list_all placed s.exports) (list_all placed (a.0 ∷ [])) r.export_origins (and (placed a.0) true origin refl);
        assert_origins = r.assert_origins;
        imports = r.imports;
        names = r.names;
        export_names = ap are_names (map-append (λ (z : Export). z.name) s.exports (a.0 ∷ [])) ∙ names_push names a.0.name r.export_names (left (is_name a.0.name) (not (is_among names a.0.name)) named) (turned (is_among names a.0.name) (right (is_name a.0.name) (not (is_among names a.0.name)) named));
        drafts = r.drafts;
        search_start = r.search_start;
        has_fragment = r.has_fragment;
        exported = λ some. full;
        asserted = r.asserted;
        full = r.full;
        exports = list_all-append good_one s.exports (a.0 ∷ []) ∙ and (list_all good_one s.exports) (list_all good_one (a.0 ∷ [])) r.exports (and (good_one a.0) true form refl);
        asserts = r.asserts;
        failed = r.failed;
      };
      reached = λ es was read.
          let is = export_reads s.version e.body a.0 read.bytes a.1 in
          let e_is : e ≡ export_record a.0 = (λ k. record { kind = kind k; body = is.0 k }) in
          let imports = map import_record s.imports in
          let b = map heading_entry s.drafts in
          let c = flat_map content_entries s.drafts in
          record {
            entries =
                following (map file_record s.files) (entries_so_far s) _ es e was.entries
                (ap (λ ys. ys ++ e ∷ []) (λ k. rows imports b c (map export_record s.exports) (map assert_record (no_asserts k)) (end_entries (running k)))
                ∙ row_4 imports b c (map export_record s.exports) (e ∷ [])
                ∙ ap (λ z. rows imports b c (map export_record s.exports ++ z ∷ []) [] []) e_is
                ∙ ap (λ ys. rows imports b c ys [] []) (sym (map-append export_record s.exports (a.0 ∷ [])))
                ∙ sym (λ k. rows imports b c (map export_record xs) (map assert_record (no_asserts k)) (end_entries (running k))));
            files = was.files;
            drafts = was.drafts;
            exports = all_push FitExport s.exports a.0 was.exports (is.1, is.2);
            asserts = was.asserts;
            texts = was.texts;
          };
    })

-- ---- An ASSERT record.

assert_step : (s : State) (e : RawRecord) (x : Scanning.Outline × Item) → e.kind ≡ 7 → GoodState s → s.ended ≡ false → Scanning.scan_assert (Scanning.outline_of s) e.body ≡ Ok x → Step s (with_item s x.1) e
unfolding Scanning.scan_assert
assert_step s e x kind r running h =
    let o = Scanning.outline_of s in
    let n = length s.drafts in
    let i = length s.imports in
    let u = bound (Scanning.ok_if (list_all Scanning.is_filled o.fills) OutOfOrder) _ _ h in
    let full = sym (all_full s.drafts) ∙ wanted (list_all Scanning.is_filled o.fills) OutOfOrder u.0 u.1 in
    let g = bound (assert_of s.version e.body) _ _ u.2 in
    let v = bound (Scanning.check_indices (length s.files) (length o.fills) i g.0.origin g.0.form) _ _ g.2 in
    let parts = parts_known (length s.files) (length o.fills) i g.0.origin g.0.form v.0 v.1 in
    let origin : is_well_formed_origin s.version (length s.files) g.0.origin ≡ true = and (has_file_by s.version g.0.origin.file) (has_file (length s.files) g.0.origin.file) (assert_by s.version e.body g.0 g.1) parts.0 in
    let w = bound (Scanning.check_canonical_open g.0.form) _ _ v.2 in
    let form = open_form n i g.0.form v.0 w.0 (known_in s g.0.form v.0 parts.1) w.1 in
    let xs = s.asserts ++ g.0 ∷ [] in
    let good_one = λ (z : Assert). is_open_form n i z.form in
    let small_one = λ (z : Assert). is_small_text z.text in
    let placed = λ (z : Assert). is_well_formed_origin s.version (length s.files) z.origin in
    let item = item_is _ (item.Assert g.0.action g.0.origin g.0.text g.0.form) x w.2 in
    subst (λ (j : Item). Step s (with_item s j) e) item (record {
      well_formed = record {
        version = r.version;
        files = r.files;
        values = r.values;
        export_origins = r.export_origins;
        assert_origins = list_all-append placed s.asserts (g.0 ∷ []) ∙ and (list_all placed s.asserts) (list_all placed (g.0 ∷ [])) r.assert_origins (and (placed g.0) true origin refl);
        imports = r.imports;
        names = r.names;
        export_names = r.export_names;
        drafts = r.drafts;
        search_start = r.search_start;
        has_fragment = r.has_fragment;
        exported = r.exported;
        asserted = λ some. full;
        full = r.full;
        exports = r.exports;
        asserts = list_all-append good_one s.asserts (g.0 ∷ []) ∙ and (list_all good_one s.asserts) (list_all good_one (g.0 ∷ [])) r.asserts (and (good_one g.0) true form refl);
        failed = r.failed;
      };
      reached = λ es was read.
          let is = assert_reads s.version e.body g.0 read.bytes g.1 in
          let e_is : e ≡ assert_record g.0 = (λ k. record { kind = kind k; body = is.spelled k }) in
          let small : is_small_text g.0.text ≡ true = short g.0.text is.text in
          let a = map import_record s.imports in
          let b = map heading_entry s.drafts in
          let c = flat_map content_entries s.drafts in
          let d = map export_record s.exports in
          record {
            entries =
                following (map file_record s.files) (entries_so_far s) _ es e was.entries
                (ap (λ ys. ys ++ e ∷ []) (λ k. rows a b c d (map assert_record s.asserts) (end_entries (running k)))
                ∙ row_5 a b c d (map assert_record s.asserts) (e ∷ [])
                ∙ ap (λ z. rows a b c d (map assert_record s.asserts ++ z ∷ []) []) e_is
                ∙ ap (λ ys. rows a b c d ys []) (sym (map-append assert_record s.asserts (g.0 ∷ [])))
                ∙ sym (λ k. rows a b c d (map assert_record xs) (end_entries (running k))));
            files = was.files;
            drafts = was.drafts;
            exports = was.exports;
            asserts = all_push FitAssert s.asserts g.0 was.asserts (is.origin, is.form);
            texts = list_all-append small_one s.asserts (g.0 ∷ []) ∙ and (list_all small_one s.asserts) (list_all small_one (g.0 ∷ [])) was.texts (and (small_one g.0) true small refl);
          };
    })
  where
    short : (text : List ℕ) → length text < 256 → is_small_text text ≡ true
    short text less = grind (arith, nat_tests)

-- ---- An END record.

end_step : (s : State) (e : RawRecord) (x : Scanning.Outline × Item) → e.kind ≡ 8 → GoodState s → s.ended ≡ false → Scanning.scan_last (Scanning.outline_of s) e.body ≡ Ok x → Step s (with_item s x.1) e
unfolding Scanning.scan_last
end_step s e x kind r running h =
    let fills = map Scanning.section_fill s.drafts in
    let u = bound (Scanning.ok_if (list_all Scanning.is_filled fills) OutOfOrder) _ _ h in
    let full = sym (all_full s.drafts) ∙ wanted (list_all Scanning.is_filled fills) OutOfOrder u.0 u.1 in
    let v = bound (end_of e.body) _ _ u.2 in
    let item = item_is _ (item.End) x v.2 in
    let e_is : e ≡ end_record = (λ k. record { kind = kind k; body = none e.body v.0 v.1 k }) in
    let a = map import_record s.imports in
    let b = map heading_entry s.drafts in
    let c = flat_map content_entries s.drafts in
    let d = map export_record s.exports in
    let f = map assert_record s.asserts in
    subst (λ (j : Item). Step s (with_item s j) e) item (record {
      well_formed = record {
        version = r.version;
        files = r.files;
        values = r.values;
        export_origins = r.export_origins;
        assert_origins = r.assert_origins;
        imports = r.imports;
        names = r.names;
        export_names = r.export_names;
        drafts = r.drafts;
        search_start = r.search_start;
        has_fragment = r.has_fragment;
        exported = r.exported;
        asserted = r.asserted;
        full = λ ended. full;
        exports = r.exports;
        asserts = r.asserts;
        failed = r.failed;
      };
      reached = λ es was read. record {
        entries =
            following (map file_record s.files) (entries_so_far s) _ es e was.entries
            (ap (λ xs. xs ++ e ∷ []) (ap (λ x. rows a b c d f (end_entries x)) running) ∙ row_6 a b c d f (e ∷ []) ∙ ap (λ x. rows a b c d f (x ∷ [])) e_is);
        files = was.files;
        drafts = was.drafts;
        exports = was.exports;
        asserts = was.asserts;
        texts = was.texts;
      };
    })
  where
    none : (body : List ℕ) (u : Unit {0}) → end_of body ≡ Ok u → body ≡ []
    none [] u e = refl
    none (b ∷ body) u e = let longer : (length (b ∷ body) == 0) ≡ false = grind (arith, nat_tests) in cc (rw longer at e)

-- ---- Any record.

chosen : {A : Type 0} (b : Bool) (x y : A) → b ≡ true → (if b then x else y) ≡ x
chosen true x y e = refl
chosen false x y e = cc

other : {A : Type 0} (b : Bool) (x y : A) → b ≡ false → (if b then x else y) ≡ y
other true x y e = cc
other false x y e = refl

same : (k j : ℕ) → (k == j) ≡ true → k ≡ j
same k j e = grind (arith, nat_tests)

entry_step : (s : State) (e : RawRecord) (x : Scanning.Outline × Item) → GoodState s → s.ended ≡ false → Scanning.scan_record (Scanning.outline_of s) e ≡ Ok x → Step s (with_item s x.1) e
unfolding Scanning.scan_record
entry_step s e x r running h =
    let m = length s.files in
    let n = length s.drafts in
    let i = length s.imports in
    let fills = map Scanning.section_fill s.drafts in
    let count : length fills ≡ n = length-map s.drafts Scanning.section_fill in
    let known = passes (not (is_record_kind s.version e.kind)) OutOfOrder _ _ h in
    let there = is_true (is_record_kind s.version e.kind) known.0 in
    let h1 = known.1 in
    elim (either (e.kind == 1)) [
      | inl is ↦ import_step s e x (same e.kind 1 is) r running (sym (chosen (e.kind == 1) _ _ is) ∙ h1)
      | inr not_1 ↦ let h2 = sym (other (e.kind == 1) _ _ not_1) ∙ h1 in elim (either (e.kind == 2)) [
        | inl is ↦ section_step s e x (same e.kind 2 is) r running (sym (chosen (e.kind == 2) _ _ is) ∙ h2)
        | inr not_2 ↦ let h3 = sym (other (e.kind == 2) _ _ not_2) ∙ h2 in elim (either (e.kind == 3)) [
          | inl is ↦
              let kind = same e.kind 3 is in
              part_step s e x (Scanning.with_literal e.body) (λ d y good is. literal_grows n i e d y kind good is) (λ d y is. literal_placed s.version m e.body (Scanning.section_fill d) y is) r running (sym (chosen (e.kind == 3) _ _ is) ∙ h3)
          | inr not_3 ↦ let h4 = sym (other (e.kind == 3) _ _ not_3) ∙ h3 in elim (either (e.kind == 4)) [
            | inl is ↦
                let kind = same e.kind 4 is in
                part_step s e x (Scanning.with_fill e.body) (λ d y good is. fill_grows n i e d y kind good is) (λ d y is. fill_placed s.version m e.body (Scanning.section_fill d) y is) r running (sym (chosen (e.kind == 4) _ _ is) ∙ h4)
            | inr not_4 ↦ let h5 = sym (other (e.kind == 4) _ _ not_4) ∙ h4 in elim (either (e.kind == 5)) [
              | inl is ↦
                  let kind = same e.kind 5 is in
                  part_step s e x (Scanning.with_value s.version m (length fills) i e.body) (λ d y good is. value_grows s.version m n i e d y kind good (ap (λ k. Scanning.with_value s.version m k i e.body (Scanning.section_fill d)) (sym count) ∙ is)) (λ d y is. value_placed s.version m (length fills) i e.body (Scanning.section_fill d) y is) r running (sym (chosen (e.kind == 5) _ _ is) ∙ h5)
              | inr not_5 ↦ let h6 = sym (other (e.kind == 5) _ _ not_5) ∙ h5 in elim (either (e.kind == 6)) [
                | inl is ↦ export_step s e x (same e.kind 6 is) r running (sym (chosen (e.kind == 6) _ _ is) ∙ h6)
                | inr not_6 ↦ let h7 = sym (other (e.kind == 6) _ _ not_6) ∙ h6 in elim (either (e.kind == 7)) [
                  | inl is ↦ assert_step s e x (same e.kind 7 is) r running (sym (chosen (e.kind == 7) _ _ is) ∙ h7)
                  | inr not_7 ↦ let h8 = sym (other (e.kind == 7) _ _ not_7) ∙ h7 in elim (either (e.kind == 9)) [
                    | inl is ↦
                        let kind = same e.kind 9 is in
                        file_step s e x kind (ap (is_record_kind s.version) (sym kind) ∙ there) r running (sym (chosen (e.kind == 9) _ _ is) ∙ h8)
                    | inr not_9 ↦ end_step s e x (eight s.version e.kind there not_1 not_2 not_3 not_4 not_5 not_6 not_7 not_9) r running (sym (other (e.kind == 9) _ _ not_9) ∙ h8)
                  ]
                ]
              ]
            ]
          ]
        ]
      ]
    ]
  where
    is_true : (b : Bool) → not b ≡ false → b ≡ true
    is_true true e = refl
    is_true false e = cc

    eight : (v k : ℕ) → is_record_kind v k ≡ true → (k == 1) ≡ false → (k == 2) ≡ false → (k == 3) ≡ false → (k == 4) ≡ false → (k == 5) ≡ false → (k == 6) ≡ false → (k == 7) ≡ false → (k == 9) ≡ false → k ≡ 8
    eight v k known a b c d f g h j = go (v == 1) known where
      go : (one : Bool) → (nat_le 1 k && nat_le k 8 || not one && k == 9) ≡ true → k ≡ 8
      go true known = grind (arith, nat_tests)
      go false known = grind (arith, nat_tests)

pub after_step : (s t : State) (e : RawRecord) → GoodState s → state_after_record s e ≡ Ok t → Step s t e
unfolding state_after_record Scanning.scan_step
after_step s t e r h =
    let x = bound (Scanning.scan_step (Scanning.outline_of s) e) _ _ h in
    let a = passes s.failed FailedBefore _ _ x.1 in
    let b = passes s.ended OutOfOrder _ _ a.1 in
    let made : with_item s x.0.1 ≡ t = (let z = x.2 in cc) in
    subst (λ (u : State). Step s u e) made (entry_step s e x.0 r b.0 b.1)

-- an accepted record preserves the invariant
pub good_after : (s t : State) (e : RawRecord) → GoodState s → state_after_record s e ≡ Ok t → GoodState t
good_after s t e r h = (after_step s t e r h).well_formed

-- ---- The records that lead to a state.

pub after_steps : (rest : List RawRecord) (s t : State) (es : List RawRecord) → GoodState s → Reached s es → AllByRecursion IsReadEntry rest → state_after_records s rest ≡ Ok t → GoodState t × Reached t (es ++ rest)
after_steps [] s t es good r all h = let here : s ≡ t = cc in (subst GoodState here good, subst (λ (x : State). Reached x (es ++ [])) here (rw (nil es) r))
after_steps (e ∷ rest) s t es good r all h =
    let u = bound (state_after_record s e) _ _ h in
    let step = after_step s u.0 e good u.1 in
    rw (← append_assoc es (e ∷ []) rest) (after_steps rest u.0 t (es ++ e ∷ []) step.well_formed (step.reached es r all.0) all.1 u.2)

pub good_start : (v : ℕ) → is_version v ≡ true → GoodState (start v)
good_start v known = grind (arith, common_steps)

pub at_start : (v : ℕ) → Reached (start v) []
at_start v = record { entries = refl; files = tt; drafts = tt; exports = tt; asserts = tt; texts = refl }
