-- Decoded bytes are the encoding of their object, and the encoding of an object is decoded to it.
use Rattle.std.proofs.lemmas.Grind.{common_steps}
use Rattle.std.proofs.Common.{◌≡◌, ◌∙◌, ℕ, ◌+◌, ◌≤◌, List, [], ◌∷◌, ◌++◌, length, take, drop, map, Bool, true, false, ◌&&◌, not, nat_lt, nat_le, if◌then◌else◌, Result, Ok, Err, refl, sym, ap, subst, arith, ◌-◌, get_or, append_assoc, length-append}
use Rattle.std.proofs.lemmas.Bool.Decides.{nat_tests}
use Rattle.std.specs.Cmp.Lexicographic.{bytes_decides}
use Rattle.std.specs.List.{flat_map, list_all, AllByRecursion}
use Rattle.std.specs.Str.{bytes_eq}
use Rattle.byteorder.specs.Endian.{little_bytes, little_number}
use Rattle.object65.specs.declared.builder.Draft.{Draft}
use Rattle.object65.specs.declared.fault.ObjectError.{ObjectError}
use Rattle.object65.specs.declared.fault.ObjectError.TheVariants.{FailedBefore, CutShort, NotAnObject, UnknownVersion, BytesAfterEnd}
use Rattle.object65.specs.declared.object.Object.{Object}
use Rattle.object65.specs.declared.object.Section.{Section}
use Rattle.object65.specs.declared.object.Export.{Export}
use Rattle.object65.specs.declared.object.Assert.{Assert}
use Rattle.object65.specs.Record.{IsBytes, RawRecord, is_version}
use Rattle.object65.specs.Objects.{are_names, has_well_formed_origin, has_well_formed_origins, has_well_formed_parts, is_well_formed_origin, section_len, section_limit, is_well_formed_form, is_well_formed_fragment, is_well_formed_section, is_well_formed_assert, is_well_formed_object, are_all_merged, ObjectFits, FragmentFits}
use Rattle.object65.specs.Folding.{is_literal}
use Rattle.object65.specs.Reading.{bytes_between, head_of, head_at, end_at, file_limit, records_at, object_at}
use Rattle.object65.specs.Small.{is_small_text}
use Rattle.object65.specs.Spelling.{magic, object_head, record_bytes, object_records, section_record, fragment_records, IsObject, object_bytes, body_limit}
use Rattle.object65.specs.Items.{State, start, closed_fragments, section_from, object_from}
use Rattle.object65.specs.Scanning.{object_of_state, state_after_record, state_after_records}
use Rattle.object65.proofs.Drafts.{is_full, nil, shut_entries, shut_good, shut_apart, shut_fits, shut_origins}
use Rattle.object65.proofs.SmallParts.{left, right, and, parts}
use Rattle.object65.proofs.ReachedStates.{Reached, GoodState, GoodDraft, FitDraft, is_open_form, has_good_values, heading_entry, content_entries, end_entries, rows}
use Rattle.object65.proofs.RecordSequences.{bound, passes, room_on, trail, versions_kept, trail_again, ended_stops}
use Rattle.object65.proofs.Steps.{after_steps, good_start, at_start}
use Rattle.object65.proofs.Numbers.{bytes_drop, back}
use Rattle.std.proofs.lemmas.List.{length-take, length-drop, take_at, drop_at}
use Rattle.byteorder.specs.Numbers.{length-bytes_low_first}
use Rattle.object65.specs.Laws.{EncodingsArePrefixFree, EncodingIsRead}
use Rattle.object65.proofs.RepresentedObjects.{all_again}
use Rattle.object65.proofs.RecordLimits.{short_entries, IsShortEntry}

-- ---- The sections.

full_size : (n i : ℕ) (d : Draft) → GoodDraft n i d → is_full d ≡ true → section_len (section_from d) ≡ d.size
full_size n i d good full = grind (arith, common_steps)

headings : (n i : ℕ) (ds : List Draft) → AllByRecursion (GoodDraft n i) ds → list_all is_full ds ≡ true → map section_record (map section_from ds) ≡ map heading_entry ds
headings n i [] good full = refl
headings n i (d ∷ ds) good full =
    let size = full_size n i d good.0 (left (is_full d) (list_all is_full ds) full) in
    λ k. record { kind = 2; body = little_bytes 4 (size k) ++ d.align ∷ d.name } ∷ headings n i ds good.1 (right (is_full d) (list_all is_full ds) full) k

contents : (ds : List Draft) → flat_map (λ (s : Section). flat_map fragment_records s.fragments) (map section_from ds) ≡ flat_map content_entries ds
contents [] = refl
contents (d ∷ ds) = λ k. shut_entries d.fragments d.literal k ++ contents ds k

names_same : (ds : List Draft) → map (λ (s : Section). s.name) (map section_from ds) ≡ map (λ d. d.name) ds
names_same [] = refl
names_same (d ∷ ds) = ap (λ ns. d.name ∷ ns) (names_same ds)

pub count_same : (ds : List Draft) → length (map section_from ds) ≡ length ds
count_same [] = refl
count_same (d ∷ ds) = omega (arith, count_same ds)

sections_good : (n i : ℕ) (ds : List Draft) → AllByRecursion (GoodDraft n i) ds → list_all is_full ds ≡ true → list_all (is_well_formed_section n i) (map section_from ds) ≡ true
sections_good n i [] good full = refl
sections_good n i (d ∷ ds) good full =
    let size = full_size n i d good.0 (left (is_full d) (list_all is_full ds) full) in
    let limit : d.size ≤ section_limit = good.0.size in
    let small : nat_le (section_len (section_from d)) section_limit ≡ true = ap (λ k. nat_le k section_limit) size ∙ grind (arith, nat_tests) in
    and (is_well_formed_section n i (section_from d)) (list_all (is_well_formed_section n i) (map section_from ds))
    (and (nat_le d.align 15 && nat_le (section_len (section_from d)) section_limit && list_all (is_well_formed_fragment n i) (closed_fragments d)) (are_all_merged (closed_fragments d))
    (and (nat_le d.align 15 && nat_le (section_len (section_from d)) section_limit) (list_all (is_well_formed_fragment n i) (closed_fragments d))
    (and (nat_le d.align 15) (nat_le (section_len (section_from d)) section_limit) good.0.align small)
    (shut_good n i d.fragments d.literal good.0.well_formed))
    (shut_apart d.fragments d.literal good.0.apart good.0.bare))
    (sections_good n i ds good.1 (right (is_full d) (list_all is_full ds) full))

sections_fit : (ds : List Draft) → AllByRecursion FitDraft ds → AllByRecursion (λ (s : Section). AllByRecursion FragmentFits s.fragments) (map section_from ds)
sections_fit [] fits = tt
sections_fit (d ∷ ds) fits = (shut_fits d.fragments d.literal fits.0, sections_fit ds fits.1)

sections_placed : (v m : ℕ) (ds : List Draft) → list_all (has_good_values v m) ds ≡ true → list_all (λ (s : Section). list_all (has_well_formed_origin v m) s.fragments) (map section_from ds) ≡ true
sections_placed v m [] good = refl
sections_placed v m (d ∷ ds) good =
    and (list_all (has_well_formed_origin v m) (closed_fragments d)) (list_all (λ (s : Section). list_all (has_well_formed_origin v m) s.fragments) (map section_from ds))
    (shut_origins v m d.fragments d.literal (left (has_good_values v m d) (list_all (has_good_values v m) ds) good))
    (sections_placed v m ds (right (has_good_values v m d) (list_all (has_good_values v m) ds) good))

asserts_good : (n i : ℕ) (xs : List Assert) → list_all (λ a. is_open_form n i a.form) xs ≡ true → list_all (λ a. is_small_text a.text) xs ≡ true → list_all (is_well_formed_assert n i) xs ≡ true
asserts_good n i [] good small = refl
asserts_good n i (x ∷ xs) good small =
    let goods = λ (a : Assert). is_open_form n i a.form in
    let smalls = λ (a : Assert). is_small_text a.text in
    let open_one = left (goods x) (list_all goods xs) good in
    and (is_well_formed_assert n i x) (list_all (is_well_formed_assert n i) xs)
    (and (is_small_text x.text && is_well_formed_form n i x.form) (not (is_literal x.form))
    (and (is_small_text x.text) (is_well_formed_form n i x.form) (left (smalls x) (list_all smalls xs) small) (left (is_well_formed_form n i x.form) (not (is_literal x.form)) open_one))
    (right (is_well_formed_form n i x.form) (not (is_literal x.form)) open_one))
    (asserts_good n i xs (right (goods x) (list_all goods xs) good) (right (smalls x) (list_all smalls xs) small))

-- ---- The object after an END record.

pub finished_entries : (t : State) (es : List RawRecord) → GoodState t → Reached t es → t.ended ≡ true → object_records (object_from t) ≡ es
finished_entries t es good r ended = grind (arith, common_steps, rows, headings, contents, end_entries)

finished_parts : (t : State) → GoodState t → list_all (λ a. is_small_text a.text) t.asserts ≡ true → t.ended ≡ true → has_well_formed_parts (object_from t) ≡ true
finished_parts t r texts ended =
    let n = length (map section_from t.drafts) in
    let m = length t.drafts in
    let i = length t.imports in
    let count : m ≡ n = sym (count_same t.drafts) in
    let a = are_names t.imports in
    let b = are_names (map (λ (s : Section). s.name) (map section_from t.drafts)) in
    let c = are_names (map (λ (e : Export). e.name) t.exports) in
    let d = list_all (is_well_formed_section n i) (map section_from t.drafts) in
    let f = list_all (λ (e : Export). is_well_formed_form n i e.form) t.exports in
    let g = list_all (is_well_formed_assert n i) t.asserts in
    and (a && b && c && d && f) g
    (and (a && b && c && d) f
    (and (a && b && c) d
    (and (a && b) c (and a b r.imports (ap are_names (names_same t.drafts) ∙ r.names)) r.export_names)
    (subst (λ k. list_all (is_well_formed_section k i) (map section_from t.drafts) ≡ true) count (sections_good m i t.drafts r.drafts (r.full ended))))
    (subst (λ k. list_all (λ (e : Export). is_well_formed_form k i e.form) t.exports ≡ true) count r.exports))
    (subst (λ k. list_all (is_well_formed_assert k i) t.asserts ≡ true) count (asserts_good m i t.asserts r.asserts texts))

finished_origins : (t : State) → GoodState t → has_well_formed_origins (object_from t) ≡ true
finished_origins t r =
    let v = t.version in
    let m = length t.files in
    let a = list_all (λ (s : Section). list_all (has_well_formed_origin v m) s.fragments) (map section_from t.drafts) in
    let b = list_all (λ (e : Export). is_well_formed_origin v m e.origin) t.exports in
    let c = list_all (λ (e : Assert). is_well_formed_origin v m e.origin) t.asserts in
    and (a && b) c (and a b (sections_placed v m t.drafts r.values) r.export_origins) r.assert_origins

pub finished_good : (t : State) → GoodState t → list_all (λ a. is_small_text a.text) t.asserts ≡ true → t.ended ≡ true → is_well_formed_object (object_from t) ≡ true
finished_good t r texts ended = grind (arith, common_steps, and, finished_origins, finished_parts)

pub finished_fits : (t : State) (es : List RawRecord) → Reached t es → ObjectFits (object_from t)
finished_fits t es r = grind (arith, common_steps, sections_fit)

-- ---- The head and the end.

head_read : (at : ℕ) (first : ℕ × ℕ) (xs : List ℕ) → head_of at (take 5 xs) ≡ Ok first → (is_version first.0 ≡ true) × (first.1 ≡ at + 5) × (xs ≡ object_head first.0 ++ drop 5 xs)
head_read at first [] e = cc
head_read at first (a ∷ []) e = cc
head_read at first (a ∷ b ∷ []) e = cc
head_read at first (a ∷ b ∷ c ∷ []) e = cc
head_read at first (a ∷ b ∷ c ∷ d ∷ []) e = cc
head_read at first (a ∷ b ∷ c ∷ d ∷ v ∷ xs) e =
    let k = passes (not (bytes_eq (a ∷ b ∷ c ∷ d ∷ []) magic)) NotAnObject _ _ e in
    let same : a ∷ b ∷ c ∷ d ∷ [] ≡ magic = (bytes_decides (a ∷ b ∷ c ∷ d ∷ []) magic).0 (turned (bytes_eq (a ∷ b ∷ c ∷ d ∷ []) magic) k.0) in
    let w = version (is_version v) (v, at + 5) first k.1 in
    let v_is : v ≡ first.0 = ap (λ (p : ℕ × ℕ). p.0) w.1 in
    (ap is_version (sym v_is) ∙ w.0, sym (ap (λ (p : ℕ × ℕ). p.1) w.1), λ i. same i ++ (v_is i ∷ xs))
  where
    turned : (b : Bool) → not b ≡ false → b ≡ true
    turned true e = refl
    turned false e = cc

    version : (b : Bool) (n first : ℕ × ℕ) → (if b then Ok n else Err UnknownVersion) ≡ Ok first → (b ≡ true) × (n ≡ first)
    version true n first e = (refl, cc)
    version false n first e = cc

end_read : (xs : List ℕ) (u : Unit {0}) → (if nat_lt 0 (length (take 1 xs)) then Err BytesAfterEnd else Ok tt) ≡ Ok u → xs ≡ []
end_read x u e = grind (arith, common_steps)

finish_read : (t : State) (o : Object) → t.failed ≡ false → t.ended ≡ true → object_of_state t ≡ Ok o → object_from t ≡ o
finish_read t o running ended e = let same : ◌≡◌ {A = Result Object ObjectError} (Ok (object_from t)) (Ok o) = sym (ap (λ b. if b then Err FailedBefore else (if t.ended then Ok (object_from t) else Err CutShort)) running ∙ ap (λ b. if b then Ok (object_from t) else Err CutShort) ended) ∙ e in cc

pub read_is_object : (bytes : List ℕ) (at limit : ℕ) (o : Object) → IsBytes (bytes_between bytes at limit) → object_at at limit bytes ≡ Ok o → IsObject (bytes_between bytes at limit) o
unfolding object_at
read_is_object bytes at limit o is e =
    let h = bound (head_at at limit bytes) _ _ e in
    let begun = start h.0.0 in
    let r = bound (records_at (length bytes) begun h.0.1 limit bytes) _ _ h.2 in
    let v = bound (end_at r.0.1 limit bytes) _ _ r.2 in
    let head = head_read at h.0 (bytes_between bytes at limit) h.1 in
    let on : bytes_between bytes h.0.1 limit ≡ drop 5 (bytes_between bytes at limit) = ap (λ n. bytes_between bytes n limit) head.1 ∙ room_on bytes at 5 limit in
    let t = trail (length bytes) bytes limit h.0.1 begun r.0.0 r.0.1 (subst IsBytes (sym on) (bytes_drop 5 (bytes_between bytes at limit) is)) r.1 in
    let steps = after_steps t.0 begun r.0.0 [] (good_start h.0.0 head.0) (at_start h.0.0) t.1.each t.1.taken in
    let version : h.0.0 ≡ r.0.0.version = sym (versions_kept t.0 begun r.0.0 t.1.taken) in
    let none = end_read (bytes_between bytes r.0.1 limit) v.0 v.1 in
    let o_is = finish_read r.0.0 o steps.0.failed t.1.ended v.2 in
    subst (IsObject (bytes_between bytes at limit)) o_is (record {
      well_formed = finished_good r.0.0 steps.0 steps.1.texts t.1.ended;
      numbers = finished_fits r.0.0 t.0 steps.1;
      spelled =
          head.2 ∙ ap (λ v. object_head v ++ drop 5 (bytes_between bytes at limit)) version ∙ ap (λ xs. object_head r.0.0.version ++ xs) (sym on ∙ t.1.spelled ∙ ap (λ xs. flat_map record_bytes t.0 ++ xs) none ∙ nil (flat_map record_bytes t.0) ∙ ap (flat_map record_bytes) (sym (finished_entries r.0.0 t.0 steps.0 steps.1 t.1.ended)));
    })

-- ---- The encoding of an object is decoded to that object only.

head_again : (v at : ℕ) (xs : List ℕ) → is_version v ≡ true → head_of at (take 5 (object_head v ++ xs)) ≡ Ok (v, at + 5)
head_again v at xs known = rw known refl

-- each record is at least one byte long
entries_fit : (es : List RawRecord) → length es ≤ length (flat_map record_bytes es)
entries_fit [] = omega arith
entries_fit (e ∷ es) = omega (arith, length-append (record_bytes e) (flat_map record_bytes es), entries_fit es)

-- the object is read up to the END record, and `rest` is what remains
pub record ReadsTo (bytes : List ℕ) (at limit : ℕ) (o : Object) (rest : List ℕ) : Type 0 where
  pub head : head_at at limit bytes ≡ Ok (o.version, at + 5)
  pub state : State
  pub end : ℕ
  pub records : records_at (length bytes) (start o.version) (at + 5) limit bytes ≡ Ok (state, end)
  pub left : bytes_between bytes end limit ≡ rest
  pub object : object_of_state state ≡ Ok o

pub reads_to : (bytes : List ℕ) (at limit : ℕ) (o : Object) (rest : List ℕ) → is_well_formed_object o ≡ true → ObjectFits o → bytes_between bytes at limit ≡ object_bytes o ++ rest → at + length (object_bytes o) ≤ file_limit → ReadsTo bytes at limit o rest
reads_to bytes at limit o rest good fits is within =
    let again = all_again o good fits in
    let es = object_records o in
    let inside : bytes_between bytes at limit ≡ object_head o.version ++ (flat_map record_bytes es ++ rest) = is in
    let on : bytes_between bytes (at + 5) limit ≡ flat_map record_bytes es ++ rest = room_on bytes at 5 limit ∙ ap (drop 5) inside in
    let size : length (object_bytes o) ≡ 5 + length (flat_map record_bytes es) = omega arith in
    let held : length (bytes_between bytes at limit) ≤ length bytes = omega (arith, length-take (limit - at) (drop at bytes), length-drop at bytes) in
    let all : length (bytes_between bytes at limit) ≡ length (object_bytes o) + length rest = ap length is ∙ length-append (object_bytes o) rest in
    let enough : length es ≤ length bytes = omega (arith, entries_fit es) in
    let run = trail_again o.version es (length bytes) bytes limit (at + 5) (start o.version) again.state rest refl enough again.taken refl again.ended on (short_entries o good) (omega arith) in
    record {
      head = ap (λ xs. head_of at (take 5 xs)) inside ∙ head_again o.version at (flat_map record_bytes es ++ rest) (parts o good).version;
      state = again.state;
      end = run.0;
      records = run.1;
      left = run.2;
      object = again.object;
    }

all_read : (bytes : List ℕ) (at limit : ℕ) (o : Object) → ReadsTo bytes at limit o [] → object_at at limit bytes ≡ Ok o
unfolding object_at
all_read bytes at limit o r = rw (r.head, r.records, r.left, r.object) refl

pub object_is_read : EncodingIsRead
object_is_read bytes at limit o within is =
    let spelled : bytes_between bytes at limit ≡ object_bytes o ++ [] = is.spelled ∙ sym (nil (object_bytes o)) in
    all_read bytes at limit o (reads_to bytes at limit o [] is.well_formed is.numbers spelled (omega (arith, ap length is.spelled)))

-- ---- No encoding is a proper prefix of another.

-- if the bytes are equal, so are the first records and the rests
entry_same : (e f : RawRecord) (r s : List ℕ) → length e.body ≤ body_limit → length f.body ≤ body_limit → record_bytes e ++ r ≡ record_bytes f ++ s → (e ≡ f) × (r ≡ s)
entry_same e f r s short_e short_f same =
    let kind : e.kind ≡ f.kind = cc in
    let le = little_bytes 2 (length e.body) in
    let lf = little_bytes 2 (length f.body) in
    let tails : (le ++ e.body) ++ r ≡ (lf ++ f.body) ++ s = cc in
    let following : le ++ (e.body ++ r) ≡ lf ++ (f.body ++ s) = sym (append_assoc le e.body r) ∙ tails ∙ append_assoc lf f.body s in
    let len : length e.body ≡ length f.body = sym (back 2 (length e.body) (e.body ++ r) (omega arith)) ∙ ap (little_number 2) following ∙ back 2 (length f.body) (f.body ++ s) (omega arith) in
    let bodies : e.body ++ r ≡ f.body ++ s = sym (drop_at le (e.body ++ r) 2 (length-bytes_low_first 0 2 (length e.body))) ∙ ap (drop 2) following ∙ drop_at lf (f.body ++ s) 2 (length-bytes_low_first 0 2 (length f.body)) in
    let body : e.body ≡ f.body = sym (take_at e.body r (length e.body) refl) ∙ ap (take (length e.body)) bodies ∙ take_at f.body s (length e.body) (sym len) in
    let rest : r ≡ s = sym (drop_at e.body r (length e.body) refl) ∙ ap (drop (length e.body)) bodies ∙ drop_at f.body s (length e.body) (sym len) in
    ((λ i. record { kind = kind i; body = body i }), rest)

-- if the bytes are equal, so are the records up to an END record and the rests
same_trail : (v w : ℕ) (es fs : List RawRecord) (s t u : State) (more : List ℕ) → AllByRecursion (IsShortEntry v) es → AllByRecursion (IsShortEntry w) fs → state_after_records s es ≡ Ok t → state_after_records s fs ≡ Ok u → t.ended ≡ true → u.ended ≡ true → flat_map record_bytes es ++ more ≡ flat_map record_bytes fs → (more ≡ []) × (t ≡ u)
same_trail v w [] [] s t u more short_e short_f h k over_t over_u same = (same, cc)
same_trail v w [] (f ∷ fs) s t u more short_e short_f h k over_t over_u same =
    let here : s ≡ t = cc in
    let v = bound (state_after_record s f) _ _ k in
    absurd (ended_stops s f v.0 (ap (λ (x : State). x.ended) here ∙ over_t) v.1)
same_trail v w (e ∷ es) [] s t u more short_e short_f h k over_t over_u same =
    let here : s ≡ u = cc in
    let v = bound (state_after_record s e) _ _ h in
    absurd (ended_stops s e v.0 (ap (λ (x : State). x.ended) here ∙ over_u) v.1)
same_trail v w (e ∷ es) (f ∷ fs) s t u more short_e short_f h k over_t over_u same =
    let first = entry_same e f (flat_map record_bytes es ++ more) (flat_map record_bytes fs) short_e.0.1 short_f.0.1 (sym (append_assoc (record_bytes e) (flat_map record_bytes es) more) ∙ same) in
    let y = bound (state_after_record s e) _ _ h in
    let z = bound (state_after_record s f) _ _ k in
    let step : ◌≡◌ {A = Result State ObjectError} (Ok z.0) (Ok y.0) = sym z.1 ∙ ap (state_after_record s) (sym first.0) ∙ y.1 in
    let there : z.0 ≡ y.0 = cc in
    same_trail v w es fs y.0 t u more short_e.1 short_f.1 y.2 (ap (λ x. state_after_records x fs) (sym there) ∙ z.2) over_t over_u first.1

pub no_prefix : EncodingsArePrefixFree
no_prefix bytes more o p a b =
    let first = all_again o a.well_formed a.numbers in
    let second = all_again p b.well_formed b.numbers in
    let whole : (object_head o.version ++ flat_map record_bytes (object_records o)) ++ more ≡ object_head p.version ++ flat_map record_bytes (object_records p) = ap (λ xs. xs ++ more) (sym a.spelled) ∙ b.spelled in
    let version : p.version ≡ o.version = sym (fifth (o.version ∷ (flat_map record_bytes (object_records o) ++ more)) (p.version ∷ flat_map record_bytes (object_records p)) (ap (drop 4) whole)) in
    let taken = ap (λ v. state_after_records (start v) (object_records p)) (sym version) ∙ second.taken in
    let same = same_trail o.version p.version (object_records o) (object_records p) (start o.version) first.state second.state more (short_entries o a.well_formed) (short_entries p b.well_formed) first.taken taken first.ended second.ended (ap (drop 5) whole) in
    let objects : ◌≡◌ {A = Result Object ObjectError} (Ok o) (Ok p) = sym first.object ∙ ap object_of_state same.1 ∙ second.object in
    (same.0, cc)
  where
    fifth : (xs ys : List ℕ) → xs ≡ ys → get_or xs 0 0 ≡ get_or ys 0 0
    fifth xs ys e = ap (λ zs. get_or zs 0 0) e
