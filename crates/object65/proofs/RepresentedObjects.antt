-- The records of an object lead to a state that represents it.
use Rattle.std.proofs.lemmas.Grind.{common_steps}
use Rattle.std.proofs.Common.{◌≡◌, ◌∙◌, ℕ, zero, suc, ◌+◌, ◌-◌, ◌%◌, ◌^◌, ◌<◌, ◌≤◌, List, [], ◌∷◌, ◌++◌, length, take, drop, map, Bool, true, false, ◌&&◌, ◌||◌, not, nat_lt, nat_le, nat_eq, ◌==◌, Result, Ok, refl, sym, ap, subst, arith, append_assoc, length-append, inl, inr}
use Rattle.std.proofs.lemmas.Bool.Decides.{nat_tests}
use Rattle.std.proofs.lemmas.List.{length-map, map-append, length-take, length-drop, take-append-drop}
use Rattle.std.specs.Cmp.{nat_eq_equiv}
use Rattle.std.specs.Str.{is_utf8}
use Rattle.std.specs.Cmp.Lexicographic.{pointwise, lists_equiv}
use Rattle.std.specs.List.{flat_map, list_all, sum_by, AllByRecursion}
use Rattle.std.proofs.lemmas.List.Folds.{list_any-append, list_all-append}
use Rattle.std.proofs.lemmas.List.Sums.{sum_by-append, sum_by-cons}
use Rattle.byteorder.specs.Endian.{little_bytes}
use Rattle.object65.specs.declared.builder.Draft.{Draft}
use Rattle.object65.specs.declared.fault.ObjectError.{ObjectError}
use Rattle.object65.specs.declared.object.Assert.{Assert}
use Rattle.object65.specs.declared.object.Export.{Export}
use Rattle.object65.specs.declared.object.Fragment.{Fragment}
use Rattle.object65.specs.declared.scan.LastFragment.TheVariants as last
use Rattle.object65.specs.declared.scan.SectionFill.{SectionFill}
use Rattle.object65.specs.declared.object.Fragment.TheVariants.{Literal, Fill, Value}
use Rattle.object65.specs.declared.object.Object.{Object}
use Rattle.object65.specs.declared.object.Origin.{Origin}
use Rattle.object65.specs.declared.object.Section.{Section}
use Rattle.base65.specs.declared.width.Width.{Width}
use Rattle.base65.specs.declared.width.Width.TheVariants.{Byte, Word, BigEndianWord, Dword, Branch}
use Rattle.object65.specs.Bodies.{section_of}
use Rattle.object65.specs.Record.{◌>>=◌, RawRecord}
use Rattle.object65.specs.Folding.{has_valid_indices, is_normal, is_literal, node_limit}
use Rattle.object65.specs.Form.{Form, nodes}
use Rattle.object65.specs.Objects.{are_distinct, are_files_of, has_file, has_file_by, has_well_formed_origin, is_file_name, is_well_formed_origin, is_name, is_among, are_names, section_len, section_limit, fragment_len, width_len, is_well_formed_form, is_well_formed_fragment, is_well_formed_section, is_well_formed_assert, is_well_formed_object, are_all_merged, FragmentFits, FitsBits, ObjectFits, OriginFits}
use Rattle.object65.specs.Small.{is_small_text}
use Rattle.object65.specs.Spelling.{file_record, import_record, section_record, fragment_records, literal_record, literal_records, fill_record, value_record, export_record, assert_record, end_record, records_after_files, object_records, body_limit}
use Rattle.object65.specs.Items.{State, nonempty_literal, draft_with_fragment, section_from, start, with_fragment, with_item}
use Rattle.object65.specs.Scanning
use Rattle.object65.specs.Scanning.{state_after_record, state_after_records, object_of_state}
use Rattle.object65.proofs.Drafts.{turned, nil, longer, closing_is, last_joins, last_push, apart_last, fill_last, shut_len, all_full, is_full, opens, piece_there, more_pieces, one_piece}
use Rattle.object65.proofs.Fields.{fill_again, value_again, export_again, assert_again}
use Rattle.object65.proofs.SmallParts.{left, right, and, parts}
use Rattle.object65.proofs.ReachedStates.{either}
use Rattle.object65.proofs.Scannings.{fill_is}

-- a name among distinct names that satisfy a predicate satisfies it, and differs from all names before it
name_among : (p : List ℕ → Bool) (xs ys : List (List ℕ)) (n : List ℕ) → are_distinct p (xs ++ n ∷ ys) ≡ true → (p n ≡ true) × (is_among xs n ≡ false)
name_among p [] ys n e = (left (p n) (not (is_among ys n)) (left (p n && not (is_among ys n)) (are_distinct p ys) e), refl)
name_among p (x ∷ xs) ys n e =
    let rest = name_among p xs ys n (right (p x && not (is_among (xs ++ n ∷ ys) x)) (are_distinct p (xs ++ n ∷ ys)) e) in
    let none = turned (is_among (xs ++ n ∷ ys) x) (right (p x) (not (is_among (xs ++ n ∷ ys) x)) (left (p x && not (is_among (xs ++ n ∷ ys) x)) (are_distinct p (xs ++ n ∷ ys)) e)) in
    let split : (is_among xs x || (pointwise nat_eq x n || is_among ys x)) ≡ false = sym (list_any-append (λ m. pointwise nat_eq x m) xs (n ∷ ys)) ∙ none in
    let apart = first_false (pointwise nat_eq x n) (is_among ys x) (second_false (is_among xs x) (pointwise nat_eq x n || is_among ys x) split) in
    let flipped : pointwise nat_eq n x ≡ false = (lists_equiv nat_eq_equiv).symm n x ∙ apart in
    (rest.0, rw (flipped, rest.1) refl)
  where
    first_false : (a b : Bool) → (a || b) ≡ false → a ≡ false
    first_false true b e = cc
    first_false false b e = refl

    second_false : (a b : Bool) → (a || b) ≡ false → b ≡ false
    second_false true b e = cc
    second_false false b e = e

pub name_in : (xs ys : List (List ℕ)) (n : List ℕ) → are_names (xs ++ n ∷ ys) ≡ true → (is_name n ≡ true) × (is_among xs n ≡ false)
name_in = name_among is_name

-- an origin of an object has a file if and only if its version has files, and its file index is valid
origin_parts : (v m : ℕ) (o : Origin) → is_well_formed_origin v m o ≡ true → (has_file_by v o.file ≡ true) × (has_file m o.file ≡ true)
origin_parts v m o good = (left (has_file_by v o.file) (has_file m o.file) good, right (has_file_by v o.file) (has_file m o.file) good)

parts_again : (m n i : ℕ) (o : Origin) (f : Form) → has_file m o.file ≡ true → has_valid_indices n i f ≡ true → Scanning.check_indices m n i o f ≡ Ok tt
unfolding Scanning.check_indices
parts_again m n i o f file indices = rw (file, indices) refl

-- ---- Files.

-- a state that has only files
abbrev naming : ℕ → List (List ℕ) → State
naming v files = record (start v) { files = files }

take_file : (v : ℕ) (done : List (List ℕ)) (name : List ℕ) (others : List (List ℕ)) → (v == 1) ≡ false → are_distinct is_file_name (done ++ name ∷ others) ≡ true → is_utf8 name ≡ true → state_after_record (naming v done) (file_record name) ≡ Ok (naming v (done ++ name ∷ []))
unfolding state_after_record Scanning.scan_step Scanning.scan_record Scanning.scan_file
take_file v done name others two names text = grind (arith, common_steps, name_among)

-- all files, by induction
take_files : (v : ℕ) (names done : List (List ℕ)) (rest : List RawRecord) → (v == 1) ≡ false → are_distinct is_file_name (done ++ names) ≡ true → AllByRecursion (λ name. is_utf8 name ≡ true) names → state_after_records (naming v done) (map file_record names ++ rest) ≡ state_after_records (naming v (done ++ names)) rest
take_files v [] done rest two good texts = ap (λ xs. state_after_records (naming v xs) rest) (sym (nil done))
take_files v (n ∷ names) done rest two good texts =
    let more = append_assoc done (n ∷ []) names in
    ap (λ r. r >>= (λ t. state_after_records t (map file_record names ++ rest))) (take_file v done n names two good texts.0)
    ∙ take_files v names (done ++ n ∷ []) rest two (ap (are_distinct is_file_name) more ∙ good) texts.1
    ∙ ap (λ xs. state_after_records (naming v xs) rest) more

-- the files of an object of either version
files_taken : (v : ℕ) (files : List (List ℕ)) (rest : List RawRecord) → are_files_of v files ≡ true → AllByRecursion (λ name. is_utf8 name ≡ true) files → state_after_records (start v) (map file_record files ++ rest) ≡ state_after_records (naming v files) rest
files_taken v files rest good texts = grind (arith, common_steps, nat_tests, take_files)

module _ (v : ℕ) (files : List (List ℕ)) where
  -- a state with these parts
  abbrev pub holding : List (List ℕ) → Bool → List Draft → List Export → List Assert → State
  holding imports begun ds exports asserts = record { version = v; files = files; imports = imports; drafts = ds; has_fragment = begun; exports = exports; asserts = asserts; ended = false; failed = false }

  -- a state that has only files, imports and sections
  abbrev pub sectioned : List (List ℕ) → Bool → List Draft → State
  sectioned imports begun ds = holding imports begun ds [] []

  -- the draft of a section, with some of its fragments and an unfinished literal after them
  abbrev pub drafting : Section → List Fragment → List ℕ → Draft
  drafting s fs bytes = record { name = s.name; align = s.align; size = section_len s; filled = sum_by fragment_len fs + length bytes; fragments = fs; literal = bytes }

  abbrev pub empty_draft : Section → Draft
  empty_draft s = drafting s [] []

  -- ---- Imports.

  new_again : (xs ys : List (List ℕ)) (n : List ℕ) → are_names (xs ++ n ∷ ys) ≡ true → (is_name n && not (is_among xs n)) ≡ true
  new_again xs ys n e = let name = name_in xs ys n e in and (is_name n) (not (is_among xs n)) name.0 (ap not name.1)

  take_import : (done : List (List ℕ)) (name : List ℕ) (others : List (List ℕ)) → are_names (done ++ name ∷ others) ≡ true → state_after_record (sectioned done false []) (import_record name) ≡ Ok (sectioned (done ++ name ∷ []) false [])
  unfolding state_after_record Scanning.scan_step Scanning.scan_record Scanning.scan_import
  take_import done name others names = rw (new_again done others name names) refl

  -- all imports, by induction
  take_imports : (names done : List (List ℕ)) (rest : List RawRecord) → are_names (done ++ names) ≡ true → state_after_records (sectioned done false []) (map import_record names ++ rest) ≡ state_after_records (sectioned (done ++ names) false []) rest
  take_imports [] done rest good = ap (λ xs. state_after_records (sectioned xs false []) rest) (sym (nil done))
  take_imports (n ∷ names) done rest good =
      let more = append_assoc done (n ∷ []) names in
      ap (λ r. r >>= (λ t. state_after_records t (map import_record names ++ rest))) (take_import done n names good)
      ∙ take_imports names (done ++ n ∷ []) rest (ap are_names more ∙ good)
      ∙ ap (λ xs. state_after_records (sectioned xs false []) rest) more

  -- ---- Headings.

  -- the conditions for a section
  pub record IsGood (n i : ℕ) (s : Section) : Type 0 where
    pub align : nat_le s.align 15 ≡ true
    pub size : section_len s ≤ section_limit
    pub well_formed : list_all (is_well_formed_fragment n i) s.fragments ≡ true
    pub apart : are_all_merged s.fragments ≡ true
    pub fits : AllByRecursion FragmentFits s.fragments

  good_sections : (n i : ℕ) (ss : List Section) → list_all (is_well_formed_section n i) ss ≡ true → AllByRecursion (λ s. AllByRecursion FragmentFits s.fragments) ss → AllByRecursion (IsGood n i) ss
  good_sections n i [] good fits = tt
  good_sections n i (s ∷ ss) good fits =
      let one = left (is_well_formed_section n i s) (list_all (is_well_formed_section n i) ss) good in
      let three = left (nat_le s.align 15 && nat_le (section_len s) section_limit && list_all (is_well_formed_fragment n i) s.fragments) (are_all_merged s.fragments) one in
      let two = left (nat_le s.align 15 && nat_le (section_len s) section_limit) (list_all (is_well_formed_fragment n i) s.fragments) three in
      let size = right (nat_le s.align 15) (nat_le (section_len s) section_limit) two in (
        record {
          align = left (nat_le s.align 15) (nat_le (section_len s) section_limit) two;
          size = grind (arith, nat_tests);
          well_formed = right (nat_le s.align 15 && nat_le (section_len s) section_limit) (list_all (is_well_formed_fragment n i) s.fragments) three;
          apart = right (nat_le s.align 15 && nat_le (section_len s) section_limit && list_all (is_well_formed_fragment n i) s.fragments) (are_all_merged s.fragments) one;
          fits = fits.0;
        },
        good_sections n i ss (right (is_well_formed_section n i s) (list_all (is_well_formed_section n i) ss) good) fits.1,
      )

  heading_again : (n align : ℕ) (name : List ℕ) → n ≤ 16777216 → section_of (little_bytes 4 n ++ align ∷ name) ≡ Ok (record { size = n; align = align; name = name })
  heading_again n align name small = grind (arith, common_steps)

  take_section : (n i : ℕ) (imports : List (List ℕ)) (ds : List Draft) (s : Section) (others : List (List ℕ)) → IsGood n i s → are_names (map (λ (d : Draft). d.name) ds ++ s.name ∷ others) ≡ true → state_after_record (sectioned imports false ds) (section_record s) ≡ Ok (sectioned imports false (ds ++ empty_draft s ∷ []))
  unfolding state_after_record Scanning.scan_step Scanning.scan_record Scanning.scan_section
  take_section n i imports ds s others good names = grind (arith, common_steps, heading_again, new_again)

  -- all headings, by induction
  take_headings : (n i : ℕ) (imports : List (List ℕ)) (ss : List Section) (ds : List Draft) (rest : List RawRecord) → AllByRecursion (IsGood n i) ss → are_names (map (λ (d : Draft). d.name) ds ++ map (λ (s : Section). s.name) ss) ≡ true → state_after_records (sectioned imports false ds) (map section_record ss ++ rest) ≡ state_after_records (sectioned imports false (ds ++ map empty_draft ss)) rest
  take_headings n i imports [] ds rest good names = ap (λ xs. state_after_records (sectioned imports false xs) rest) (sym (nil ds))
  take_headings n i imports (s ∷ ss) ds rest good names =
      let one = take_section n i imports ds s (map (λ (x : Section). x.name) ss) good.0 names in
      let more : map (λ (d : Draft). d.name) (ds ++ empty_draft s ∷ []) ++ map (λ (x : Section). x.name) ss ≡ map (λ (d : Draft). d.name) ds ++ s.name ∷ map (λ (x : Section). x.name) ss = ap (λ xs. xs ++ map (λ (x : Section). x.name) ss) (map-append (λ (d : Draft). d.name) ds (empty_draft s ∷ [])) ∙ append_assoc (map (λ (d : Draft). d.name) ds) (s.name ∷ []) (map (λ (x : Section). x.name) ss) in
      ap (λ r. r >>= (λ t. state_after_records t (map section_record ss ++ rest))) one
      ∙ take_headings n i imports ss (ds ++ empty_draft s ∷ []) rest good.1 (ap are_names more ∙ names)
      ∙ ap (λ xs. state_after_records (sectioned imports false xs) rest) (append_assoc ds (empty_draft s ∷ []) (map empty_draft ss))

  -- ---- A literal.

  -- adding a fragment to the first section that isn't full
  part_again : (imports : List (List ℕ)) (begun : Bool) (full : List Draft) (d e : Draft) (more : List Draft) (grow : SectionFill → Result (SectionFill × Fragment) ObjectError) (y : SectionFill × Fragment) → list_all is_full full ≡ true → is_full d ≡ false → grow (Scanning.section_fill d) ≡ Ok y → draft_with_fragment d y.1 ≡ e → (Scanning.scan_part (Scanning.outline_of (sectioned imports begun (full ++ d ∷ more))) grow >>= (λ x. Ok (with_item (sectioned imports begun (full ++ d ∷ more)) x.1))) ≡ Ok (sectioned imports true (full ++ e ∷ more))
  unfolding Scanning.scan_part
  part_again imports begun full d e more grow y all free h is = grind (arith, common_steps, opens, piece_there)

  literal_again : (s : Section) (fs : List Fragment) (bytes body : List ℕ) → 0 < length body → (sum_by fragment_len fs + length bytes) + length body ≤ section_len s → length bytes % body_limit ≡ 0 → Scanning.with_literal body (Scanning.section_fill (drafting s fs bytes)) ≡ Ok (Scanning.fill_after (Scanning.section_fill (drafting s fs bytes)) (length body) (Scanning.last_after (length body)), Literal body)
  unfolding Scanning.with_literal
  literal_again s fs bytes body some within full = grind (arith, common_steps)

  literal_joined : (s : Section) (fs : List Fragment) (bytes body : List ℕ) → draft_with_fragment (drafting s fs bytes) (Literal body) ≡ drafting s fs (bytes ++ body)
  literal_joined s fs bytes body = grind (arith, common_steps)

  -- a section with space for `len` bytes isn't full
  not_full : (s : Section) (fs : List Fragment) (bytes : List ℕ) (len : ℕ) → 0 < len → (sum_by fragment_len fs + length bytes) + len ≤ section_len s → is_full (drafting s fs bytes) ≡ false
  not_full s fs bytes len some within = let less : sum_by fragment_len fs + length bytes < section_len s = omega arith in grind (arith, nat_tests)

  take_piece : (imports : List (List ℕ)) (begun : Bool) (full more : List Draft) (s : Section) (fs : List Fragment) (bytes body : List ℕ) → list_all is_full full ≡ true → 0 < length body → (sum_by fragment_len fs + length bytes) + length body ≤ section_len s → length bytes % body_limit ≡ 0 → state_after_record (sectioned imports begun (full ++ drafting s fs bytes ∷ more)) (literal_record body) ≡ Ok (sectioned imports true (full ++ drafting s fs (bytes ++ body) ∷ more))
  unfolding state_after_record Scanning.scan_step Scanning.scan_record
  take_piece imports begun full more s fs bytes body all some within even =
      part_again imports begun full (drafting s fs bytes) (drafting s fs (bytes ++ body)) more (Scanning.with_literal body) _ all (not_full s fs bytes (length body) some within) (literal_again s fs bytes body some within even) (literal_joined s fs bytes body)

  -- these records lead to a state with these sections
  pub record Goes (before : State) (imports : List (List ℕ)) (es rest : List RawRecord) (ds : List Draft) : Type 0 where
    pub has_fragment : Bool
    pub same : state_after_records before (es ++ rest) ≡ state_after_records (sectioned imports has_fragment ds) rest

  front_len : (bytes : List ℕ) → body_limit < length bytes → length (take body_limit bytes) ≡ body_limit
  front_len bytes over = omega (arith, length-take body_limit bytes)

  abbrev Piecewise : ℕ → Type 0
  Piecewise n = (imports : List (List ℕ)) (begun : Bool) (full more : List Draft) (s : Section) (fs : List Fragment) (done bytes : List ℕ) (rest : List RawRecord) → length bytes ≤ n → list_all is_full full ≡ true → (sum_by fragment_len fs + length done) + length bytes ≤ section_len s → length done % body_limit ≡ 0 → Goes (sectioned imports begun (full ++ drafting s fs done ∷ more)) imports (literal_records bytes) rest (full ++ drafting s fs (done ++ bytes) ∷ more)

  split : (n : ℕ) (imports : List (List ℕ)) (begun : Bool) (full more : List Draft) (s : Section) (fs : List Fragment) (done bytes : List ℕ) (rest : List RawRecord) → 0 < length bytes → length bytes ≤ suc n → list_all is_full full ≡ true → (sum_by fragment_len fs + length done) + length bytes ≤ section_len s → length done % body_limit ≡ 0 → Piecewise n → Goes (sectioned imports begun (full ++ drafting s fs done ∷ more)) imports (literal_records bytes) rest (full ++ drafting s fs (done ++ bytes) ∷ more)
  split n imports begun full more s fs done bytes rest some long all sum even others =
      elim (either (nat_le (length bytes) body_limit)) [
        | inl short ↦
            let within : length bytes ≤ body_limit = grind (arith, nat_tests) in
            record {
              has_fragment = true;
              same =
                  ap (λ es. state_after_records (sectioned imports begun (full ++ drafting s fs done ∷ more)) (es ++ rest)) (one_piece bytes some within)
                  ∙ ap (λ r. r >>= (λ t. state_after_records t rest)) (take_piece imports begun full more s fs done bytes all some sum even);
            }
        | inr long_one ↦
            let over : body_limit < length bytes = grind (arith, nat_tests) in
            let front = take body_limit bytes in
            let back_part = drop body_limit bytes in
            let len = front_len bytes over in
            let left_len = length-drop body_limit bytes in
            let sum_len = length-append done front in
            let next = others imports true full more s fs (done ++ front) back_part rest (omega arith) all (omega arith) (omega arith) in
            record {
              has_fragment = next.has_fragment;
              same =
                  ap (λ es. state_after_records (sectioned imports begun (full ++ drafting s fs done ∷ more)) (es ++ rest)) (more_pieces bytes some)
                  ∙ ap (λ r. r >>= (λ t. state_after_records t (literal_records back_part ++ rest))) (take_piece imports begun full more s fs done front all (omega arith) (omega arith) even)
                  ∙ next.same
                  ∙ ap (λ xs. state_after_records (sectioned imports next.has_fragment (full ++ drafting s fs xs ∷ more)) rest) (append_assoc done front back_part ∙ ap (λ xs. done ++ xs) (take-append-drop body_limit bytes));
            }
      ]

  take_literal : (n : ℕ) → Piecewise n
  take_literal n imports begun full more s fs done [] rest long all sum even = record {
    has_fragment = begun;
    same = ap (λ xs. state_after_records (sectioned imports begun (full ++ drafting s fs xs ∷ more)) rest) (sym (nil done));
  }
  take_literal zero imports begun full more s fs done (b ∷ bytes) rest long all sum even = absurd (omega arith)
  take_literal (suc n) imports begun full more s fs done (b ∷ bytes) rest long all sum even = split n imports begun full more s fs done (b ∷ bytes) rest (omega arith) (omega arith) all sum even (take_literal n)

  -- ---- A fill and a value.

  -- the section with one further fragment that is no literal
  added : (s : Section) (fs : List Fragment) (bytes : List ℕ) (f : Fragment) → with_fragment (drafting s fs bytes) (fragment_len f) f ≡ drafting s ((fs ++ nonempty_literal bytes) ++ f ∷ []) []
  added s fs bytes f = grind (arith, common_steps)

  room_again : (s : Section) (fs : List Fragment) (bytes : List ℕ) (len : ℕ) → (sum_by fragment_len fs + length bytes) + len ≤ section_len s → nat_le len (section_len s - (sum_by fragment_len fs + length bytes)) ≡ true
  room_again s fs bytes len within = let less : len ≤ section_len s - (sum_by fragment_len fs + length bytes) = omega arith in grind (arith, nat_tests)

  take_fill : (imports : List (List ℕ)) (begun : Bool) (full more : List Draft) (s : Section) (fs : List Fragment) (bytes : List ℕ) (n : ℕ) → list_all is_full full ≡ true → 0 < n → n < 2 ^ 32 → (sum_by fragment_len fs + length bytes) + n ≤ section_len s → Scanning.ends_in_fill (fs ++ nonempty_literal bytes) ≡ false → state_after_record (sectioned imports begun (full ++ drafting s fs bytes ∷ more)) (fill_record n) ≡ Ok (sectioned imports true (full ++ drafting s ((fs ++ nonempty_literal bytes) ++ Fill n ∷ []) [] ∷ more))
  unfolding state_after_record Scanning.scan_step Scanning.scan_record Scanning.with_fill
  take_fill imports begun full more s fs bytes n all some fits within alone =
      let d = drafting s fs bytes in
      let y : SectionFill × Fragment = (Scanning.fill_after (Scanning.section_fill d) n last.Fill, Fill n) in
      let takes : Scanning.with_fill (fill_record n).body (Scanning.section_fill d) ≡ Ok y = rw (fill_again n some fits, room_again s fs bytes n within, fill_is d, alone) refl in
      part_again imports begun full d (drafting s ((fs ++ nonempty_literal bytes) ++ Fill n ∷ []) []) more (Scanning.with_fill (fill_record n).body) y all (not_full s fs bytes n some within) takes (added s fs bytes (Fill n))

  -- the conditions for the form of a value or an assertion
  form_parts : (n i : ℕ) (f : Form) → (is_well_formed_form n i f && not (is_literal f)) ≡ true → (has_valid_indices n i f ≡ true) × ((is_normal f && nat_le (nodes f) node_limit && not (is_literal f)) ≡ true) × (is_normal f ≡ true)
  form_parts n i f good = grind (arith, common_steps, left, right, and)

  take_value : (n i : ℕ) (imports : List (List ℕ)) (begun : Bool) (full more : List Draft) (s : Section) (fs : List Fragment) (bytes : List ℕ) (w : Width) (o : Origin) (form : Form) → list_all is_full full ≡ true → is_well_formed_origin v (length files) o ≡ true → length (full ++ drafting s fs bytes ∷ more) ≡ n → length imports ≡ i → OriginFits o × FitsBits form → (is_well_formed_form n i form && not (is_literal form)) ≡ true → (sum_by fragment_len fs + length bytes) + width_len w ≤ section_len s → state_after_record (sectioned imports begun (full ++ drafting s fs bytes ∷ more)) (value_record w o form) ≡ Ok (sectioned imports true (full ++ drafting s ((fs ++ nonempty_literal bytes) ++ Value w o form ∷ []) [] ∷ more))
  unfolding state_after_record Scanning.scan_step Scanning.scan_record Scanning.with_value
  take_value n i imports begun full more s fs bytes w o form all origin count there fits good within =
      let fine = form_parts n i form good in
      let by = origin_parts v (length files) o origin in
      let some : 0 < width_len w = width_some w in
      let d = drafting s fs bytes in
      let body = (value_record w o form).body in
      let y : SectionFill × Fragment = (Scanning.fill_after (Scanning.section_fill d) (width_len w) last.Other, Value w o form) in
      let takes : Scanning.with_value v (length files) n i body (Scanning.section_fill d) ≡ Ok y = rw (value_again v w o form by.0 fits.0 fits.1 fine.2, room_again s fs bytes (width_len w) within, parts_again (length files) n i o form by.1 fine.0, fine.1) refl in
      let m = length (map Scanning.section_fill (full ++ d ∷ more)) in
      let counted = takes_at n i m (length imports) body (Scanning.section_fill d) y (length-map (full ++ d ∷ more) Scanning.section_fill ∙ count) there takes in
      part_again imports begun full d (drafting s ((fs ++ nonempty_literal bytes) ++ Value w o form ∷ []) []) more (Scanning.with_value v (length files) m (length imports) body) y all (not_full s fs bytes (width_len w) some within) counted (added s fs bytes (Value w o form))
    where
      width_some : (w : Width) → 0 < width_len w
      width_some Byte = omega arith
      width_some Word = omega arith
      width_some BigEndianWord = omega arith
      width_some Dword = omega arith
      width_some Branch = omega arith

      takes_at : (n i m j : ℕ) (body : List ℕ) (r : SectionFill) (y : SectionFill × Fragment) → m ≡ n → j ≡ i → Scanning.with_value v (length files) n i body r ≡ Ok y → Scanning.with_value v (length files) m j body r ≡ Ok y
      takes_at n i m j body r y p q h = (λ k. Scanning.with_value v (length files) (p k) (q k) body r) ∙ h

  -- ---- The fragments of a section.

  -- these records fill the section with all of its fragments
  pub record Fills (before : State) (imports : List (List ℕ)) (es rest : List RawRecord) (full more : List Draft) (s : Section) (all : List Fragment) : Type 0 where
    pub fragments : List Fragment
    pub literal : List ℕ
    pub whole : fragments ++ nonempty_literal literal ≡ all
    pub is_full : is_full (drafting s fragments literal) ≡ true
    pub has_fragment : Bool
    pub same : state_after_records before (es ++ rest) ≡ state_after_records (sectioned imports has_fragment (full ++ drafting s fragments literal ∷ more)) rest

  -- one fragment, and then the others
  fills_next : (before : State) (imports : List (List ℕ)) (first others rest : List RawRecord) (full more : List Draft) (s : Section) (begun : Bool) (d : Draft) (all now : List Fragment) → now ≡ all → state_after_records before (first ++ (others ++ rest)) ≡ state_after_records (sectioned imports begun (full ++ d ∷ more)) (others ++ rest) → Fills (sectioned imports begun (full ++ d ∷ more)) imports others rest full more s now → Fills before imports (first ++ others) rest full more s all
  fills_next before imports first others rest full more s begun d all now same one next = grind (arith, common_steps)

  take_fragments : (n i : ℕ) (imports : List (List ℕ)) (gs : List Fragment) (begun : Bool) (full more : List Draft) (s : Section) (fs : List Fragment) (bytes : List ℕ) (rest : List RawRecord) → list_all is_full full ≡ true → length full + suc (length more) ≡ n → length imports ≡ i → list_all (is_well_formed_fragment n i) gs ≡ true → list_all (has_well_formed_origin v (length files)) gs ≡ true → AllByRecursion FragmentFits gs → are_all_merged ((fs ++ nonempty_literal bytes) ++ gs) ≡ true → (sum_by fragment_len fs + length bytes) + sum_by fragment_len gs ≡ section_len s → Fills (sectioned imports begun (full ++ drafting s fs bytes ∷ more)) imports (flat_map fragment_records gs) rest full more s ((fs ++ nonempty_literal bytes) ++ gs)
  take_fragments n i imports [] begun full more s fs bytes rest all count there good placed fits apart sum = record {
    fragments = fs;
    literal = bytes;
    whole = sym (nil (fs ++ nonempty_literal bytes));
    is_full = (let same : sum_by fragment_len fs + length bytes ≡ section_len s = omega arith in grind (arith, nat_tests));
    has_fragment = begun;
    same = refl;
  }
  take_fragments n i imports (Literal body ∷ gs) begun full more s fs (b ∷ bytes) rest all count there good placed fits apart sum =
      let alone = apart_last (fs ++ nonempty_literal (b ∷ bytes)) (Literal body) gs apart in
      let joined : last_joins (fs ++ nonempty_literal (b ∷ bytes)) (Literal body) ≡ true = ap (λ xs. last_joins (fs ++ xs) (Literal body)) (closing_is (b ∷ bytes) (longer b bytes)) ∙ last_push fs (Literal (b ∷ bytes)) (Literal body) in
      absurd (both (last_joins (fs ++ nonempty_literal (b ∷ bytes)) (Literal body)) joined alone)
    where
      both : (x : Bool) → x ≡ true → x ≡ false → ⊥
      both x p q = cc
  take_fragments n i imports (Literal [] ∷ gs) begun full more s fs [] rest all count there good placed fits apart sum = let none : nat_lt 0 0 ≡ false = refl in cc
  take_fragments n i imports (Literal (c ∷ body) ∷ gs) begun full more s fs [] rest all count there good placed fits apart sum =
      let whole : (fs ++ nonempty_literal (c ∷ body)) ++ gs ≡ (fs ++ nonempty_literal []) ++ Literal (c ∷ body) ∷ gs = ap (λ xs. (fs ++ xs) ++ gs) (closing_is (c ∷ body) (longer c body)) ∙ append_assoc fs (Literal (c ∷ body) ∷ []) gs ∙ ap (λ xs. xs ++ Literal (c ∷ body) ∷ gs) (sym (nil fs)) in
      let first = sum_by-cons fragment_len (Literal (c ∷ body)) gs in
      let one = take_literal (length (c ∷ body)) imports begun full more s fs [] (c ∷ body) (flat_map fragment_records gs ++ rest) (omega arith) all (omega (arith, sum, first)) refl in
      fills_next (sectioned imports begun (full ++ drafting s fs [] ∷ more)) imports (literal_records (c ∷ body)) (flat_map fragment_records gs) rest full more s one.has_fragment (drafting s fs (c ∷ body)) ((fs ++ nonempty_literal []) ++ Literal (c ∷ body) ∷ gs) ((fs ++ nonempty_literal (c ∷ body)) ++ gs) whole one.same
      (take_fragments n i imports gs one.has_fragment full more s fs (c ∷ body) rest all count there (right (is_well_formed_fragment n i (Literal (c ∷ body))) (list_all (is_well_formed_fragment n i) gs) good) (right (has_well_formed_origin v (length files) (Literal (c ∷ body))) (list_all (has_well_formed_origin v (length files)) gs) placed) fits.1 (ap are_all_merged whole ∙ apart) (omega (arith, sum, first)))
  take_fragments n i imports (Fill k ∷ gs) begun full more s fs bytes rest all count there good placed fits apart sum =
      let now = fs ++ nonempty_literal bytes in
      let first = sum_by-cons fragment_len (Fill k) gs in
      let some : 0 < k = (let t = left (is_well_formed_fragment n i (Fill k)) (list_all (is_well_formed_fragment n i) gs) good in grind (arith, nat_tests)) in
      let alone : Scanning.ends_in_fill now ≡ false = fill_last now k ∙ apart_last now (Fill k) gs apart in
      let whole : ((now ++ Fill k ∷ []) ++ nonempty_literal []) ++ gs ≡ now ++ Fill k ∷ gs = ap (λ xs. xs ++ gs) (nil (now ++ Fill k ∷ [])) ∙ append_assoc now (Fill k ∷ []) gs in
      let one = take_fill imports begun full more s fs bytes k all some fits.0 (omega (arith, sum, first)) alone in
      fills_next (sectioned imports begun (full ++ drafting s fs bytes ∷ more)) imports (fill_record k ∷ []) (flat_map fragment_records gs) rest full more s true (drafting s (now ++ Fill k ∷ []) []) (now ++ Fill k ∷ gs) (((now ++ Fill k ∷ []) ++ nonempty_literal []) ++ gs) whole (ap (λ r. r >>= (λ t. state_after_records t (flat_map fragment_records gs ++ rest))) one)
      (take_fragments n i imports gs true full more s (now ++ Fill k ∷ []) [] rest all count there (right (is_well_formed_fragment n i (Fill k)) (list_all (is_well_formed_fragment n i) gs) good) (right (has_well_formed_origin v (length files) (Fill k)) (list_all (has_well_formed_origin v (length files)) gs) placed) fits.1 (ap are_all_merged whole ∙ apart) (omega (arith, sum, first, shut_len fs bytes, sum_by-append fragment_len now (Fill k ∷ []))))
  take_fragments n i imports (Value w o form ∷ gs) begun full more s fs bytes rest all count there good placed fits apart sum =
      let now = fs ++ nonempty_literal bytes in
      let f = Value w o form in
      let fine = left (is_well_formed_fragment n i f) (list_all (is_well_formed_fragment n i) gs) good in
      let whole : ((now ++ f ∷ []) ++ nonempty_literal []) ++ gs ≡ now ++ f ∷ gs = ap (λ xs. xs ++ gs) (nil (now ++ f ∷ [])) ∙ append_assoc now (f ∷ []) gs in
      let first = sum_by-cons fragment_len f gs in
      let size : length (full ++ drafting s fs bytes ∷ more) ≡ n = length-append full (drafting s fs bytes ∷ more) ∙ count in
      let one = take_value n i imports begun full more s fs bytes w o form all (left (has_well_formed_origin v (length files) f) (list_all (has_well_formed_origin v (length files)) gs) placed) size there fits.0 fine (omega (arith, sum, first)) in
      fills_next (sectioned imports begun (full ++ drafting s fs bytes ∷ more)) imports (value_record w o form ∷ []) (flat_map fragment_records gs) rest full more s true (drafting s (now ++ f ∷ []) []) (now ++ f ∷ gs) (((now ++ f ∷ []) ++ nonempty_literal []) ++ gs) whole (ap (λ r. r >>= (λ t. state_after_records t (flat_map fragment_records gs ++ rest))) one)
      (take_fragments n i imports gs true full more s (now ++ f ∷ []) [] rest all count there (right (is_well_formed_fragment n i f) (list_all (is_well_formed_fragment n i) gs) good) (right (has_well_formed_origin v (length files) f) (list_all (has_well_formed_origin v (length files)) gs) placed) fits.1 (ap are_all_merged whole ∙ apart) (omega (arith, sum, first, shut_len fs bytes, sum_by-append fragment_len now (f ∷ []))))

  -- ---- The contents of all sections.

  pub record Contents (before : State) (imports : List (List ℕ)) (es rest : List RawRecord) (full : List Draft) (ss : List Section) : Type 0 where
    pub drafts : List Draft
    pub has_fragment : Bool
    pub all_full : list_all is_full (full ++ drafts) ≡ true
    pub sections : map section_from drafts ≡ ss
    pub same : state_after_records before (es ++ rest) ≡ state_after_records (sectioned imports has_fragment (full ++ drafts)) rest

  full_push : (full : List Draft) (d : Draft) → list_all is_full full ≡ true → is_full d ≡ true → list_all is_full (full ++ d ∷ []) ≡ true
  full_push full d all one = list_all-append is_full full (d ∷ []) ∙ rw (all, one) refl

  length_map : {A B : Type 0} (f : A → B) (xs : List A) → length (map f xs) ≡ length xs
  length_map f [] = refl
  length_map f (x ∷ xs) = omega (arith, length_map f xs)

  take_contents : (n i : ℕ) (imports : List (List ℕ)) (ss : List Section) (begun : Bool) (full : List Draft) (rest : List RawRecord) → AllByRecursion (IsGood n i) ss → list_all (λ (s : Section). list_all (has_well_formed_origin v (length files)) s.fragments) ss ≡ true → list_all is_full full ≡ true → length full + length ss ≡ n → length imports ≡ i → Contents (sectioned imports begun (full ++ map empty_draft ss)) imports (flat_map (λ (s : Section). flat_map fragment_records s.fragments) ss) rest full ss
  take_contents n i imports [] begun full rest good placed all count there = record {
    drafts = [];
    has_fragment = begun;
    all_full = ap (list_all is_full) (nil full) ∙ all;
    sections = refl;
    same = refl;
  }
  take_contents n i imports (s ∷ ss) begun full rest good placed all count there =
      let p = λ (x : Section). list_all (has_well_formed_origin v (length files)) x.fragments in
      let mine = flat_map fragment_records s.fragments in
      let theirs = flat_map (λ (x : Section). flat_map fragment_records x.fragments) ss in
      let size : length full + suc (length (map empty_draft ss)) ≡ n = omega (arith, count, length_map empty_draft ss) in
      let one = take_fragments n i imports s.fragments begun full (map empty_draft ss) s [] [] (theirs ++ rest) all size there good.0.well_formed (left (p s) (list_all p ss) placed) good.0.fits good.0.apart (omega arith) in
      let d = drafting s one.fragments one.literal in
      let sum : length (full ++ d ∷ []) + length ss ≡ n = omega (arith, count, length-append full (d ∷ [])) in
      let others = take_contents n i imports ss one.has_fragment (full ++ d ∷ []) rest good.1 (right (p s) (list_all p ss) placed) (full_push full d all one.is_full) sum there in
      let regroup = append_assoc full (d ∷ []) others.drafts in
      record {
        drafts = d ∷ others.drafts;
        has_fragment = others.has_fragment;
        all_full = ap (list_all is_full) (sym regroup) ∙ others.all_full;
        sections = (λ k. record { name = s.name; align = s.align; fragments = one.whole k } ∷ others.sections k);
        same =
            ap (λ es. state_after_records (sectioned imports begun (full ++ empty_draft s ∷ map empty_draft ss)) es) (append_assoc mine theirs rest)
            ∙ one.same
            ∙ ap (λ xs. state_after_records (sectioned imports one.has_fragment xs) (theirs ++ rest)) (sym (append_assoc full (d ∷ []) (map empty_draft ss)))
            ∙ others.same
            ∙ ap (λ xs. state_after_records (sectioned imports others.has_fragment xs) rest) regroup;
      }

  -- ---- Exports.

  take_export : (imports : List (List ℕ)) (begun : Bool) (ds : List Draft) (done : List Export) (x : Export) (others : List (List ℕ)) → list_all is_full ds ≡ true → are_names (map (λ (e : Export). e.name) done ++ x.name ∷ others) ≡ true → is_well_formed_form (length ds) (length imports) x.form ≡ true → is_well_formed_origin v (length files) x.origin ≡ true → OriginFits x.origin × FitsBits x.form → state_after_record (holding imports begun ds done []) (export_record x) ≡ Ok (holding imports begun ds (done ++ x ∷ []) [])
  unfolding state_after_record Scanning.scan_step Scanning.scan_record Scanning.scan_export
  take_export imports begun ds done x others all names good origin fits =
      let n = length ds in
      let i = length imports in
      let two = left (has_valid_indices n i x.form && is_normal x.form) (nat_le (nodes x.form) node_limit) good in
      let normal = right (has_valid_indices n i x.form) (is_normal x.form) two in
      let fine : (is_normal x.form && nat_le (nodes x.form) node_limit) ≡ true = and (is_normal x.form) (nat_le (nodes x.form) node_limit) normal (right (has_valid_indices n i x.form && is_normal x.form) (nat_le (nodes x.form) node_limit) good) in
      let by = origin_parts v (length files) x.origin origin in
      let filled = all_full ds ∙ all in
      rw (filled, length-map ds Scanning.section_fill, export_again v x by.0 fits.0 fits.1 normal, parts_again (length files) n i x.origin x.form by.1 (left (has_valid_indices n i x.form) (is_normal x.form) two), new_again (map (λ (e : Export). e.name) done) others x.name names, fine) refl

  take_exports : (imports : List (List ℕ)) (begun : Bool) (ds : List Draft) (xs done : List Export) (rest : List RawRecord) → list_all is_full ds ≡ true → are_names (map (λ (e : Export). e.name) done ++ map (λ (e : Export). e.name) xs) ≡ true → list_all (λ (e : Export). is_well_formed_form (length ds) (length imports) e.form) xs ≡ true → list_all (λ (e : Export). is_well_formed_origin v (length files) e.origin) xs ≡ true → AllByRecursion (λ (e : Export). OriginFits e.origin × FitsBits e.form) xs → state_after_records (holding imports begun ds done []) (map export_record xs ++ rest) ≡ state_after_records (holding imports begun ds (done ++ xs) []) rest
  take_exports imports begun ds [] done rest all names good placed fits = ap (λ ys. state_after_records (holding imports begun ds ys []) rest) (sym (nil done))
  take_exports imports begun ds (x ∷ xs) done rest all names good placed fits =
      let name_of = λ (e : Export). e.name in
      let fine = λ (e : Export). is_well_formed_form (length ds) (length imports) e.form in
      let at = λ (e : Export). is_well_formed_origin v (length files) e.origin in
      let one = take_export imports begun ds done x (map name_of xs) all names (left (fine x) (list_all fine xs) good) (left (at x) (list_all at xs) placed) fits.0 in
      let more : map name_of (done ++ x ∷ []) ++ map name_of xs ≡ map name_of done ++ x.name ∷ map name_of xs = ap (λ ys. ys ++ map name_of xs) (map-append name_of done (x ∷ [])) ∙ append_assoc (map name_of done) (x.name ∷ []) (map name_of xs) in
      ap (λ r. r >>= (λ t. state_after_records t (map export_record xs ++ rest))) one
      ∙ take_exports imports begun ds xs (done ++ x ∷ []) rest all (ap are_names more ∙ names) (right (fine x) (list_all fine xs) good) (right (at x) (list_all at xs) placed) fits.1
      ∙ ap (λ ys. state_after_records (holding imports begun ds ys []) rest) (append_assoc done (x ∷ []) xs)

  -- ---- Assertions.

  take_assert : (imports : List (List ℕ)) (begun : Bool) (ds : List Draft) (exports : List Export) (done : List Assert) (x : Assert) → list_all is_full ds ≡ true → is_well_formed_assert (length ds) (length imports) x ≡ true → is_well_formed_origin v (length files) x.origin ≡ true → OriginFits x.origin × FitsBits x.form → state_after_record (holding imports begun ds exports done) (assert_record x) ≡ Ok (holding imports begun ds exports (done ++ x ∷ []))
  unfolding state_after_record Scanning.scan_step Scanning.scan_record Scanning.scan_assert
  take_assert imports begun ds exports done x all good origin fits =
      let n = length ds in
      let i = length imports in
      let small = left (is_small_text x.text && is_well_formed_form n i x.form) (not (is_literal x.form)) good in
      let fine = form_parts n i x.form (and (is_well_formed_form n i x.form) (not (is_literal x.form)) (right (is_small_text x.text) (is_well_formed_form n i x.form) small) (right (is_small_text x.text && is_well_formed_form n i x.form) (not (is_literal x.form)) good)) in
      let by = origin_parts v (length files) x.origin origin in
      let filled = all_full ds ∙ all in
      rw (filled, length-map ds Scanning.section_fill, assert_again v x by.0 fits.0 fits.1 fine.2, parts_again (length files) n i x.origin x.form by.1 fine.0, fine.1) refl

  take_asserts : (imports : List (List ℕ)) (begun : Bool) (ds : List Draft) (exports : List Export) (xs done : List Assert) (rest : List RawRecord) → list_all is_full ds ≡ true → list_all (is_well_formed_assert (length ds) (length imports)) xs ≡ true → list_all (λ (a : Assert). is_well_formed_origin v (length files) a.origin) xs ≡ true → AllByRecursion (λ (a : Assert). OriginFits a.origin × FitsBits a.form) xs → state_after_records (holding imports begun ds exports done) (map assert_record xs ++ rest) ≡ state_after_records (holding imports begun ds exports (done ++ xs)) rest
  take_asserts imports begun ds exports [] done rest all good placed fits = ap (λ ys. state_after_records (holding imports begun ds exports ys) rest) (sym (nil done))
  take_asserts imports begun ds exports (x ∷ xs) done rest all good placed fits =
      let fine = is_well_formed_assert (length ds) (length imports) in
      let at = λ (a : Assert). is_well_formed_origin v (length files) a.origin in
      let one = take_assert imports begun ds exports done x all (left (fine x) (list_all fine xs) good) (left (at x) (list_all at xs) placed) fits.0 in
      ap (λ r. r >>= (λ t. state_after_records t (map assert_record xs ++ rest))) one
      ∙ take_asserts imports begun ds exports xs (done ++ x ∷ []) rest all (right (fine x) (list_all fine xs) good) (right (at x) (list_all at xs) placed) fits.1
      ∙ ap (λ ys. state_after_records (holding imports begun ds exports ys) rest) (append_assoc done (x ∷ []) xs)

  -- ---- The END record.

  take_end : (imports : List (List ℕ)) (begun : Bool) (ds : List Draft) (exports : List Export) (asserts : List Assert) → list_all is_full ds ≡ true → state_after_record (holding imports begun ds exports asserts) end_record ≡ Ok (record (holding imports begun ds exports asserts) { ended = true })
  unfolding state_after_record Scanning.scan_step Scanning.scan_record Scanning.scan_last
  take_end imports begun ds exports asserts all = let filled = all_full ds ∙ all in rw filled refl

-- ---- All records of an object.

pub record Again (o : Object) : Type 0 where
  pub state : State
  pub taken : state_after_records (start o.version) (object_records o) ≡ Ok state
  pub ended : state.ended ≡ true
  pub object : object_of_state state ≡ Ok o

pub all_again : (o : Object) → is_well_formed_object o ≡ true → ObjectFits o → Again o
all_again o good fits =
    let v = o.version in
    let fs = o.files in
    let n = length o.sections in
    let i = length o.imports in
    let p = parts o good in
    let a = map import_record o.imports in
    let b = map section_record o.sections in
    let c = flat_map (λ (s : Section). flat_map fragment_records s.fragments) o.sections in
    let d = map export_record o.exports in
    let f = map assert_record o.asserts in
    let last = end_record ∷ [] in
    let sections = good_sections v fs n i o.sections p.sections fits.sections in
    let contents = take_contents v fs n i o.imports o.sections false [] (d ++ (f ++ last)) sections p.values refl (omega arith) refl in
    let ds = contents.drafts in
    let count : n ≡ length ds = ap length (sym contents.sections) ∙ length_map v fs section_from ds in
    let exports = subst (λ k. list_all (λ (e : Export). is_well_formed_form k i e.form) o.exports ≡ true) count p.exports in
    let asserts = subst (λ k. list_all (is_well_formed_assert k i) o.asserts ≡ true) count p.asserts in
    let regroup : records_after_files o ≡ a ++ (b ++ (c ++ (d ++ (f ++ last)))) = append_assoc (((a ++ b) ++ c) ++ d) f last ∙ append_assoc ((a ++ b) ++ c) d (f ++ last) ∙ append_assoc (a ++ b) c (d ++ (f ++ last)) ∙ append_assoc a b (c ++ (d ++ (f ++ last))) in
    record {
      state = record (holding v fs o.imports contents.has_fragment ds o.exports o.asserts) { ended = true };
      taken =
          files_taken v fs (records_after_files o) p.files fits.files
          ∙ ap (state_after_records (naming v fs)) regroup
          ∙ take_imports v fs o.imports [] (b ++ (c ++ (d ++ (f ++ last)))) p.imports
          ∙ take_headings v fs n i o.imports o.sections [] (c ++ (d ++ (f ++ last))) sections p.section_names
          ∙ contents.same
          ∙ take_exports v fs o.imports contents.has_fragment ds o.exports [] (f ++ last) contents.all_full p.export_names exports p.export_origins fits.exports
          ∙ take_asserts v fs o.imports contents.has_fragment ds o.exports o.asserts [] last contents.all_full asserts p.assert_origins fits.asserts
          ∙ ap (λ r. r >>= (λ t. state_after_records t [])) (take_end v fs o.imports contents.has_fragment ds o.exports o.asserts contents.all_full);
      ended = refl;
      object = (λ k. Ok (record { version = v; files = fs; imports = o.imports; sections = contents.sections k; exports = o.exports; asserts = o.asserts }));
    }
