-- Lemmas about unfinished sections: their fragments, and the first section that isn't full.
use Rattle.std.proofs.Common.{◌≡◌, ◌∙◌, ℕ, suc, ◌+◌, ◌-◌, List, [], ◌∷◌, ◌++◌, length, Bool, true, false, not, refl, sym, ap, arith, map, Some, None, ◌==◌, Ok, Err, ◌⊎◌, inl, inr, ◌<◌, ◌≤◌, zero, ◌*◌, ◌%◌, length-append, ◌/◌, take, drop, append_assoc}
use Rattle.std.proofs.lemmas.Bool.Decides.{nat_tests}
use Rattle.std.proofs.lemmas.Grind.{common_steps, flat_map-append}
use Rattle.std.proofs.lemmas.List.Folds.{list_all-map}
use Rattle.std.proofs.lemmas.List.Sums.{sum_by-append}
use Rattle.std.specs.Prelude.{slice_get, slice_set}
use Rattle.std.specs.List.{flat_map, list_all, sum_by, AllByRecursion, prefix_len}
use Rattle.object65.specs.declared.object.Fragment.{Fragment}
use Rattle.object65.specs.declared.object.Fragment.TheVariants.{Literal, Fill, Value}
use Rattle.object65.specs.declared.object.Origin.{Origin}
use Rattle.base65.specs.declared.width.Width.{Width}
use Rattle.object65.specs.Form.{Form}
use Rattle.object65.specs.Objects.{fragment_len, has_well_formed_origin, is_well_formed_fragment, can_merge, are_all_merged, FragmentFits}
use Rattle.object65.specs.Spelling.{fragment_records, literal_records, pieces, literal_record, body_limit, record_bytes}
use Rattle.object65.specs.Items.{nonempty_literal, is_none, draft_with_fragment, drafts_with_fragment}
use Rattle.object65.specs.Scanning.{is_some_fill, ends_in_fill, is_filled, next_fill, section_fill}
use Rattle.object65.proofs.SmallParts.{left, right, and}
use Rattle.object65.specs.declared.builder.Draft.{Draft}
use Rattle.object65.specs.declared.fault.ObjectError.TheVariants.{OutOfOrder}
use Rattle.object65.specs.declared.scan.SectionFill.{SectionFill}
use Rattle.std.proofs.lemmas.List.{length-drop, take_all, drop_all, take-append-le, drop-append-le}

-- ---- The fragments of an unfinished section, with the literal after them, and fragments that can't be merged.

pub turned : (b : Bool) → not b ≡ true → b ≡ false
turned true e = cc
turned false e = refl

pub nil : {A : Type 0} (xs : List A) → xs ++ [] ≡ xs
nil [] = refl
nil (x ∷ xs) = ap (λ ys. x ∷ ys) (nil xs)

pub all_push : {X : Type 0} (P : X → Type 0) (xs : List X) (x : X) → AllByRecursion P xs → P x → AllByRecursion P (xs ++ x ∷ [])
all_push P [] x all p = (p, tt)
all_push P (y ∷ ys) x all p = (all.0, all_push P ys x all.1 p)

-- ---- Neighbours.

-- whether a fragment would merge with the last of these fragments
abbrev pub last_joins : List Fragment → Fragment → Bool
last_joins [] f = false
last_joins (x ∷ []) f = can_merge x f
last_joins (x ∷ y ∷ xs) f = last_joins (y ∷ xs) f

pub apart_push : (xs : List Fragment) (f : Fragment) → are_all_merged xs ≡ true → last_joins xs f ≡ false → are_all_merged (xs ++ f ∷ []) ≡ true
apart_push [] f a l = refl
apart_push (x ∷ []) f a l = rw l refl
apart_push (x ∷ y ∷ xs) f a l = and (not (can_merge x y)) (are_all_merged ((y ∷ xs) ++ f ∷ [])) (left (not (can_merge x y)) (are_all_merged (y ∷ xs)) a) (apart_push (y ∷ xs) f (right (not (can_merge x y)) (are_all_merged (y ∷ xs)) a) l)

pub apart_last : (xs : List Fragment) (f : Fragment) (ys : List Fragment) → are_all_merged (xs ++ f ∷ ys) ≡ true → last_joins xs f ≡ false
apart_last [] f ys a = refl
apart_last (x ∷ []) f ys a = turned (can_merge x f) (left (not (can_merge x f)) (are_all_merged (f ∷ ys)) a)
apart_last (x ∷ y ∷ xs) f ys a = apart_last (y ∷ xs) f ys (right (not (can_merge x y)) (are_all_merged ((y ∷ xs) ++ f ∷ ys)) a)

pub last_push : (xs : List Fragment) (f g : Fragment) → last_joins (xs ++ f ∷ []) g ≡ can_merge f g
last_push [] f g = refl
last_push (x ∷ []) f g = refl
last_push (x ∷ y ∷ xs) f g = last_push (y ∷ xs) f g

-- a value merges with no fragment
pub value_apart : (xs : List Fragment) (w : Width) (origin : Origin) (form : Form) → last_joins xs (Value w origin form) ≡ false
value_apart [] w origin form = refl
value_apart (Literal bytes ∷ []) w origin form = refl
value_apart (Fill n ∷ []) w origin form = refl
value_apart (Value v l f ∷ []) w origin form = refl
value_apart (x ∷ y ∷ xs) w origin form = value_apart (y ∷ xs) w origin form

pub fill_last : (xs : List Fragment) (n : ℕ) → ends_in_fill xs ≡ last_joins xs (Fill n)
fill_last [] n = refl
fill_last (Literal bytes ∷ []) n = refl
fill_last (Fill m ∷ []) n = refl
fill_last (Value w l f ∷ []) n = refl
fill_last (x ∷ y ∷ xs) n =
    let index : length (x ∷ y ∷ xs) - 1 ≡ suc (length (y ∷ xs) - 1) = omega arith in
    ap (λ k. is_some_fill (slice_get (x ∷ y ∷ xs) k)) index ∙ fill_last (y ∷ xs) n

-- ---- The literal after the fragments.

pub longer : {A : Type 0} (x : A) (xs : List A) → is_none (x ∷ xs) ≡ false
longer x xs = grind (arith, nat_tests)

-- a nonempty literal is a fragment
pub closing_is : (bytes : List ℕ) → is_none bytes ≡ false → nonempty_literal bytes ≡ Literal bytes ∷ []
closing_is x some = grind (arith, common_steps)

closing_entries : (bytes : List ℕ) → flat_map fragment_records (nonempty_literal bytes) ≡ literal_records bytes
closing_entries x = grind (arith, common_steps)

closing_len : (bytes : List ℕ) → sum_by fragment_len (nonempty_literal bytes) ≡ length bytes
closing_len x = grind (arith, common_steps)

pub shut_entries : (fs : List Fragment) (bytes : List ℕ) → flat_map fragment_records (fs ++ nonempty_literal bytes) ≡ flat_map fragment_records fs ++ literal_records bytes
shut_entries fs bytes = flat_map-append fragment_records fs (nonempty_literal bytes) ∙ ap (λ es. flat_map fragment_records fs ++ es) (closing_entries bytes)

pub shut_len : (fs : List Fragment) (bytes : List ℕ) → sum_by fragment_len (fs ++ nonempty_literal bytes) ≡ sum_by fragment_len fs + length bytes
shut_len fs bytes = sum_by-append fragment_len fs (nonempty_literal bytes) ∙ ap (λ n. sum_by fragment_len fs + n) (closing_len bytes)

pub shut_good : (s i : ℕ) (fs : List Fragment) (bytes : List ℕ) → list_all (is_well_formed_fragment s i) fs ≡ true → list_all (is_well_formed_fragment s i) (fs ++ nonempty_literal bytes) ≡ true
shut_good s i fs x good = grind (arith, common_steps)

pub shut_origins : (v n : ℕ) (fs : List Fragment) (bytes : List ℕ) → list_all (has_well_formed_origin v n) fs ≡ true → list_all (has_well_formed_origin v n) (fs ++ nonempty_literal bytes) ≡ true
shut_origins v n fs x good = grind (arith, common_steps)

pub shut_apart : (fs : List Fragment) (bytes : List ℕ) → are_all_merged fs ≡ true → ((xs : List ℕ) → last_joins fs (Literal xs) ≡ false) → are_all_merged (fs ++ nonempty_literal bytes) ≡ true
shut_apart fs x apart bare = grind (arith, common_steps, nil, closing_is, longer, apart_push)

pub shut_fits : (fs : List Fragment) (bytes : List ℕ) → AllByRecursion FragmentFits fs → AllByRecursion FragmentFits (fs ++ nonempty_literal bytes)
shut_fits fs x fits = grind (arith, common_steps)

-- ---- The section that the next fragment is added to: the first that isn't full.

abbrev pub is_full : Draft → Bool
is_full d = d.filled == d.size

pub all_full : (ds : List Draft) → list_all is_filled (map section_fill ds) ≡ list_all is_full ds
all_full ds = list_all-map is_filled section_fill ds

-- full sections, one section that isn't full, and any sections
pub record Split (ds : List Draft) : Type 0 where
  pub front : List Draft
  pub draft : Draft
  pub following : List Draft
  pub all : ds ≡ front ++ draft ∷ following
  pub full : list_all is_full front ≡ true
  pub free : is_full draft ≡ false

pub seek : (ds : List Draft) → (list_all is_full ds ≡ true) ⊎ Split ds
seek [] = inl refl
seek (d ∷ ds) = next (is_full d) refl (seek ds) where
  next : (b : Bool) → is_full d ≡ b → (list_all is_full ds ≡ true) ⊎ Split ds → (list_all is_full (d ∷ ds) ≡ true) ⊎ Split (d ∷ ds)
  next true full (inl all) = inl (and (is_full d) (list_all is_full ds) full all)
  next true full (inr p) = inr (record {
    front = d ∷ p.front;
    draft = p.draft;
    following = p.following;
    all = ap (λ xs. d ∷ xs) p.all;
    full = and (is_full d) (list_all is_full p.front) full p.full;
    free = p.free;
  })
  next false free rest = inr (record { front = []; draft = d; following = ds; all = refl; full = refl; free = free })

-- ---- The index of that section.

pub room_there : (xs : List Draft) (d : Draft) (ys : List Draft) → slice_get (map section_fill (xs ++ d ∷ ys)) (length xs) ≡ Some (section_fill d)
room_there [] d ys = refl
room_there (x ∷ xs) d ys = room_there xs d ys

pub draft_there : (xs : List Draft) (d : Draft) (ys : List Draft) → slice_get (xs ++ d ∷ ys) (length xs) ≡ Some d
draft_there [] d ys = refl
draft_there (x ∷ xs) d ys = draft_there xs d ys

draft_set : (xs : List Draft) (d e : Draft) (ys : List Draft) → slice_set (xs ++ d ∷ ys) (length xs) e ≡ xs ++ e ∷ ys
draft_set [] d e ys = refl
draft_set (x ∷ xs) d e ys = ap (λ zs. x ∷ zs) (draft_set xs d e ys)

-- adding a fragment to that section
pub piece_there : (xs : List Draft) (d : Draft) (ys : List Draft) (f : Fragment) → drafts_with_fragment (xs ++ d ∷ ys) (length xs) f ≡ xs ++ draft_with_fragment d f ∷ ys
piece_there xs d ys f = rw (draft_there xs d ys) (draft_set xs d (draft_with_fragment d f) ys)

front_len : (xs : List Draft) (d : Draft) (ys : List Draft) → list_all is_full xs ≡ true → is_full d ≡ false → prefix_len is_filled (map section_fill (xs ++ d ∷ ys)) ≡ length xs
front_len [] d ys full free = rw free refl
front_len (x ∷ xs) d ys full free =
    let one = left (is_full x) (list_all is_full xs) full in
    let rest = front_len xs d ys (right (is_full x) (list_all is_full xs) full) free in
    rw (one, rest) (omega arith)

pub opens : (xs : List Draft) (d : Draft) (ys : List Draft) → list_all is_full xs ≡ true → is_full d ≡ false → next_fill (map section_fill (xs ++ d ∷ ys)) ≡ Ok (length xs, section_fill d)
opens xs d ys full free = rw (front_len xs d ys full free, room_there xs d ys) refl

-- if all sections are full, `next_fill` has the error `OutOfOrder`
pub none_open : (ds : List Draft) → list_all is_full ds ≡ true → next_fill (map section_fill ds) ≡ Err OutOfOrder
none_open ds full = rw (past ds full) refl where
  past : (ds : List Draft) → list_all is_full ds ≡ true → slice_get (map section_fill ds) (prefix_len is_filled (map section_fill ds)) ≡ None
  past [] full = refl
  past (d ∷ ds) full =
      let one = left (is_full d) (list_all is_full ds) full in
      let k = prefix_len is_filled (map section_fill ds) in
      let more : 1 + k ≡ suc k = omega arith in
      rw (one, more) (past ds (right (is_full d) (list_all is_full ds) full))

-- the section that `next_fill` returned
pub record Opened (ds : List Draft) (section : ℕ × SectionFill) : Type 0 where
  pub split : Split ds
  pub here : (length split.front, section_fill split.draft) ≡ section

pub opened : (ds : List Draft) (section : ℕ × SectionFill) → next_fill (map section_fill ds) ≡ Ok section → Opened ds section
opened ds section h = go (seek ds) where
  go : (list_all is_full ds ≡ true) ⊎ Split ds → Opened ds section
  go (inl full) = let none = sym (none_open ds full) ∙ h in cc
  go (inr p) =
      let same = sym (ap (λ xs. next_fill (map section_fill xs)) p.all ∙ opens p.front p.draft p.following p.full p.free) ∙ h in
      record { split = p; here = cc (same) }

-- adding a fragment doesn't change the section's name
pub grown_name : (d : Draft) (f : Fragment) → (draft_with_fragment d f).name ≡ d.name
grown_name d x = grind (arith, common_steps)

-- ---- The records of a literal, in order.

counted : (n : ℕ) → 0 < n → (n + 4095) / 4096 ≡ suc ((n - 4096 + 4095) / 4096)
counted n some = omega arith

-- the first record of a literal, and the records of the remaining bytes
pub more_pieces : (bytes : List ℕ) → 0 < length bytes → literal_records bytes ≡ literal_record (take body_limit bytes) ∷ literal_records (drop body_limit bytes)
more_pieces bytes some =
    let n : (length bytes + 4095) / body_limit ≡ suc ((length (drop body_limit bytes) + 4095) / body_limit) = counted (length bytes) some ∙ ap (λ k. suc ((k + 4095) / 4096)) (sym (length-drop body_limit bytes)) in
    ap (λ k. map literal_record (pieces k bytes)) n

pub one_piece : (bytes : List ℕ) → 0 < length bytes → length bytes ≤ body_limit → literal_records bytes ≡ literal_record bytes ∷ []
one_piece bytes some within =
    more_pieces bytes some ∙ (rw (take_all body_limit bytes within, drop_all body_limit bytes within) refl)

-- writing the first record preserves the concatenation of the written bytes and the remaining records
pub written_piece : (out new old bytes : List ℕ) (whole : List ℕ) → body_limit < length bytes → new ≡ out ++ record_bytes (literal_record (take body_limit bytes)) → out ++ flat_map record_bytes (literal_records bytes) ≡ old ++ whole → new ++ flat_map record_bytes (literal_records (drop body_limit bytes)) ≡ old ++ whole
written_piece out new old bytes whole long is kept = grind (arith, common_steps, append_assoc, more_pieces)

pub written_last : (out new old bytes : List ℕ) (whole : List ℕ) → 0 < length bytes → length bytes ≤ body_limit → new ≡ out ++ record_bytes (literal_record bytes) → out ++ flat_map record_bytes (literal_records bytes) ≡ old ++ whole → new ≡ old ++ whole
written_last out new old bytes whole some within is kept = grind (arith, common_steps, one_piece)

-- if a literal consists of full records, appending at most one record's bytes appends that record
pieces_grown : (k : ℕ) (bytes body : List ℕ) → length bytes ≡ body_limit * k → 0 < length body → length body ≤ body_limit → literal_records (bytes ++ body) ≡ literal_records bytes ++ literal_record body ∷ []
pieces_grown zero [] body full some within = one_piece body some within
pieces_grown zero (b ∷ bytes) body full some within = absurd (omega arith)
pieces_grown (suc k) bytes body full some within =
    let long : body_limit ≤ length bytes = omega arith in
    let rest : length (drop body_limit bytes) ≡ body_limit * k = omega (arith, length-drop body_limit bytes) in
    more_pieces (bytes ++ body) (omega (arith, length-append bytes body))
    ∙ rw (take-append-le body_limit bytes body long, drop-append-le body_limit bytes body long, pieces_grown k (drop body_limit bytes) body rest some within) (ap (λ es. es ++ literal_record body ∷ []) (sym (more_pieces bytes (omega arith))))

pub joined_piece : (bytes body : List ℕ) → length bytes % body_limit ≡ 0 → 0 < length body → length body ≤ body_limit → literal_records (bytes ++ body) ≡ literal_records bytes ++ literal_record body ∷ []
joined_piece bytes body full some within = pieces_grown (length bytes / body_limit) bytes body (omega arith) some within
