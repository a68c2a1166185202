-- The slots that sections represent, after each call.
use Rattle.std.proofs.lemmas.Grind.{common_steps}
use Rattle.std.proofs.Common.{◌≡◌, ◌∙◌, ℕ, ◌+◌, true, false, nat_eq, List, [], ◌∷◌, ◌++◌, length, map, Option, Some, refl, sym, ap, subst, append_assoc, append-nil, arith}
use Rattle.std.specs.Prelude.{if◌then◌else◌, IfSome}
use Rattle.std.specs.List.{list_any}
use Rattle.std.proofs.lemmas.List.{map-append}
use Rattle.semantics65.specs.Contents.{Content, Known, ReservedBytes, section_request, section_part}
use Rattle.semantics65.specs.Module.{Slot, resolved}
use Rattle.semantics65.specs.Numbering.{distinct_keys, section_keys}
use Rattle.emit65.specs.declared.entries.Entries.{Entries}
use Rattle.emit65.specs.declared.entries.SectionEntry.{SectionEntry}
use Rattle.emit65.specs.declared.entries.SectionEntry.TheVariants.{Bytes, Reserve}
use Rattle.emit65.specs.declared.files.Files.{Files}
use Rattle.emit65.specs.declared.sections.ClosedSections.{ClosedSections}
use Rattle.emit65.specs.declared.sections.Sections.{Sections}
use Rattle.emit65.specs.SectionContents.{AreEquivalentContents, AreEquivalentSlots, contents_so_far, slot_of, slots_in, content_so_far, has_file_below, IsPrefix, HasSlots, IsAdded, HaveFilesBelow, RepresentsSlots, AppendsSlotsWithFiles, open_contents, names_in}
use Rattle.emit65.proofs.EquivalentContents.{alike_back, alike_front, alike_nothing, alike_sym, alike_trans, bytes_alike, empty_alike, no_bytes_alike, no_room_alike, room_alike}
use Rattle.emit65.proofs.GrownSlots.{begins_long, slots_grown, standing_grown, standing_more}
use Rattle.emit65.proofs.Slots.{asked_more, asked_same, held_alike, slots_back, slots_front, slots_nothing, slots_same, slots_sym, slots_trans}

-- ---- The open part.

abbrev growth : ℕ → List ℕ → ℕ → List Content
growth g bytes reserve = section_part g (Known bytes) ∷ section_part g (ReservedBytes reserve) ∷ []

nothing_grows : (g h : ℕ) → AreEquivalentContents (section_part g (Known []) ∷ section_part h (ReservedBytes 0) ∷ []) []
nothing_grows g h = alike_trans (section_part g (Known []) ∷ section_part h (ReservedBytes 0) ∷ []) (section_part h (ReservedBytes 0) ∷ []) [] (alike_front (section_part g (Known []) ∷ []) [] (section_part h (ReservedBytes 0) ∷ []) (no_bytes_alike g)) (no_room_alike h)

-- an empty open part is equivalent to no content
nothing_growing : (t : Entries) → t.bytes ≡ [] → t.reserve ≡ 0 → AreEquivalentContents (open_contents t) []
nothing_growing t none empty =
    let forth : open_contents t ≡ growth t.segment [] 0 = λ n. growth t.segment (none n) (empty n) in
    subst (λ (cs : List Content). AreEquivalentContents cs []) (sym forth) (nothing_grows t.segment t.segment)

-- if the open part is empty, the slots are equivalent to those of the entries alone
pub closed_alike : (files : List (List ℕ)) (t : Entries) → t.bytes ≡ [] → t.reserve ≡ 0 → AreEquivalentSlots (slots_in files t) (map (slot_of files) t.done.items)
closed_alike files t none empty = slots_nothing (map (slot_of files) t.done.items) (map resolved (open_contents t)) (held_alike (open_contents t) [] (nothing_growing t none empty))

-- ---- Appending to entries.

pub takes_nothing : (files : List (List ℕ)) (t : Entries) → AppendsSlotsWithFiles files t t []
takes_nothing files t = record { equivalent = rw (append-nil (slots_in files t)) (slots_same (slots_in files t)); standing = λ s. s }

pub takes_both : (files : List (List ℕ)) (t u v : Entries) (xs ys : List Slot) → AppendsSlotsWithFiles files t u xs → AppendsSlotsWithFiles files u v ys → AppendsSlotsWithFiles files t v (xs ++ ys)
takes_both files t u v xs ys h k = record {
  equivalent =
      subst (λ (zs : List Slot). AreEquivalentSlots zs (slots_in files v)) (append_assoc (slots_in files t) xs ys)
      (slots_trans ((slots_in files t ++ xs) ++ ys) (slots_in files u ++ ys) (slots_in files v) (slots_front (slots_in files t ++ xs) (slots_in files u) ys h.equivalent) k.equivalent);
  standing = λ s. k.standing (h.standing s);
}

-- replacing the open part with an equivalent one appends nothing
pub takes_same : (files : List (List ℕ)) (t u : Entries) → u.done.items ≡ t.done.items → AreEquivalentContents (open_contents t) (open_contents u) → AppendsSlotsWithFiles files t u []
takes_same files t u done same = record {
  equivalent =
      rw (append-nil (slots_in files t))
      (subst (λ (es : List SectionEntry). AreEquivalentSlots (slots_in files t) (map (slot_of files) es ++ map resolved (open_contents u))) (sym done)
      (slots_back (map (slot_of files) t.done.items) (map resolved (open_contents t)) (map resolved (open_contents u)) (held_alike (open_contents t) (open_contents u) same)));
  standing = λ s. subst (HaveFilesBelow (length files)) (sym done) s;
}

-- turning a content of the open part into an entry appends nothing
pub takes_closed : (files : List (List ℕ)) (t u : Entries) (e : SectionEntry) (c : Content) → slot_of files e ≡ resolved c → has_file_below (length files) e ≡ true → u.done.items ≡ t.done.items ++ e ∷ [] → AreEquivalentContents (open_contents t) (c ∷ open_contents u) → AppendsSlotsWithFiles files t u []
takes_closed files t u e c held standing done same = record {
  equivalent =
      rw (append-nil (slots_in files t))
      (subst (λ (xs : List Slot). AreEquivalentSlots (slots_in files t) xs) (sym split)
      (slots_back (map (slot_of files) t.done.items) (map resolved (open_contents t)) (map resolved (c ∷ open_contents u)) (held_alike (open_contents t) (c ∷ open_contents u) same)));
  standing = λ s. subst (HaveFilesBelow (length files)) (sym done) (standing_more (length files) t.done.items e standing s);
}
  where
    split : slots_in files u ≡ map (slot_of files) t.done.items ++ map resolved (c ∷ open_contents u)
    split =
        ap (λ es. map (slot_of files) es ++ map resolved (open_contents u)) done
        ∙ ap (λ xs. xs ++ map resolved (open_contents u)) (map-append (slot_of files) t.done.items (e ∷ []))
        ∙ append_assoc (map (slot_of files) t.done.items) (slot_of files e ∷ []) (map resolved (open_contents u))
        ∙ ap (λ x. map (slot_of files) t.done.items ++ x ∷ map resolved (open_contents u)) held

-- the bytes of the open part become an entry
pub bytes_closed : (files : List (List ℕ)) (t held u : Entries) (e : SectionEntry) (bytes : List ℕ) → e ≡ Bytes t.segment bytes → bytes ≡ t.bytes → held.bytes ≡ [] → held.done.items ≡ t.done.items → held.segment ≡ t.segment → held.reserve ≡ t.reserve → IsAdded held u e → AppendsSlotsWithFiles files t u []
bytes_closed files t held u e bytes is same none done segment reserve h =
    takes_closed files t u (Bytes t.segment bytes) (section_part t.segment (Known bytes)) refl refl (h.done ∙ ap (λ es. es ++ e ∷ []) done ∙ ap (λ x. t.done.items ++ x ∷ []) is)
    (subst (λ (cs : List Content). AreEquivalentContents (open_contents t) (section_part t.segment (Known bytes) ∷ cs)) (sym (h.open_contents ∙ left)) ended)
  where
    g : ℕ
    g = t.segment

    left : open_contents held ≡ growth g [] t.reserve
    left = λ n. growth (segment n) (none n) (reserve n)

    -- without bytes, the open part is equivalent to its reserved bytes
    following : AreEquivalentContents (section_part g (ReservedBytes t.reserve) ∷ []) (growth g [] t.reserve)
    following = alike_sym (growth g [] t.reserve) (section_part g (ReservedBytes t.reserve) ∷ []) (alike_front (section_part g (Known []) ∷ []) [] (section_part g (ReservedBytes t.reserve) ∷ []) (no_bytes_alike g))

    ended : AreEquivalentContents (open_contents t) (section_part g (Known bytes) ∷ growth g [] t.reserve)
    ended =
        subst (λ (held : List ℕ). AreEquivalentContents (open_contents t) (section_part g (Known held) ∷ growth g [] t.reserve)) (sym same)
        (alike_back (section_part g (Known t.bytes) ∷ []) (section_part g (ReservedBytes t.reserve) ∷ []) (growth g [] t.reserve) following)

-- the reserved bytes of the open part become an entry
pub room_closed : (files : List (List ℕ)) (t held u : Entries) (e : SectionEntry) → t.bytes ≡ [] → e ≡ Reserve t.segment t.reserve → held.bytes ≡ t.bytes → held.done.items ≡ t.done.items → held.segment ≡ t.segment → held.reserve ≡ 0 → IsAdded held u e → AppendsSlotsWithFiles files t u []
room_closed files t held u e none is same done segment no_room h =
    takes_closed files t u (Reserve t.segment t.reserve) (section_part t.segment (ReservedBytes t.reserve)) refl refl (h.done ∙ ap (λ es. es ++ e ∷ []) done ∙ ap (λ x. t.done.items ++ x ∷ []) is)
    (subst (λ (cs : List Content). AreEquivalentContents (open_contents t) (section_part t.segment (ReservedBytes t.reserve) ∷ cs)) (sym (h.open_contents ∙ left)) ended)
  where
    g : ℕ
    g = t.segment

    left : open_contents held ≡ growth g [] 0
    left = λ n. growth (segment n) ((same ∙ none) n) (no_room n)

    reserve : Content
    reserve = section_part g (ReservedBytes t.reserve)

    front : AreEquivalentContents (growth g [] t.reserve) (reserve ∷ [])
    front = alike_front (section_part g (Known []) ∷ []) [] (reserve ∷ []) (no_bytes_alike g)

    ended : AreEquivalentContents (open_contents t) (reserve ∷ growth g [] 0)
    ended =
        subst (λ (bytes : List ℕ). AreEquivalentContents (growth g bytes t.reserve) (reserve ∷ growth g [] 0)) (sym none)
        (alike_trans (growth g [] t.reserve) (reserve ∷ []) (reserve ∷ growth g [] 0) front
        (alike_sym (reserve ∷ growth g [] 0) (reserve ∷ []) (alike_nothing (reserve ∷ []) (growth g [] 0) (nothing_grows g g))))

-- a part of the open contents is appended if nothing else changes
appends_part : (files : List (List ℕ)) (t u : Entries) (added : Content) → u.done.items ≡ t.done.items → AreEquivalentContents (open_contents t ++ added ∷ []) (open_contents u) → AppendsSlotsWithFiles files t u (resolved added ∷ [])
appends_part files t u added done grown = record {
  equivalent =
      subst (λ (xs : List Slot). AreEquivalentSlots xs (slots_in files u)) (sym (append_assoc (map (slot_of files) t.done.items) (map resolved (open_contents t)) (resolved added ∷ [])))
      (subst (λ (es : List SectionEntry). AreEquivalentSlots (map (slot_of files) t.done.items ++ (map resolved (open_contents t ++ added ∷ []))) (map (slot_of files) es ++ map resolved (open_contents u))) (sym done)
      (slots_back (map (slot_of files) t.done.items) (map resolved (open_contents t ++ added ∷ [])) (map resolved (open_contents u)) (held_alike (open_contents t ++ added ∷ []) (open_contents u) grown)));
  standing = λ s. subst (HaveFilesBelow (length files)) (sym done) s;
}

-- appending bytes to the open part
takes_bytes : (files : List (List ℕ)) (t u : Entries) (bytes : List ℕ) → t.reserve ≡ 0 → u.done.items ≡ t.done.items → u.segment ≡ t.segment → u.bytes ≡ t.bytes ++ bytes → u.reserve ≡ t.reserve → AppendsSlotsWithFiles files t u (resolved (section_part t.segment (Known bytes)) ∷ [])
takes_bytes files t u bytes no_room done segment more reserve = appends_part files t u added done grown
  where
    g : ℕ
    g = t.segment

    added : Content
    added = section_part t.segment (Known bytes)

    joined : AreEquivalentContents (section_part g (Known t.bytes) ∷ section_part g (ReservedBytes 0) ∷ added ∷ []) (section_part g (Known (t.bytes ++ bytes)) ∷ section_part g (ReservedBytes 0) ∷ [])
    joined =
        alike_trans (section_part g (Known t.bytes) ∷ section_part g (ReservedBytes 0) ∷ added ∷ []) (section_part g (Known t.bytes) ∷ added ∷ []) (section_part g (Known (t.bytes ++ bytes)) ∷ section_part g (ReservedBytes 0) ∷ [])
        (alike_back (section_part g (Known t.bytes) ∷ []) (section_part g (ReservedBytes 0) ∷ added ∷ []) (added ∷ []) (alike_front (section_part g (ReservedBytes 0) ∷ []) [] (added ∷ []) (no_room_alike g)))
        (alike_trans (section_part g (Known t.bytes) ∷ added ∷ []) (section_part g (Known (t.bytes ++ bytes)) ∷ []) (section_part g (Known (t.bytes ++ bytes)) ∷ section_part g (ReservedBytes 0) ∷ [])
        (bytes_alike g t.bytes bytes)
        (alike_sym (section_part g (Known (t.bytes ++ bytes)) ∷ section_part g (ReservedBytes 0) ∷ []) (section_part g (Known (t.bytes ++ bytes)) ∷ []) (alike_nothing (section_part g (Known (t.bytes ++ bytes)) ∷ []) (section_part g (ReservedBytes 0) ∷ []) (no_room_alike g))))

    left_is : growth g t.bytes 0 ≡ open_contents t
    left_is = ap (growth g t.bytes) (sym no_room)

    right_is : growth g (t.bytes ++ bytes) 0 ≡ open_contents u
    right_is = let forth : open_contents u ≡ growth g (t.bytes ++ bytes) 0 = λ n. growth (segment n) (more n) ((reserve ∙ no_room) n) in sym forth

    grown : AreEquivalentContents (open_contents t ++ added ∷ []) (open_contents u)
    grown = subst (λ (cs : List Content). AreEquivalentContents (cs ++ added ∷ []) (open_contents u)) left_is (subst (λ (cs : List Content). AreEquivalentContents (growth g t.bytes 0 ++ added ∷ []) cs) right_is joined)

-- appending reserved bytes to the open part
takes_room : (files : List (List ℕ)) (t u : Entries) (count : ℕ) → u.done.items ≡ t.done.items → u.segment ≡ t.segment → u.bytes ≡ t.bytes → u.reserve ≡ t.reserve + count → AppendsSlotsWithFiles files t u (resolved (section_part t.segment (ReservedBytes count)) ∷ [])
takes_room files t u count done segment bytes more = appends_part files t u added done grown
  where
    g : ℕ
    g = t.segment

    added : Content
    added = section_part t.segment (ReservedBytes count)

    joined : AreEquivalentContents (open_contents t ++ added ∷ []) (growth g t.bytes (t.reserve + count))
    joined = alike_back (section_part g (Known t.bytes) ∷ []) (section_part g (ReservedBytes t.reserve) ∷ added ∷ []) (section_part g (ReservedBytes (t.reserve + count)) ∷ []) (room_alike g t.reserve count)

    right_is : growth g t.bytes (t.reserve + count) ≡ open_contents u
    right_is = let forth : open_contents u ≡ growth g t.bytes (t.reserve + count) = λ n. growth (segment n) (bytes n) (more n) in sym forth

    grown : AreEquivalentContents (open_contents t ++ added ∷ []) (open_contents u)
    grown = subst (λ (cs : List Content). AreEquivalentContents (open_contents t ++ added ∷ []) cs) right_is joined

-- appending bytes or reserved bytes after a step that appended nothing
pub added_bytes : (files : List (List ℕ)) (t u v : Entries) (g : ℕ) (bytes : List ℕ) → AppendsSlotsWithFiles files t u [] → u.segment ≡ g → u.reserve ≡ 0 → v.done.items ≡ u.done.items → v.segment ≡ u.segment → v.bytes ≡ u.bytes ++ bytes → v.reserve ≡ u.reserve → AppendsSlotsWithFiles files t v (resolved (section_part g (Known bytes)) ∷ [])
added_bytes files t u v g bytes h is no_room done segment more reserve =
    takes_both files t u v [] (resolved (section_part g (Known bytes)) ∷ []) h
    (subst (λ (k : ℕ). AppendsSlotsWithFiles files u v (resolved (section_part k (Known bytes)) ∷ [])) is (takes_bytes files u v bytes no_room done segment more reserve))

pub added_room : (files : List (List ℕ)) (t u v : Entries) (g count : ℕ) → AppendsSlotsWithFiles files t u [] → u.segment ≡ g → v.done.items ≡ u.done.items → v.segment ≡ u.segment → v.bytes ≡ u.bytes → v.reserve ≡ u.reserve + count → AppendsSlotsWithFiles files t v (resolved (section_part g (ReservedBytes count)) ∷ [])
added_room files t u v g count h is done segment bytes more =
    takes_both files t u v [] (resolved (section_part g (ReservedBytes count)) ∷ []) h
    (subst (λ (k : ℕ). AppendsSlotsWithFiles files u v (resolved (section_part k (ReservedBytes count)) ∷ [])) is (takes_room files u v count done segment bytes more))

-- if the open part is empty, changing its segment appends nothing
pub takes_moved : (files : List (List ℕ)) (t u v : Entries) → AppendsSlotsWithFiles files t u [] → u.bytes ≡ [] → u.reserve ≡ 0 → v.bytes ≡ u.bytes → v.reserve ≡ u.reserve → v.done.items ≡ u.done.items → AppendsSlotsWithFiles files t v []
takes_moved files t u v h no_bytes no_room bytes reserve done =
    takes_both files t u v [] [] h (takes_same files u v done (alike_trans (open_contents u) [] (open_contents v) (nothing_growing u no_bytes no_room) (alike_sym (open_contents v) [] (nothing_growing v (bytes ∙ no_bytes) (reserve ∙ no_room)))))

-- appending an entry while the open part is empty
pub takes_pushed : (files : List (List ℕ)) (t u : Entries) (e : SectionEntry) → has_file_below (length files) e ≡ true → t.bytes ≡ [] → t.reserve ≡ 0 → IsAdded t u e → AppendsSlotsWithFiles files t u (slot_of files e ∷ [])
takes_pushed files t u e standing no_bytes no_room h = record {
  equivalent =
      slots_trans (slots_in files t ++ slot_of files e ∷ []) (map (slot_of files) t.done.items ++ slot_of files e ∷ []) (slots_in files u)
      (slots_front (slots_in files t) (map (slot_of files) t.done.items) (slot_of files e ∷ []) (closed_alike files t no_bytes no_room))
      (slots_sym (slots_in files u) (map (slot_of files) t.done.items ++ slot_of files e ∷ [])
      (subst (λ (xs : List Slot). AreEquivalentSlots (slots_in files u) xs) (ap (map (slot_of files)) h.done ∙ map-append (slot_of files) t.done.items (e ∷ []))
      (closed_alike files u (h.bytes ∙ no_bytes) (h.reserve ∙ no_room))));
  standing = λ s. subst (HaveFilesBelow (length files)) (sym h.done) (standing_more (length files) t.done.items e standing s);
}

-- after the open part is closed, the slots are equivalent to those of the entries alone
pub closed_entries : (files : List (List ℕ)) (t u : Entries) → AppendsSlotsWithFiles files t u [] → u.bytes ≡ [] → u.reserve ≡ 0 → AreEquivalentSlots (slots_in files t) (map (slot_of files) u.done.items)
closed_entries files t u same no_bytes no_room =
    slots_trans (slots_in files t) (slots_in files u) (map (slot_of files) u.done.items)
    (subst (λ (xs : List Slot). AreEquivalentSlots xs (slots_in files u)) (append-nil (slots_in files t)) same.equivalent)
    (closed_alike files u no_bytes no_room)

-- ---- Sections.

-- the section that was requested last is among the requested ones
abbrev HasLatest : Option ℕ → List ℕ → Type 0
HasLatest o keys = IfSome o (λ g. list_any (nat_eq g) keys ≡ true)

same_latest : (s t : Sections) → t.requested.keys ≡ s.requested.keys → t.latest ≡ s.latest → HasLatest s.latest s.requested.keys → HasLatest t.latest t.requested.keys
same_latest s t keys latest h = grind (arith, common_steps)

so_far_more : (xs : List Slot) (x : Slot) → contents_so_far (xs ++ x ∷ []) ≡ contents_so_far xs ++ content_so_far x ∷ []
so_far_more xs x = map-append content_so_far xs (x ∷ [])

-- further files don't change the slots that entries represent
slots_still : (old new : List (List ℕ)) (t : Entries) → IsPrefix old new → HaveFilesBelow (length old) t.done.items → slots_in old t ≡ slots_in new t
slots_still old new t begins standing =
    ap (λ xs. xs ++ map resolved (open_contents t)) (sym (slots_grown old begins.0 t.done.items standing))
    ∙ ap (λ files. slots_in files t) (sym begins.1)

alike_grown : (s : Sections) (new : List (List ℕ)) (xs : List Slot) → IsPrefix (names_in s.files) new → RepresentsSlots xs s → AreEquivalentSlots xs (slots_in new s.entries)
alike_grown s new xs begins h = subst (λ (ys : List Slot). AreEquivalentSlots xs ys) (slots_still (names_in s.files) new s.entries begins h.standing) h.equivalent

stands_in_more : (s : Sections) (new : List (List ℕ)) (xs : List Slot) → IsPrefix (names_in s.files) new → RepresentsSlots xs s → HaveFilesBelow (length new) s.entries.done.items
stands_in_more s new xs begins h = standing_grown (length (names_in s.files)) (length new) s.entries.done.items (begins_long (names_in s.files) new begins) h.standing

pub begins_same : (names : List (List ℕ)) → IsPrefix names names
begins_same names = ([], sym (append-nil names))

-- appending a slot that requests no section
pub stands_taken : (s t : Sections) (x : Slot) (xs : List Slot) → (content_so_far x).requests_section ≡ false → t.requested.keys ≡ s.requested.keys → t.latest ≡ s.latest → IsPrefix (names_in s.files) (names_in t.files) → AppendsSlotsWithFiles (names_in t.files) s.entries t.entries (x ∷ []) → RepresentsSlots xs s → RepresentsSlots (xs ++ x ∷ []) t
stands_taken s t x xs quiet keys latest begins taken h = record {
  requested = ap section_keys (so_far_more xs x) ∙ asked_same (contents_so_far xs) (content_so_far x) quiet ∙ h.requested ∙ sym keys;
  latest = same_latest s t keys latest h.latest;
  equivalent =
      let files = names_in t.files in
      slots_trans (xs ++ x ∷ []) (slots_in files s.entries ++ x ∷ []) (slots_in files t.entries)
      (slots_front xs (slots_in files s.entries) (x ∷ []) (alike_grown s files xs begins h)) taken.equivalent;
  standing = taken.standing (stands_in_more s (names_in t.files) xs begins h);
}

-- appending an entry that represents a slot
pub stands_put : (s t : Sections) (e : SectionEntry) (x : Slot) (xs : List Slot) → (content_so_far x).requests_section ≡ false → t.requested.keys ≡ s.requested.keys → t.latest ≡ s.latest → IsPrefix (names_in s.files) (names_in t.files) → slot_of (names_in t.files) e ≡ x → AppendsSlotsWithFiles (names_in t.files) s.entries t.entries (slot_of (names_in t.files) e ∷ []) → RepresentsSlots xs s → RepresentsSlots (xs ++ x ∷ []) t
stands_put s t e x xs quiet keys latest begins is taken h =
    stands_taken s t x xs quiet keys latest begins (subst (λ (y : Slot). AppendsSlotsWithFiles (names_in t.files) s.entries t.entries (y ∷ [])) is taken) h

has_last : (ks : List ℕ) (g : ℕ) → list_any (nat_eq g) (distinct_keys ks (g ∷ [])) ≡ true
has_last ks g = grind (arith, common_steps)

pub stands_asked : (s t : Sections) (g : ℕ) (xs : List Slot) → t.requested.keys ≡ distinct_keys s.requested.keys (g ∷ []) → t.latest ≡ Some g → t.entries ≡ s.entries → t.files ≡ s.files → RepresentsSlots xs s → RepresentsSlots (xs ++ resolved (section_request g) ∷ []) t
stands_asked s t g xs keys latest entries files h = record {
  requested = ap section_keys (so_far_more xs (resolved (section_request g))) ∙ asked_more (contents_so_far xs) (section_request g ∷ []) ∙ ap (λ ks. distinct_keys ks (g ∷ [])) h.requested ∙ sym keys;
  latest = subst (λ (o : Option ℕ). HasLatest o t.requested.keys) (sym latest) (ap (list_any (nat_eq g)) keys ∙ has_last s.requested.keys g);
  equivalent =
      slots_trans (xs ++ resolved (section_request g) ∷ []) xs (slots_in (names_in t.files) t.entries) (slots_nothing xs (resolved (section_request g) ∷ []) (held_alike (section_request g ∷ []) [] (empty_alike g true)))
      (subst (λ (es : Entries). AreEquivalentSlots xs (slots_in (names_in t.files) es)) (sym entries)
      (subst (λ (fs : Files). AreEquivalentSlots xs (slots_in (names_in fs) s.entries)) (sym files) h.equivalent));
  standing =
      subst (λ (es : Entries). HaveFilesBelow (length (names_in t.files)) es.done.items) (sym entries)
      (subst (λ (fs : Files). HaveFilesBelow (length (names_in fs)) s.entries.done.items) (sym files) h.standing);
}

-- requesting again the section that was requested last
pub stands_again : (s : Sections) (g : ℕ) (xs : List Slot) → s.latest ≡ Some g → RepresentsSlots xs s → RepresentsSlots (xs ++ resolved (section_request g) ∷ []) s
stands_again s g xs latest h =
    let has : list_any (nat_eq g) s.requested.keys ≡ true = subst (λ (o : Option ℕ). HasLatest o s.requested.keys) latest h.latest in
    stands_asked s s g xs (sym (ap (λ b. if b then s.requested.keys else s.requested.keys ++ g ∷ []) has)) latest refl refl h

-- closing the sections after the last statement
pub stands_closed : (s : Sections) (t : ClosedSections) (xs : List Slot) → t.requested ≡ s.requested → t.files ≡ s.files → AreEquivalentSlots (slots_in (names_in s.files) s.entries) (map (slot_of (names_in s.files)) t.entries.items) → (HaveFilesBelow (length (names_in s.files)) s.entries.done.items → HaveFilesBelow (length (names_in s.files)) t.entries.items) → RepresentsSlots xs s → HasSlots xs t
stands_closed s t xs requested files same standing h = record {
  requested = h.requested ∙ ap (λ k. k.keys) (sym requested);
  equivalent = subst (λ (fs : Files). AreEquivalentSlots xs (map (slot_of (names_in fs)) t.entries.items)) (sym files) (slots_trans xs (slots_in (names_in s.files) s.entries) (map (slot_of (names_in s.files)) t.entries.items) h.equivalent same);
  standing = subst (λ (fs : Files). HaveFilesBelow (length (names_in fs)) t.entries.items) (sym files) (standing h.standing);
}
