-- Appending bytes in one call has the same effect as appending them in several calls.
use Rattle.std.proofs.Common.{◌≡◌, ◌∙◌, ℕ, List, [], ◌∷◌, ◌++◌, map, refl, sym, ap}
use Rattle.std.specs.List.{flat_map}
use Rattle.std.proofs.lemmas.List.{map-append}
use Rattle.semantics65.specs.Contents.{Content, Known, section_part}
use Rattle.semantics65.specs.Module.{Slot, resolved}
use Rattle.semantics65.specs.Numbering.{distinct_keys, section_keys, segment_requests}
use Rattle.emit65.specs.declared.sections.Sections.{Sections}
use Rattle.emit65.specs.SectionContents.{AreEquivalentContents, AreEquivalentSlots, contents_so_far, names_in, slots_in, content_so_far, AppendsSlot, RepresentsSlots}
use Rattle.emit65.proofs.EquivalentContents.{alike_back, alike_sym, alike_trans, bytes_alike, no_bytes_alike}
use Rattle.emit65.proofs.Slots.{asked_more, held_alike, held_contents, slots_back, slots_sym, slots_trans}

-- sections also represent equivalent slots that request the same sections
pub alike_stands : (xs ys : List Slot) (s : Sections) → AreEquivalentSlots xs ys → section_keys (contents_so_far xs) ≡ section_keys (contents_so_far ys) → RepresentsSlots xs s → RepresentsSlots ys s
alike_stands xs ys s alike keys h = record {
  requested = sym keys ∙ h.requested;
  latest = h.latest;
  equivalent = slots_trans ys xs (slots_in (names_in s.files) s.entries) (slots_sym xs ys alike) h.equivalent;
  standing = h.standing;
}

-- the same for resolved slots after others, if the requests for sections are equal
pub held_stand : (xs : List Slot) (cs ds : List Content) (s : Sections) → AreEquivalentContents cs ds → segment_requests cs ≡ segment_requests ds → RepresentsSlots (xs ++ map resolved cs) s → RepresentsSlots (xs ++ map resolved ds) s
held_stand xs cs ds s alike asks h =
    alike_stands (xs ++ map resolved cs) (xs ++ map resolved ds) s (slots_back xs (map resolved cs) (map resolved ds) (held_alike cs ds alike))
    (keys cs ∙ ap (distinct_keys (section_keys (contents_so_far xs))) asks ∙ sym (keys ds))
    h
  where
    keys : (es : List Content) → section_keys (contents_so_far (xs ++ map resolved es)) ≡ distinct_keys (section_keys (contents_so_far xs)) (segment_requests es)
    keys es =
        ap section_keys (map-append content_so_far xs (map resolved es))
        ∙ ap (λ ds. section_keys (contents_so_far xs ++ ds)) (held_contents es)
        ∙ asked_more (contents_so_far xs) es

-- ---- Bytes in one call.

-- one content for the bytes of each element
abbrev pub runs : {A : Type 0} → ℕ → (A → List ℕ) → List A → List Content
runs g f xs = map (λ x. section_part g (Known (f x))) xs

runs_alike : {A : Type 0} (g : ℕ) (f : A → List ℕ) (xs : List A) → AreEquivalentContents (section_part g (Known (flat_map f xs)) ∷ []) (runs g f xs)
runs_alike g f [] = no_bytes_alike g
runs_alike g f (x ∷ xs) =
    alike_trans (section_part g (Known (f x ++ flat_map f xs)) ∷ []) (section_part g (Known (f x)) ∷ section_part g (Known (flat_map f xs)) ∷ []) (runs g f (x ∷ xs))
    (alike_sym _ _ (bytes_alike g (f x) (flat_map f xs)))
    (alike_back (section_part g (Known (f x)) ∷ []) (section_part g (Known (flat_map f xs)) ∷ []) (runs g f xs) (runs_alike g f xs))

runs_ask : {A : Type 0} (g : ℕ) (f : A → List ℕ) (xs : List A) → segment_requests (runs g f xs) ≡ []
runs_ask g f [] = refl
runs_ask g f (x ∷ xs) = runs_ask g f xs

-- appending the bytes of all elements in one call has the same effect as appending them element by element
pub runs_stand : {A : Type 0} (g : ℕ) (f : A → List ℕ) (xs : List A) (old new : Sections) → AppendsSlot old new (resolved (section_part g (Known (flat_map f xs)))) → (ys : List Slot) → RepresentsSlots ys old → RepresentsSlots (ys ++ map resolved (runs g f xs)) new
runs_stand g f xs old new feeds ys h = held_stand ys (section_part g (Known (flat_map f xs)) ∷ []) (runs g f xs) new (runs_alike g f xs) (sym (runs_ask g f xs)) (feeds ys h)
