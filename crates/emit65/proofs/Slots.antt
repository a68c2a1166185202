-- Equivalent slots, and their resolutions.
use Rattle.std.proofs.lemmas.Grind.{common_steps}
use Rattle.std.proofs.Common.{◌≡◌, ◌∙◌, ℕ, Bool, true, false, List, [], ◌∷◌, ◌++◌, map, refl, sym, ap, subst, append-nil, append_assoc, arith}
use Rattle.std.specs.Prelude.{Result, Ok, Err, IfOk, filter, if◌then◌else◌}
use Rattle.std.proofs.lemmas.List.{map-append}
use Rattle.std.proofs.lemmas.List.Elements.{filter-append}
use Rattle.base65.specs.Outcome.{◌>>=◌}
use Rattle.ast65.specs.declared.fault.AsmFault.{AsmFault}
use Rattle.syntax65.specs.declared.source_location.SourceLocation.{SourceLocation}
use Rattle.semantics65.specs.Contents.{Content, exported_names}
use Rattle.semantics65.specs.Module.{PieceResult, unrepeated_result, Resolution, Fixup, Slot, declarations_result, piece_result, slot_result, result_then, resolved, is_repeated, without_warning, resolution_of, deferred, LocatedFault, with_location}
use Rattle.semantics65.specs.Numbering.{all_declarations, distinct_keys, section_keys, segment_requests}
use Rattle.semantics65.specs.Symbols.{Symbols}
use Rattle.semantics65.proofs.SlotResolution.{AreFound, after, found_all, found_each, names_append, nothing_after, asks_none, made_asks}
use Rattle.emit65.specs.SectionContents.{AreEquivalentContents, AreEquivalentResults, AreEquivalentSlots, AreEquivalentResolutions, contents_so_far, content_so_far}
use Rattle.emit65.proofs.EquivalentContents.{alike_back, alike_front, alike_same, alike_sym, alike_trans}
use Rattle.emit65.proofs.Keys.{once_append}

-- ---- The resolution of concatenated slots.

-- a result, followed by the resolution of the slots after it
abbrev and_then : Result (List Content) LocatedFault → List ℕ → (List Content → Resolution) → Resolution
and_then (Ok cs) printed rest = after (found_all cs printed) (rest cs)
and_then (Err e) printed rest = record { found = Err e; printed_warnings = printed }

abbrev following : Resolution → (List Content → Resolution) → Resolution
following a rest = and_then a.found a.printed_warnings rest

found_after : (m : PieceResult) (cs : List Content) (printed : List ℕ) (r : Resolution) → result_then (Ok m) (λ k. after (found_all cs printed) r) ≡ after (found_all (m.content ∷ cs) (m.warning ++ printed)) r
found_after m cs printed r = by r.found
  where
    by : (f : Result (List Content) LocatedFault) → result_then (Ok m) (λ k. after (found_all cs printed) (record { found = f; printed_warnings = r.printed_warnings })) ≡ after (found_all (m.content ∷ cs) (m.warning ++ printed)) (record { found = f; printed_warnings = r.printed_warnings })
    by (Ok ds) = ap (λ (w : List ℕ). found_all (m.content ∷ (cs ++ ds)) w) (sym (append_assoc m.warning printed r.printed_warnings))
    by (Err e) = ap (λ (w : List ℕ). record { found = Err e; printed_warnings = w }) (sym (append_assoc m.warning printed r.printed_warnings))

-- the resolution of a concatenation: the second part is resolved after the exports of the first
resolved_append : (y : Symbols) (names : List (List ℕ)) (xs zs : List Slot) → resolution_of y names (xs ++ zs) ≡ following (resolution_of y names xs) (λ cs. resolution_of y (names ++ exported_names (all_declarations cs)) zs)
resolved_append y names [] zs = sym (nothing_after (resolution_of y (names ++ []) zs) ∙ ap (λ ns. resolution_of y ns zs) (append-nil names))
resolved_append y names (x ∷ xs) zs = by (slot_result y names x) (λ m. resolved_append y (more m) xs zs)
  where
    rest : List Content → Resolution
    rest cs = resolution_of y (names ++ exported_names (all_declarations cs)) zs

    more : PieceResult → List (List ℕ)
    more m = names ++ exported_names m.content.said

    joined : (m : PieceResult) (f : Result (List Content) LocatedFault) (printed : List ℕ) → result_then (Ok m) (λ k. and_then f printed (λ cs. resolution_of y (more m ++ exported_names (all_declarations cs)) zs)) ≡ following (result_then (Ok m) (λ k. record { found = f; printed_warnings = printed })) rest
    joined m (Err e) printed = refl
    joined m (Ok cs) printed =
        found_after m cs printed (resolution_of y (more m ++ exported_names (all_declarations cs)) zs)
        ∙ ap (λ ns. after (found_all (m.content ∷ cs) (m.warning ++ printed)) (resolution_of y ns zs))
        (append_assoc names (exported_names m.content.said) (exported_names (all_declarations cs)) ∙ ap (λ ns. names ++ ns) (sym (names_append m.content.said (all_declarations cs))))

    by : (r : Result PieceResult LocatedFault) → ((m : PieceResult) → resolution_of y (more m) (xs ++ zs) ≡ following (resolution_of y (more m) xs) (λ cs. resolution_of y (more m ++ exported_names (all_declarations cs)) zs)) → result_then r (λ m. resolution_of y (more m) (xs ++ zs)) ≡ following (result_then r (λ m. resolution_of y (more m) xs)) rest
    by (Err e) one = refl
    by (Ok m) one =
        let r = resolution_of y (more m) xs in
        ap (λ a. result_then (Ok m) (λ k. a)) (one m) ∙ joined m r.found r.printed_warnings

-- ---- Equivalent results.

found_same : (r : Result (List Content) LocatedFault) → AreEquivalentResults r r
found_same x = grind (arith, common_steps, alike_same)

found_trans : (p q r : Result (List Content) LocatedFault) → AreEquivalentResults p q → AreEquivalentResults q r → AreEquivalentResults p r
found_trans x y z h k = grind (arith, common_steps, alike_trans)

found_sym : (q r : Result (List Content) LocatedFault) → AreEquivalentResults q r → AreEquivalentResults r q
found_sym x y h = grind (arith, common_steps, alike_sym)

-- equivalent resolutions, followed by the same rest, are equivalent
come_front : (a b : Resolution) (rest : List Content → Resolution) → ((cs ds : List Content) → all_declarations cs ≡ all_declarations ds → rest cs ≡ rest ds) → AreEquivalentResolutions a b → AreEquivalentResolutions (following a rest) (following b rest)
come_front a b rest same h = by a.found b.found h.found
  where
    one : (cs ds : List Content) → AreEquivalentContents cs ds → (f : Result (List Content) LocatedFault) → AreEquivalentResults (f >>= (λ es. Ok (cs ++ es))) (f >>= (λ es. Ok (ds ++ es)))
    one cs ds k (Ok es) = alike_front cs ds es k
    one cs ds k (Err e) = refl

    by : (q r : Result (List Content) LocatedFault) → AreEquivalentResults q r → AreEquivalentResolutions (and_then q a.printed_warnings rest) (and_then r b.printed_warnings rest)
    by (Ok cs) (Ok ds) k =
        subst (λ (x : Resolution). AreEquivalentResolutions (after (found_all cs a.printed_warnings) x) (after (found_all ds b.printed_warnings) (rest ds))) (sym (same cs ds k.said))
        (record { found = one cs ds k (rest ds).found; printed_warnings = ap (λ w. w ++ (rest ds).printed_warnings) h.printed_warnings })
    by (Ok cs) (Err e) k = absurd k
    by (Err e) (Ok ds) k = absurd k
    by (Err e) (Err f) k = record { found = k; printed_warnings = h.printed_warnings }

-- the same resolution, followed by equivalent ones, gives equivalent ones
come_back : (a : Resolution) (rest more : List Content → Resolution) → ((cs : List Content) → AreEquivalentResolutions (rest cs) (more cs)) → AreEquivalentResolutions (following a rest) (following a more)
come_back a rest more h = by a.found
  where
    one : (cs : List Content) (q r : Result (List Content) LocatedFault) → AreEquivalentResults q r → AreEquivalentResults (q >>= (λ es. Ok (cs ++ es))) (r >>= (λ es. Ok (cs ++ es)))
    one cs (Ok ds) (Ok es) k = alike_back cs ds es k
    one cs (Ok ds) (Err e) k = absurd k
    one cs (Err e) (Ok es) k = absurd k
    one cs (Err e) (Err f) k = k

    by : (f : Result (List Content) LocatedFault) → AreEquivalentResolutions (and_then f a.printed_warnings rest) (and_then f a.printed_warnings more)
    by (Ok cs) = record { found = one cs (rest cs).found (more cs).found (h cs).found; printed_warnings = ap (λ w. a.printed_warnings ++ w) (h cs).printed_warnings }
    by (Err e) = record { found = refl; printed_warnings = refl }

-- ---- Equivalence of slots is an equivalence relation.

pub slots_same : (xs : List Slot) → AreEquivalentSlots xs xs
slots_same xs = record {
  held = alike_same (contents_so_far xs);
  resolutions = λ y names. record { found = found_same (resolution_of y names xs).found; printed_warnings = refl };
}

pub slots_trans : (xs ys zs : List Slot) → AreEquivalentSlots xs ys → AreEquivalentSlots ys zs → AreEquivalentSlots xs zs
slots_trans xs ys zs h k = record {
  held = alike_trans (contents_so_far xs) (contents_so_far ys) (contents_so_far zs) h.held k.held;
  resolutions = λ y names. record {
    found = found_trans (resolution_of y names xs).found (resolution_of y names ys).found (resolution_of y names zs).found (h.resolutions y names).found (k.resolutions y names).found;
    printed_warnings = (h.resolutions y names).printed_warnings ∙ (k.resolutions y names).printed_warnings;
  };
}

pub slots_sym : (xs ys : List Slot) → AreEquivalentSlots xs ys → AreEquivalentSlots ys xs
slots_sym xs ys h = record {
  held = alike_sym (contents_so_far xs) (contents_so_far ys) h.held;
  resolutions = λ y names. record {
    found = found_sym (resolution_of y names xs).found (resolution_of y names ys).found (h.resolutions y names).found;
    printed_warnings = sym (h.resolutions y names).printed_warnings;
  };
}

-- ---- Concatenation.

pub slots_front : (xs ys zs : List Slot) → AreEquivalentSlots xs ys → AreEquivalentSlots (xs ++ zs) (ys ++ zs)
slots_front xs ys zs h = record {
  held =
      subst (λ (cs : List Content). AreEquivalentContents cs (contents_so_far (ys ++ zs))) (sym (map-append content_so_far xs zs))
      (subst (λ (cs : List Content). AreEquivalentContents (contents_so_far xs ++ contents_so_far zs) cs) (sym (map-append content_so_far ys zs))
      (alike_front (contents_so_far xs) (contents_so_far ys) (contents_so_far zs) h.held));
  resolutions = λ y names.
      let rest : List Content → Resolution = λ cs. resolution_of y (names ++ exported_names (all_declarations cs)) zs in
      subst (λ (a : Resolution). AreEquivalentResolutions a (resolution_of y names (ys ++ zs))) (sym (resolved_append y names xs zs))
      (subst (λ (b : Resolution). AreEquivalentResolutions (following (resolution_of y names xs) rest) b) (sym (resolved_append y names ys zs))
      (come_front (resolution_of y names xs) (resolution_of y names ys) rest (λ cs ds declarations. ap (λ ss. resolution_of y (names ++ exported_names ss) zs) declarations) (h.resolutions y names)));
}

pub slots_back : (zs xs ys : List Slot) → AreEquivalentSlots xs ys → AreEquivalentSlots (zs ++ xs) (zs ++ ys)
slots_back zs xs ys h = record {
  held =
      subst (λ (cs : List Content). AreEquivalentContents cs (contents_so_far (zs ++ ys))) (sym (map-append content_so_far zs xs))
      (subst (λ (cs : List Content). AreEquivalentContents (contents_so_far zs ++ contents_so_far xs) cs) (sym (map-append content_so_far zs ys))
      (alike_back (contents_so_far zs) (contents_so_far xs) (contents_so_far ys) h.held));
  resolutions = λ y names.
      let rest : List Slot → List Content → Resolution = λ us cs. resolution_of y (names ++ exported_names (all_declarations cs)) us in
      subst (λ (a : Resolution). AreEquivalentResolutions a (resolution_of y names (zs ++ ys))) (sym (resolved_append y names zs xs))
      (subst (λ (b : Resolution). AreEquivalentResolutions (following (resolution_of y names zs) (rest xs)) b) (sym (resolved_append y names zs ys))
      (come_back (resolution_of y names zs) (rest xs) (rest ys) (λ cs. h.resolutions y (names ++ exported_names (all_declarations cs)))));
}

-- appending slots that are equivalent to none changes nothing
pub slots_nothing : (xs zs : List Slot) → AreEquivalentSlots zs [] → AreEquivalentSlots (xs ++ zs) xs
slots_nothing xs zs h = slots_trans (xs ++ zs) (xs ++ []) xs (slots_back xs zs [] h) (rw (append-nil xs) (slots_same xs))

-- ---- Resolved slots.

pub held_contents : (cs : List Content) → contents_so_far (map resolved cs) ≡ cs
held_contents [] = refl
held_contents (c ∷ cs) = ap (λ ds. c ∷ ds) (held_contents cs)

-- the resolution of resolved slots is their contents, without warnings
held_found : (y : Symbols) (names : List (List ℕ)) (cs : List Content) → resolution_of y names (map resolved cs) ≡ found_all cs []
held_found y names [] = refl
held_found y names (c ∷ cs) = ap (λ r. result_then (Ok (without_warning c)) (λ m. r)) (held_found y (names ++ exported_names c.said) cs)

pub held_alike : (cs ds : List Content) → AreEquivalentContents cs ds → AreEquivalentSlots (map resolved cs) (map resolved ds)
held_alike cs ds h = record {
  held =
      subst (λ (es : List Content). AreEquivalentContents es (contents_so_far (map resolved ds))) (sym (held_contents cs))
      (subst (λ (es : List Content). AreEquivalentContents cs es) (sym (held_contents ds)) h);
  resolutions = λ y names.
      subst (λ (a : Resolution). AreEquivalentResolutions a (resolution_of y names (map resolved ds))) (sym (held_found y names cs))
      (subst (λ (b : Resolution). AreEquivalentResolutions (found_all cs []) b) (sym (held_found y names ds)) (record { found = h; printed_warnings = refl }));
}

-- ---- Requests for sections.

pub asked_more : (cs ds : List Content) → section_keys (cs ++ ds) ≡ distinct_keys (section_keys cs) (segment_requests ds)
asked_more cs ds = grind (arith, common_steps, filter-append, map-append, once_append)

-- appending a content that requests no section preserves the requested sections
pub asked_same : (cs : List Content) (c : Content) → c.requests_section ≡ false → section_keys (cs ++ c ∷ []) ≡ section_keys cs
asked_same cs c quiet = asked_more cs (c ∷ []) ∙ ap (λ b. distinct_keys (section_keys cs) (map (λ (d : Content). d.segment) (if b then c ∷ [] else []))) quiet

one_asks : (c : Content) (cs ds : List Content) → segment_requests cs ≡ segment_requests ds → segment_requests (c ∷ cs) ≡ segment_requests (c ∷ ds)
one_asks c cs ds same = grind (arith, common_steps)

-- a content that requests no section adds no request
unasked : (c : Content) (cs : List Content) → c.requests_section ≡ false → segment_requests (c ∷ cs) ≡ segment_requests cs
unasked c cs quiet = ap (λ b. map (λ (d : Content). d.segment) (if b then c ∷ filter (λ (d : Content). d.requests_section) cs else filter (λ (d : Content). d.requests_section) cs)) quiet

quiet_at : (location : SourceLocation) (r : Result PieceResult AsmFault) (m : PieceResult) → IfOk r asks_none → with_location location r ≡ Ok m → m.content.requests_section ≡ false
quiet_at location (Ok k) m h e = let same : k ≡ m = cc in subst asks_none same h
quiet_at location (Err f) m h e = absurd cc

-- the content of a deferred slot requests no section
waits_quiet : (y : Symbols) (names : List (List ℕ)) (w : Fixup) (m : PieceResult) → slot_result y names (deferred w) ≡ Ok m → m.content.requests_section ≡ false
waits_quiet y names w m = quiet_at w.place (piece_result y names w.place w.context w.piece) m (by (is_repeated names w.piece))
  where
    by : (b : Bool) → IfOk (if b then declarations_result [] else unrepeated_result y w.place w.context w.piece) asks_none
    by true = refl
    by false = made_asks y w.place w.context w.piece

asked_found : (y : Symbols) (names : List (List ℕ)) (xs : List Slot) (cs : List Content) → AreFound y names xs cs → segment_requests cs ≡ segment_requests (contents_so_far xs)
asked_found y names [] [] h = refl
asked_found y names [] (c ∷ cs) h = absurd h
asked_found y names (x ∷ xs) [] h = absurd h
asked_found y names (resolved d ∷ xs) (c ∷ cs) (warning, made, h) =
    let first : without_warning d ≡ record { content = c; warning = warning } = cc in
    let same : d ≡ c = ap (λ (m : PieceResult). m.content) first in
    one_asks c cs (contents_so_far xs) (asked_found y (names ++ exported_names c.said) xs cs h) ∙ ap (λ e. segment_requests (e ∷ contents_so_far xs)) (sym same)
asked_found y names (deferred w ∷ xs) (c ∷ cs) (warning, made, h) =
    unasked c cs (waits_quiet y names w (record { content = c; warning = warning }) made) ∙ asked_found y (names ++ exported_names c.said) xs cs h

-- the resolution of slots has the sections that the slots requested
pub keys_found : (y : Symbols) (names : List (List ℕ)) (xs : List Slot) (cs : List Content) → (resolution_of y names xs).found ≡ Ok cs → section_keys cs ≡ section_keys (contents_so_far xs)
keys_found y names xs cs h = ap (distinct_keys []) (asked_found y names xs cs (found_each y names xs cs h))

-- ---- Resolutions of equivalent slots.

-- the slots are resolved to contents that are equivalent to these, with the same warnings
pub record ComesAlike (y : Symbols) (names : List (List ℕ)) (xs : List Slot) (ds : List Content) (printed : List ℕ) : Type 0 where
  pub contents : List Content
  pub is : resolution_of y names xs ≡ found_all contents printed
  pub equivalent : AreEquivalentContents contents ds

pub comes_alike : (y : Symbols) (names : List (List ℕ)) (xs ys : List Slot) (ds : List Content) (printed : List ℕ) → AreEquivalentSlots xs ys → resolution_of y names ys ≡ found_all ds printed → ComesAlike y names xs ds printed
comes_alike y names xs ys ds printed alike is =
    let come : AreEquivalentResolutions (resolution_of y names xs) (found_all ds printed) = subst (λ (b : Resolution). AreEquivalentResolutions (resolution_of y names xs) b) is (alike.resolutions y names) in
    by (resolution_of y names xs).found refl come.found come.printed_warnings
  where
    by : (f : Result (List Content) LocatedFault) → (resolution_of y names xs).found ≡ f → AreEquivalentResults f (Ok ds) → (resolution_of y names xs).printed_warnings ≡ printed → ComesAlike y names xs ds printed
    by (Ok cs) found h warned = record { contents = cs; is = λ n. record { found = found n; printed_warnings = warned n }; equivalent = h }
    by (Err e) found h warned = absurd h

-- the case of an error: it is the same for equivalent slots
pub faulty_alike : (y : Symbols) (names : List (List ℕ)) (xs ys : List Slot) (f : LocatedFault) (printed : List ℕ) → AreEquivalentSlots xs ys → resolution_of y names ys ≡ record { found = Err f; printed_warnings = printed } → resolution_of y names xs ≡ record { found = Err f; printed_warnings = printed }
faulty_alike y names xs ys f printed alike is =
    let come : AreEquivalentResolutions (resolution_of y names xs) (record { found = Err f; printed_warnings = printed }) = subst (λ (b : Resolution). AreEquivalentResolutions (resolution_of y names xs) b) is (alike.resolutions y names) in
    by (resolution_of y names xs).found refl come.found come.printed_warnings
  where
    by : (r : Result (List Content) LocatedFault) → (resolution_of y names xs).found ≡ r → AreEquivalentResults r (Err f) → (resolution_of y names xs).printed_warnings ≡ printed → resolution_of y names xs ≡ record { found = Err f; printed_warnings = printed }
    by (Ok cs) found h warned = absurd h
    by (Err e) found h warned =
        let lost : LocatedFault → List ℕ → Resolution = λ g w. record { found = Err g; printed_warnings = w } in
        (λ n. record { found = found n; printed_warnings = warned n }) ∙ ap (λ g. lost g printed) h
