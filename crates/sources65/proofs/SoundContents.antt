-- The contents of a well-formed layout are well-formed.
use Rattle.std.proofs.lemmas.Grind.{common_steps}
use Rattle.std.proofs.Common.{◌≡◌, ◌∙◌, ℕ, suc, ◌+◌, ◌<◌, Bool, true, false, nat_eq, refl, sym, ap, subst, arith, List, [], ◌∷◌, ◌++◌, append_assoc, length, map, take, slice_get, Option, Some, None, Result, Ok, Err}
use Rattle.std.specs.Prelude.{⊤, IfOk, sum_by, if◌then◌else◌}
use Rattle.std.specs.List.{AllByRecursion, list_any, flat_map}
use Rattle.std.specs.Str.{bytes_eq}
use Rattle.std.proofs.lemmas.List.{append-nil}
use Rattle.std.proofs.lemmas.List.Sums.{sum_by-append, sum_by-cons}
use Rattle.base65.specs.Outcome.{◌>>=◌}
use Rattle.syntax65.specs.declared.source_location.SourceLocation.{SourceLocation}
use Rattle.object65.specs.Form.{Form}
use Rattle.object65.specs.Objects.{are_names, is_file_name, is_name}
use Rattle.base65.specs.declared.action.Action.{Action}
use Rattle.object65.proofs.ReachedStates.{names_push}
use Rattle.semantics65.specs.Contents.{Content, ExportedSymbol, Part, section_request, decided_assertion, export_declarations, exported_names, import_fault, operand_form, value_part, declaration_content, with_file_name_check}
use Rattle.semantics65.specs.Symbols.{LaidOutStatement, needs_section, definition_index, Symbols, import_index, imports_of, named, symbols_of, with_new_names}
use Rattle.semantics65.specs.declared.contexts.Context.{Context}
use Rattle.ast65.specs.declared.fault.AsmFault.{AsmFault}
use Rattle.ast65.specs.declared.fault.AsmFault.TheVariants.{FileNameTooLong}
use Rattle.ast65.specs.declared.language.Statement.{Statement}
use Rattle.sources65.specs.Machine.{ContentsAreWellFormed}
use Rattle.semantics65.specs.Module.{PieceResult, Piece, Purpose, Slot, undefined_export_result, part_result, declarations_result, asserted, slot_result, datum, forced_import, constant_definition, exported, failed_assertion_text, known_part, resolved, unrepeated_result, pieces_of, without_warning, slots_of, value_result, expression_value, deferred_piece, deferred, with_location}
use Rattle.semantics65.specs.Module as purpose
use Rattle.semantics65.specs.Norms.{defined_form, norm_of}
use Rattle.semantics65.specs.Numbering.{all_declarations, distinct_keys, parts_in, section_keys, segment_requests, IsMeasured, IsWellFormedStatement, IsWellFormedContent, part_len, statements_in}
use Rattle.semantics65.proofs.SlotResolution.{AreFound, found_all_so, found_each, found_split, names_append}
use Rattle.sources65.proofs.SoundForms.{Asks, all_append, definitions_pass, well_then}
use Rattle.sources65.proofs.SoundParts.{IsKnown, any_ok, asked_in, below, content_is, if_found, placed_ok, slots_long}
use Rattle.sources65.proofs.SoundPieces.{IsSoundPiece, IsWellMade, names_all, piece_sound, pieces_sound}
use Rattle.sources65.proofs.Resolving.{new_append}

-- ---- Keys without repetitions.

known_key : (found : List ℕ) (g k : ℕ) → asked_in found g ≡ true → asked_in (if list_any (nat_eq k) found then found else found ++ k ∷ []) g ≡ true
known_key found g k h = grind (arith, common_steps)

new_key : (found : List ℕ) (g k : ℕ) → nat_eq g k ≡ true → asked_in (if list_any (nat_eq k) found then found else found ++ k ∷ []) g ≡ true
new_key found g k e = grind (arith, common_steps)

kept : (ks found : List ℕ) (g : ℕ) → asked_in found g ≡ true → asked_in (distinct_keys found ks) g ≡ true
kept [] found g h = h
kept (k ∷ ks) found g h = kept ks (if list_any (nat_eq k) found then found else found ++ k ∷ []) g (known_key found g k h)

once_holds : (ks found : List ℕ) (g : ℕ) → asked_in ks g ≡ true → asked_in (distinct_keys found ks) g ≡ true
once_holds [] found g h = absurd cc
once_holds (k ∷ ks) found g h = grind (arith, common_steps, (once_holds ks (if list_any (nat_eq k) found then found else found ++ k ∷ []) g), asked_in, kept, new_key)

-- ---- Names of imports.

new_names : (ns known : List (List ℕ)) → are_names known ≡ true → AllByRecursion (λ n. is_name n ≡ true) ns → are_names (with_new_names known ns) ≡ true
new_names [] known h all = h
new_names (n ∷ ns) known h (good, all) = new_names ns (if list_any (λ k. bytes_eq n k) known then known else known ++ n ∷ []) (go (list_any (λ k. bytes_eq n k) known) refl) all
  where
    go : (b : Bool) → list_any (λ k. bytes_eq n k) known ≡ b → are_names (if b then known else known ++ n ∷ []) ≡ true
    go true e = h
    go false e = names_push known n h good e

imports_named : (x : Statement) → IsWellFormedStatement x → AllByRecursion (λ n. is_name n ≡ true) (imports_of x)
imports_named x1 h = grind (arith, common_steps, names_all)

all_names : (ls : List LaidOutStatement) (known : List (List ℕ)) → are_names known ≡ true → AllByRecursion (λ l. IsWellFormedStatement l.stated) ls → are_names (with_new_names known (flat_map (λ l. imports_of l.stated) ls)) ≡ true
all_names [] known h all = h
all_names (x ∷ ls) known h (sound, all) =
    ap are_names (new_append known (imports_of x.stated) (flat_map (λ l. imports_of l.stated) ls))
    ∙ all_names ls (with_new_names known (imports_of x.stated)) (new_names (imports_of x.stated) known h (imports_named x.stated sound)) all

imports_below : (y : Symbols) (n : List ℕ) (k : ℕ) → import_index y n ≡ Some k → below (length y.imports) k ≡ true
imports_below y n k e = grind (arith, common_steps)

-- ---- Section requests.

asks_more : (q r : ℕ → Bool) → ((g : ℕ) → q g ≡ true → r g ≡ true) → (ls : List LaidOutStatement) → AllByRecursion (Asks q) ls → AllByRecursion (Asks r) ls
asks_more q r h [] every = tt
asks_more q r h (l ∷ ls) (a, every) = ((λ e. h l.context.segment (a e)), asks_more q r h ls every)

asked_more : (c : Content) (cs : List Content) (g : ℕ) → asked_in (segment_requests cs) g ≡ true → asked_in (segment_requests (c ∷ cs)) g ≡ true
asked_more c cs g h = grind (arith, common_steps)

asked_first : (c : Content) (cs : List Content) → c.requests_section ≡ true → asked_in (segment_requests (c ∷ cs)) c.segment ≡ true
asked_first c cs e = grind (arith, common_steps)

asked_after : (cs ds : List Content) (g : ℕ) → asked_in (segment_requests ds) g ≡ true → asked_in (segment_requests (cs ++ ds)) g ≡ true
asked_after [] ds g h = h
asked_after (c ∷ cs) ds g h = asked_more c (cs ++ ds) g (asked_after cs ds g h)

-- the first content of a statement that needs its section is the request of the section
asks_first : (z : Symbols) (names : List (List ℕ)) (l : LaidOutStatement) (b : Bool) (xs : List Slot) (cs ds : List Content) → b ≡ true → AreFound z names ((if b then resolved (section_request l.context.segment) ∷ [] else []) ++ xs) cs → asked_in (segment_requests (cs ++ ds)) l.context.segment ≡ true
asks_first z names l true xs [] ds e h = absurd h
asks_first z names l true xs (c ∷ cs) ds e (w, made, h) = (let is : section_request l.context.segment ≡ c = content_is (without_warning (section_request l.context.segment)) (record { content = c; warning = w }) made in subst (λ (d : Content). asked_in (segment_requests (d ∷ cs ++ ds)) l.context.segment ≡ true) is (asked_first (section_request l.context.segment) (cs ++ ds) refl))
asks_first z names l false xs cs ds e h = absurd cc

asked_all : (z : Symbols) (names : List (List ℕ)) (ls : List LaidOutStatement) (cs : List Content) → AreFound z names (flat_map slots_of ls) cs → AllByRecursion (Asks (asked_in (segment_requests cs))) ls
asked_all z names [] cs h = tt
asked_all z names (l ∷ ls) cs h =
    let both = found_split z names (slots_of l) (flat_map slots_of ls) cs h in
    let rest = asked_all z (names ++ exported_names (all_declarations both.first)) ls both.last both.following in
    let so : AllByRecursion (Asks (asked_in (segment_requests (both.first ++ both.last)))) (l ∷ ls) = (
      (λ e. asks_first z names l (needs_section l.stated) (map (deferred_piece l) (pieces_of l.length l.encoding l.stated)) both.first both.last e both.before),
      asks_more (asked_in (segment_requests both.last)) (asked_in (segment_requests (both.first ++ both.last))) (λ g e. asked_after both.first both.last g e) ls rest,
    ) in
    subst (λ ds. AllByRecursion (Asks (asked_in (segment_requests ds))) (l ∷ ls)) both.all so

asked_keys : (z : Symbols) (ls : List LaidOutStatement) (cs : List Content) → AreFound z [] (flat_map slots_of ls) cs → AllByRecursion (Asks (asked_in (section_keys cs))) ls
asked_keys z ls cs h = asks_more (asked_in (segment_requests cs)) (asked_in (section_keys cs)) (λ g e. once_holds (segment_requests cs) [] g e) ls (asked_all z [] ls cs h)

-- ---- Contents.

-- the invariant of each statement
record IsSafe (requested : List ℕ) (bound : ℕ) (l : LaidOutStatement) : Type 0 where
  sound : IsWellFormedStatement l.stated
  standing : l.context.segment < bound
  requests_section : Asks (asked_in requested) l

-- the invariant of each slot of such a statement
abbrev IsSafeSlot : List ℕ → ℕ → ℕ → Slot → Type 0
IsSafeSlot requested count bound (resolved c) = IsWellFormedContent requested count c × (c.segment < bound) × (c.said ≡ [])
IsSafeSlot requested count bound (deferred w) = IsSoundPiece requested count w.context w.piece × (w.context.segment < bound)

waiting_safe : (requested : List ℕ) (count bound : ℕ) (l : LaidOutStatement) → l.context.segment < bound → (ps : List Piece) → AllByRecursion (IsSoundPiece requested count l.context) ps → AllByRecursion (IsSafeSlot requested count bound) (map (deferred_piece l) ps)
waiting_safe requested count bound l lt [] h = tt
waiting_safe requested count bound l lt (p ∷ ps) h = ((h.0, lt), waiting_safe requested count bound l lt ps h.1)

asking_safe : (requested : List ℕ) (count bound : ℕ) (l : LaidOutStatement) → l.context.segment < bound → (b : Bool) → AllByRecursion (IsSafeSlot requested count bound) (if b then resolved (section_request l.context.segment) ∷ [] else [])
asking_safe requested count bound l lt true = ((record { parts = tt; said = tt }, lt, refl), tt)
asking_safe requested count bound l lt false = tt

slots_safe : (requested : List ℕ) (count bound : ℕ) (ls : List LaidOutStatement) → AllByRecursion (IsSafe requested bound) ls → AllByRecursion (IsSafeSlot requested count bound) (flat_map slots_of ls)
slots_safe requested count bound [] h = tt
slots_safe requested count bound (l ∷ ls) h =
    let asks : List Slot = if needs_section l.stated then resolved (section_request l.context.segment) ∷ [] else [] in
    let ps = pieces_of l.length l.encoding l.stated in
    all_append (IsSafeSlot requested count bound) (slots_of l) (flat_map slots_of ls)
    (all_append (IsSafeSlot requested count bound) asks (map (deferred_piece l) ps) (asking_safe requested count bound l h.0.standing (needs_section l.stated))
    (waiting_safe requested count bound l h.0.standing ps (pieces_sound requested count l.context l.length l.encoding l.stated h.0.sound h.0.requests_section)))
    (slots_safe requested count bound ls h.1)

-- ---- Exported names are distinct.

-- the names that a piece exports, if any, are new
abbrev IsNew : List (List ℕ) → PieceResult → Type 0
IsNew names m = are_names names ≡ true → are_names (names ++ exported_names m.content.said) ≡ true

no_more : (names : List (List ℕ)) → are_names names ≡ true → are_names (names ++ []) ≡ true
no_more names h = ap are_names (append-nil names) ∙ h

written_new : (names : List (List ℕ)) (n : List ℕ) (location : SourceLocation) (f : Form) → is_name n ≡ true → list_any (bytes_eq n) names ≡ false → IfOk (with_file_name_check location (ExportedSymbol n location f ∷ []) >>= declarations_result) (IsNew names)
written_new names n location f good new = by (is_file_name location.file)
  where
    by : (b : Bool) → IfOk ((if b then Ok (ExportedSymbol n location f ∷ []) else Err FileNameTooLong) >>= declarations_result) (IsNew names)
    by true = λ h. names_push names n h good new
    by false = tt

-- a piece without exports
quiet_new : (names : List (List ℕ)) (r : Result PieceResult AsmFault) → IfOk r (λ m. exported_names m.content.said ≡ []) → IfOk r (IsNew names)
quiet_new names (Ok m) e = λ h. ap (λ ns. are_names (names ++ ns)) e ∙ no_more names h
quiet_new names (Err f) e = tt

part_quiet : (segment : ℕ) (r : Result Part AsmFault) → IfOk (r >>= part_result segment) (λ m. exported_names m.content.said ≡ [])
part_quiet segment (Ok p) = refl
part_quiet segment (Err f) = tt

decided_quiet : (act : Action) (location : SourceLocation) (words : List ℕ) (f : Form) → IfOk (decided_assertion act location words f) (λ ss. exported_names ss ≡ [])
decided_quiet act location words f = grind (arith, common_steps)

used_quiet : (location : SourceLocation) (s : Context) (why : Purpose) (f : Form) → IfOk (value_result location s why f) (λ m. exported_names m.content.said ≡ [])
used_quiet location s (datum width) f = part_quiet s.segment (value_part width location f)
used_quiet location s (purpose.operand width) f = part_quiet s.segment (operand_form width s f >>= value_part width location)
used_quiet location s constant_definition f = refl
used_quiet location s (asserted act words) f = well_then (λ ss. exported_names ss ≡ []) (λ m. exported_names m.content.said ≡ []) (decided_assertion act location words f) (λ ss. Ok (record { content = declaration_content ss; warning = failed_assertion_text location act words (Ok f) })) (decided_quiet act location words f) (λ ss e. e)

import_new : (names : List (List ℕ)) (n : List ℕ) (y : Symbols) → IfOk (import_fault y n >>= declarations_result) (IsNew names)
import_new names n y = by (definition_index y (named 0 n)) refl
  where
    by : (o : Option ℕ) → definition_index y (named 0 n) ≡ o → IfOk (import_fault y n >>= declarations_result) (IsNew names)
    by None e = rw e (no_more names)
    by (Some j) e = rw e tt

export_new : (names : List (List ℕ)) (y : Symbols) (location : SourceLocation) (must : Bool) (n : List ℕ) → is_name n ≡ true → list_any (bytes_eq n) names ≡ false → (o : Option ℕ) → IfOk (export_declarations y location n (undefined_export_result must n) o >>= declarations_result) (IsNew names)
export_new names y location true n good new None = tt
export_new names y location false n good new None = no_more names
export_new names y location must n good new (Some j) = by (defined_form y j)
  where
    by : (r : Result Form AsmFault) → IfOk ((r >>= (λ f. with_file_name_check location (ExportedSymbol n location f ∷ []))) >>= declarations_result) (IsNew names)
    by (Ok f) = written_new names n location f good new
    by (Err f) = tt

-- a deferred piece exports only new names
coming_new : (requested : List ℕ) (count : ℕ) (y : Symbols) (names : List (List ℕ)) (location : SourceLocation) (s : Context) (p : Piece) → IsSoundPiece requested count s p → IfOk (slot_result y names (deferred (record { place = location; context = s; piece = p }))) (IsNew names)
coming_new requested count y names location s (exported must n) good = by (list_any (bytes_eq n) names) refl
  where
    by : (b : Bool) → list_any (bytes_eq n) names ≡ b → IfOk (with_location location (if b then declarations_result [] else unrepeated_result y location s (exported must n))) (IsNew names)
    by true e = no_more names
    by false e = placed_ok (IsNew names) location (unrepeated_result y location s (exported must n)) (export_new names y location must n good e (definition_index y (named 0 n)))
coming_new requested count y names location s (known_part p) good = no_more names
coming_new requested count y names location s (expression_value why e) good =
    placed_ok (IsNew names) location (unrepeated_result y location s (expression_value why e))
    (quiet_new names (unrepeated_result y location s (expression_value why e)) (well_then (λ f. ⊤) (λ m. exported_names m.content.said ≡ []) (norm_of y s e) (value_result location s why) (any_ok (norm_of y s e)) (λ f u. used_quiet location s why f)))
coming_new requested count y names location s (purpose.imported n) good = placed_ok (IsNew names) location (unrepeated_result y location s (purpose.imported n)) (import_new names n y)
coming_new requested count y names location s (forced_import n) good = no_more names

-- a resolved slot has no declarations, and a deferred piece is well-formed
abbrev IsNamedSlot : List ℕ → ℕ → Slot → Type 0
IsNamedSlot requested count (resolved c) = c.said ≡ []
IsNamedSlot requested count (deferred w) = IsSoundPiece requested count w.context w.piece

slot_new : (requested : List ℕ) (count : ℕ) (y : Symbols) (names : List (List ℕ)) (x : Slot) (m : PieceResult) → IsNamedSlot requested count x → slot_result y names x ≡ Ok m → IsNew names m
slot_new requested count y names (resolved c) m e made = (let is : c ≡ m.content = content_is (without_warning c) m made in λ h. ap (λ (d : Content). are_names (names ++ exported_names d.said)) (sym is) ∙ ap (λ ss. are_names (names ++ exported_names ss)) e ∙ no_more names h)
slot_new requested count y names (deferred w) m good made = if_found (IsNew names) (slot_result y names (deferred w)) m made (coming_new requested count y names w.place w.context w.piece good)

all_named : (requested : List ℕ) (count : ℕ) (y : Symbols) (names : List (List ℕ)) (xs : List Slot) (cs : List Content) → AllByRecursion (IsNamedSlot requested count) xs → are_names names ≡ true → AreFound y names xs cs → are_names (names ++ exported_names (all_declarations cs)) ≡ true
all_named requested count y names [] [] all good h = no_more names good
all_named requested count y names [] (c ∷ cs) all good h = absurd h
all_named requested count y names (x ∷ xs) [] all good h = absurd h
all_named requested count y names (x ∷ xs) (c ∷ cs) all good (w, made, h) =
    let one = slot_new requested count y names x (record { content = c; warning = w }) all.0 made good in
    ap are_names (ap (λ ns. names ++ ns) (names_append c.said (all_declarations cs)) ∙ sym (append_assoc names (exported_names c.said) (exported_names (all_declarations cs))))
    ∙ all_named requested count y (names ++ exported_names c.said) xs cs all.1 one h

named_slots : (requested : List ℕ) (count bound : ℕ) (xs : List Slot) → AllByRecursion (IsSafeSlot requested count bound) xs → AllByRecursion (IsNamedSlot requested count) xs
named_slots requested count bound [] h = tt
named_slots requested count bound (resolved c ∷ xs) h = (h.0.2, named_slots requested count bound xs h.1)
named_slots requested count bound (deferred w ∷ xs) h = (h.0.0, named_slots requested count bound xs h.1)

-- the content of each slot is well-formed and in an existing segment
abbrev IsWell : List ℕ → ℕ → ℕ → Content → Type 0
IsWell requested count bound c = IsWellFormedContent requested count c × (c.segment < bound)

slot_well : (requested : List ℕ) (count bound : ℕ) (z : Symbols) → IsKnown requested count z → (names : List (List ℕ)) (x : Slot) (m : PieceResult) → IsSafeSlot requested count bound x → slot_result z names x ≡ Ok m → IsWell requested count bound m.content
slot_well requested count bound z k names (resolved c) m h made = (let is : c ≡ m.content = content_is (without_warning c) m made in subst (IsWell requested count bound) is (h.0, h.1))
slot_well requested count bound z k names (deferred w) m h made =
    let so : IsWellMade requested count w.context m = if_found (IsWellMade requested count w.context) (slot_result z names (deferred w)) m made (piece_sound requested count z k names w.place w.context w.piece h.0) in
    (so.0, (let le = so.1 in let lt = h.1 in omega (arith, le, lt)))

parted : (P Q : Content → Type 0) (cs : List Content) → AllByRecursion (λ c. P c × Q c) cs → AllByRecursion P cs × AllByRecursion Q cs
parted P Q [] h = (tt, tt)
parted P Q (c ∷ cs) h = (let rest = parted P Q cs h.1 in ((h.0.0, rest.0), (h.0.1, rest.1)))

-- if each element at an index satisfies `P`, all elements do
all_places : {A : Type 0} (P : A → Type 0) (xs : List A) → ((i : ℕ) (x : A) → slice_get xs i ≡ Some x → P x) → AllByRecursion P xs
all_places P [] h = tt
all_places P (x ∷ xs) h = (h 0 x refl, all_places P xs (λ i y e. h (suc i) y e))

safe_all : (requested : List ℕ) (bound : ℕ) (ls : List LaidOutStatement) → AllByRecursion (λ l. IsWellFormedStatement l.stated) ls → AllByRecursion (λ l. l.context.segment < bound) ls → AllByRecursion (Asks (asked_in requested)) ls → AllByRecursion (IsSafe requested bound) ls
safe_all requested bound [] s b a = tt
safe_all requested bound (l ∷ ls) (s, ss) (b, bs) (a, every) = (record { sound = s; standing = b; requests_section = a }, safe_all requested bound ls ss bs every)

-- ---- Section sizes.

abbrev IsMeasuredSome : LaidOutStatement → Type 0
IsMeasuredSome l = (before : Symbols) × IsMeasured before l

parts_append : (cs ds : List Content) (g : ℕ) → parts_in (cs ++ ds) g ≡ parts_in cs g ++ parts_in ds g
parts_append cs ds g = grind (arith, common_steps)

length_first : (l : LaidOutStatement) (ls : List LaidOutStatement) (g : ℕ) → sum_by (λ (x : LaidOutStatement). x.length) (statements_in (l ∷ ls) g) ≡ (if nat_eq l.context.segment g then l.length else 0) + sum_by (λ (x : LaidOutStatement). x.length) (statements_in ls g)
length_first l ls g = by (nat_eq l.context.segment g)
  where
    by : (b : Bool) → sum_by (λ (x : LaidOutStatement). x.length) (if b then l ∷ statements_in ls g else statements_in ls g) ≡ (if b then l.length else 0) + sum_by (λ (x : LaidOutStatement). x.length) (statements_in ls g)
    by true = sum_by-cons (λ (x : LaidOutStatement). x.length) l (statements_in ls g)
    by false = omega arith

same_room : (z : Symbols) (names : List (List ℕ)) (g : ℕ) (ls : List LaidOutStatement) (cs : List Content) → AllByRecursion IsMeasuredSome ls → AreFound z names (flat_map slots_of ls) cs → sum_by part_len (parts_in cs g) ≡ sum_by (λ l. l.length) (statements_in ls g)
same_room z names g [] [] m h = refl
same_room z names g [] (c ∷ cs) m h = absurd h
same_room z names g (l ∷ ls) cs m h =
    let both = found_split z names (slots_of l) (flat_map slots_of ls) cs h in
    ap (λ ds. sum_by part_len (parts_in ds g)) (sym both.all)
    ∙ ap (sum_by part_len) (parts_append both.first both.last g) ∙ sum_by-append part_len (parts_in both.first g) (parts_in both.last g)
    ∙ ap (λ n. n + sum_by part_len (parts_in both.last g)) (slots_long z names m.0.0 l g both.first m.0.1 both.before)
    ∙ ap (λ n. (if nat_eq l.context.segment g then l.length else 0) + n) (same_room z (names ++ exported_names (all_declarations both.first)) g ls both.last m.1 both.following)
    ∙ sym (length_first l ls g)

-- ---- All contents.

pub sound_contents : ContentsAreWellFormed
sound_contents = λ y cs s e.
    let z = symbols_of y.laid in
    let count = length z.imports in
    let bound = length y.cursor.segments in
    let requested = section_keys cs in
    let found = found_each z [] (flat_map slots_of y.laid) cs e in
    let asks = asked_keys z y.laid cs found in
    let known : IsKnown requested count z = record { definitions = definitions_pass (asked_in requested) y.laid asks; imports = imports_below z } in
    let measured = all_places IsMeasuredSome y.laid (λ i l at. (symbols_of (take i y.laid), s.measured i l at)) in
    let safe = slots_safe requested count bound y.laid (safe_all requested bound y.laid s.sound s.segments_exist asks) in
    let well = parted (IsWellFormedContent requested count) (λ c. c.segment < bound) cs (found_all_so z (IsSafeSlot requested count bound) (IsWell requested count bound) (slot_well requested count bound z known) [] (flat_map slots_of y.laid) cs safe found) in
    record {
      named = s.named;
      imported = all_names y.laid [] refl s.sound;
      exported = all_named requested count z [] (flat_map slots_of y.laid) cs (named_slots requested count bound (flat_map slots_of y.laid) safe) refl found;
      segments_exist = well.1;
      sections_fit = λ g. (let same : sum_by part_len (parts_in cs g) ≡ sum_by (λ l. l.length) (statements_in y.laid g) = same_room z [] g y.laid cs measured found in let room = s.sections_fit g in omega (arith, same, room));
      contents = well.0;
    }
