-- The sections of an object, and their effect on one segment.
use Rattle.std.proofs.lemmas.Slice.Eq.{bytes_eq-Decides}
use Rattle.std.proofs.lemmas.Grind.{common_steps}
use Rattle.std.proofs.Common.{◌≡◌, ℕ, suc, length, ◌<◌, Bool, true, false, nat_eq, cond, List, [], ◌∷◌, ◌++◌, map, filter, Option, Some, None, Ok, refl, sym, ◌∙◌, ap, subst, arith, zero, slice_get}
use Rattle.std.specs.Prelude.{⊤, ◌&&◌, ◌||◌, unwrap_or}
use Rattle.std.specs.List.{AllByRecursion, list_any}
use Rattle.std.specs.Str.{bytes_eq}
use Rattle.std.proofs.lemmas.Bool.Decides.{nat_tests}
use Rattle.std.proofs.lemmas.List.Folds.{list_any-append}
use Rattle.link65.proofs.SegmentLemmas.{at_front, after_front, none_among as none_found}
use Rattle.semantics65.specs.Contents.{Content, exported_names}
use Rattle.semantics65.specs.Symbols.{LaidOutStatement, needs_section, Symbols}
use Rattle.semantics65.specs.Layout.{Layout, segment_at}
use Rattle.semantics65.specs.Numbering.{all_declarations, number_of, distinct_keys, section_keys, segment_requests, section_of}
use Rattle.semantics65.specs.Module.{module_resolution}
use Rattle.whole65.proofs.Positions.{named, Distinct, alike}
use Rattle.whole65.proofs.Multiples.{equal}
use Rattle.whole65.proofs.Statements.{AreStated, a_line, are_stated, no_line, stated}
use Rattle.whole65.specs.Modules.{table_of}
use Rattle.whole65.specs.Offsets.{HasNoLineErrors}
use Rattle.whole65.specs.Segments.{has_section, segment_name_at, is_in_segment}
use Rattle.object65.specs.declared.object.Origin.{Origin}
use Rattle.object65.specs.declared.object.Section.{Section}
use Rattle.ast65.proofs.Lists.{same_bytes}
use Rattle.syntax65.specs.declared.source_location.SourceLocation.{SourceLocation}
use Rattle.semantics65.specs.declared.contents.Segment.{Segment}
use Rattle.semantics65.specs.Numbering as numbering
use Rattle.link65.specs.Programs.{segment_with_section, Module, Program, member, no_program, with_module, with_modules, Segment as LinkedSegment, segment_of, with_section, with_sections}
use Rattle.link65.specs.Programs as linked
use Rattle.whole65.proofs.LinkedObjects.{after_sections, or_empty, after_modules}

-- ---- Keys without repetitions.

abbrev pub with_key : List ℕ → ℕ → List ℕ
with_key found k = cond (list_any (nat_eq k) found) found (found ++ k ∷ [])

swapped : (n m : ℕ) → nat_eq n m ≡ false → nat_eq m n ≡ false
swapped n m e = grind (arith, nat_tests)

pub or_false : (b : Bool) → (b || false) ≡ b
or_false x1 = grind (arith, common_steps)

pub or_true : (b : Bool) → (b || true) ≡ true
or_true x1 = grind (arith, common_steps)

pub neither : (a b : Bool) → (a || b) ≡ false → (a ≡ false) × (b ≡ false)
neither x1 b e = grind (arith, common_steps)

pub held : (p : ℕ → Bool) (k : ℕ) (ks : List ℕ) → list_any (nat_eq k) ks ≡ true → p k ≡ true → list_any p ks ≡ true
held p k [] e h = cc
held p k (x ∷ ks) e h = grind (arith, common_steps, (held p k ks), equal, or_true)

any_with : (p : ℕ → Bool) (found : List ℕ) (k : ℕ) → list_any p (with_key found k) ≡ (list_any p found || p k)
any_with p found k = grind (arith, common_steps, held, or_true, or_false, list_any-append)

pub any_once : (p : ℕ → Bool) (found ks : List ℕ) → list_any p (distinct_keys found ks) ≡ (list_any p found || list_any p ks)
any_once p found [] = sym (or_false (list_any p found))
any_once p found (k ∷ ks) = grind (arith, common_steps, any_with, (any_once p (with_key found k) ks))

abbrev pub AreOnce : List ℕ → Type 0
AreOnce [] = ⊤
AreOnce (k ∷ ks) = (list_any (nat_eq k) ks ≡ false) × AreOnce ks

once_push : (ks : List ℕ) (k : ℕ) → AreOnce ks → list_any (nat_eq k) ks ≡ false → AreOnce (ks ++ k ∷ [])
once_push [] k h e = (refl, tt)
once_push (x ∷ ks) k h e = grind (arith, common_steps, (once_push ks k h.1))

pub are_once : (found ks : List ℕ) → AreOnce found → AreOnce (distinct_keys found ks)
are_once found [] h = h
are_once found (k ∷ ks) h = grind (arith, common_steps, once_push, (are_once (with_key found k) ks))

pub all_once : (P : ℕ → Type 0) (found ks : List ℕ) → AllByRecursion P found → AllByRecursion P ks → AllByRecursion P (distinct_keys found ks)
all_once P found [] h all = h
all_once P found (k ∷ ks) h all = grind (arith, common_steps, (all_once P (with_key found k) ks))

-- ---- The number of a key.

pub number_first : (ks : List ℕ) (k g : ℕ) → nat_eq g k ≡ true → number_of (k ∷ ks) g ≡ 0
number_first ks k g e = ap (λ o. unwrap_or o 0) (at_front (nat_eq g) k ks e)

pub number_later : (ks : List ℕ) (k g : ℕ) → nat_eq g k ≡ false → list_any (nat_eq g) ks ≡ true → number_of (k ∷ ks) g ≡ suc (number_of ks g)
number_later ks k g e h = grind (arith, common_steps, after_front, none_found)

-- ---- Requested sections.

lines_asked : (z : Symbols) (names : List (List ℕ)) (ls : List LaidOutStatement) (cs : List Content) → AreStated z names ls cs → segment_requests cs ≡ map (λ l. l.context.segment) (filter (λ l. needs_section l.stated) ls)
lines_asked z names [] _ no_line = refl
lines_asked z names (l ∷ ls) _ (a_line ds cs found more) = grind (arith, common_steps, (stated z names l ds found), (lines_asked z (names ++ exported_names (all_declarations ds)) ls cs more))

-- a module's contents request the segments of the statements that need a section
pub asked_are : (y : Layout) (cs : List Content) → (module_resolution y.laid).found ≡ Ok cs → segment_requests cs ≡ map (λ l. l.context.segment) (filter (λ l. needs_section l.stated) y.laid)
asked_are y cs e = lines_asked (table_of y) [] y.laid cs (are_stated y cs e)

asked_there : (y : Layout) (name : List ℕ) (ls : List LaidOutStatement) → list_any (λ l. is_in_segment y name l && needs_section l.stated) ls ≡ list_any (λ g. bytes_eq (segment_name_at y g) name) (map (λ l. l.context.segment) (filter (λ l. needs_section l.stated) ls))
asked_there y name [] = refl
asked_there y name (l ∷ ls) = grind (arith, common_steps, (asked_there y name ls))

below_all : (bound : ℕ) (ls : List LaidOutStatement) → AllByRecursion (λ l. l.context.segment < bound) ls → AllByRecursion (λ g. g < bound) (map (λ l. l.context.segment) (filter (λ l. needs_section l.stated) ls))
below_all bound [] h = tt
below_all bound (l ∷ ls) h = grind (arith, common_steps, (below_all bound ls h.1))

-- the keys of a module's sections
pub record AreKeys (y : Layout) (keys : List ℕ) : Type 0 where
  pub single : AreOnce keys
  pub standing : AllByRecursion (λ g. g < length y.cursor.segments) keys
  pub has : (name : List ℕ) → has_section y name ≡ list_any (λ g. bytes_eq (segment_name_at y g) name) keys

pub keys_of : (y : Layout) (cs : List Content) → HasNoLineErrors y → (module_resolution y.laid).found ≡ Ok cs → AreKeys y (section_keys cs)
keys_of y cs d e =
    let asked = asked_are y cs e in
    record {
      single = are_once [] (segment_requests cs) tt;
      standing = all_once (λ g. g < length y.cursor.segments) [] (segment_requests cs) tt (subst (AllByRecursion (λ g. g < length y.cursor.segments)) (sym asked) (below_all (length y.cursor.segments) y.laid (named d).standing));
      has = λ name. asked_there y name y.laid ∙ ap (list_any (λ g. bytes_eq (segment_name_at y g) name)) (sym asked) ∙ sym (any_once (λ g. bytes_eq (segment_name_at y g) name) [] (segment_requests cs));
    }

-- ---- The effect of an object's sections on one segment.

pub name_at : (gs : List Segment) (g : ℕ) → g < length gs → numbering.segment_name (slice_get gs g) ≡ (segment_at gs g).name
name_at [] g lt = absurd (omega (arith, lt))
name_at (x ∷ gs) zero lt = refl
name_at (x ∷ gs) (suc g) lt = name_at gs g (omega (arith, lt))

module _ (y : Layout) (owner : ℕ) (origins : SourceLocation → Origin) (sections imports : List ℕ) (cs : List Content) (name : List ℕ) where
  abbrev pub its_section : ℕ → Section
  its_section g = section_of origins y.cursor.segments sections imports cs g

  abbrev is_named : ℕ → Bool
  is_named g = bytes_eq (segment_name_at y g) name

  section_named : (g : ℕ) → g < length y.cursor.segments → bytes_eq (its_section g).name name ≡ is_named g
  section_named g lt = ap (λ n. bytes_eq n name) (name_at y.cursor.segments g lt)

  pub none_there : (ks : List ℕ) → AllByRecursion (λ g. g < length y.cursor.segments) ks → list_any is_named ks ≡ false → (g : Option linked.Segment) → after_sections owner name g (map its_section ks) ≡ g
  none_there [] h e g = refl
  none_there (k ∷ ks) h e g = grind (arith, common_steps, section_named, (none_there ks h.1))

  -- if a key has the name and isn't among the keys, none of the keys has the name
  others_apart : (k : ℕ) → Distinct y.cursor.segments → k < length y.cursor.segments → is_named k ≡ true → (ks : List ℕ) → AllByRecursion (λ g. g < length y.cursor.segments) ks → list_any (nat_eq k) ks ≡ false → list_any is_named ks ≡ false
  others_apart k d lt e [] h apart = refl
  others_apart k d lt e (x ∷ ks) h apart = grind (arith, common_steps, (others_apart k d lt e ks h.1), (bytes_eq-Decides (segment_name_at y k) name), (bytes_eq-Decides (segment_name_at y x) name), (bytes_eq-Decides (segment_name_at y k) (segment_name_at y x)))

  -- one section of the module is appended to the segment
  pub record IsGrown (ks : List ℕ) (g : Option linked.Segment) : Type 0 where
    pub key : ℕ
    pub among : list_any (nat_eq key) ks ≡ true
    pub below : key < length y.cursor.segments
    pub called : segment_name_at y key ≡ name
    pub is : after_sections owner name g (map its_section ks) ≡ Some (segment_with_section owner (or_empty name g) (its_section key))

  pub one_there : (ks : List ℕ) → Distinct y.cursor.segments → AllByRecursion (λ g. g < length y.cursor.segments) ks → AreOnce ks → list_any is_named ks ≡ true → (g : Option linked.Segment) → IsGrown ks g
  one_there [] d h o e g = cc
  one_there (k ∷ ks) d h o e g = go (is_named k) refl e (λ e. one_there ks d h.1 o.1 e g)
    where
      go : (b : Bool) → is_named k ≡ b → (b || list_any is_named ks) ≡ true → (list_any is_named ks ≡ true → IsGrown ks g) → IsGrown (k ∷ ks) g
      go true q e more =
          let same : (its_section k).name ≡ name = same_bytes (its_section k).name name (section_named k h.0 ∙ q) in
          record {
            key = k;
            among = ap (λ b. b || list_any (nat_eq k) ks) (alike k);
            below = h.0;
            called = same_bytes (segment_name_at y k) name q;
            is =
                ap (λ b. after_sections owner name (cond b (Some (segment_with_section owner (or_empty (its_section k).name g) (its_section k))) g) (map its_section ks)) (section_named k h.0 ∙ q)
                ∙ none_there ks h.1 (others_apart k d h.0 q ks h.1 o.0) (Some (segment_with_section owner (or_empty (its_section k).name g) (its_section k)))
                ∙ ap (λ n. Some (segment_with_section owner (or_empty n g) (its_section k))) same;
          }
      go false q e more =
          let r = more e in
          record { key = r.key; among = grind (arith, common_steps); below = r.below; called = r.called; is = grind (arith, common_steps, (section_named k h.0)) }

-- ---- Only sections with its name change a segment.

-- a segment if it has the name, otherwise another one
abbrev first : List ℕ → LinkedSegment → Option LinkedSegment → Option LinkedSegment
first name g other = cond (bytes_eq g.name name) (Some g) other

pub one_section : (owner : ℕ) (gs : List LinkedSegment) (s : Section) (name : List ℕ) → segment_of (with_section owner gs s) name ≡ cond (bytes_eq s.name name) (Some (segment_with_section owner (or_empty s.name (segment_of gs name)) s)) (segment_of gs name)
one_section owner [] s name = refl
one_section owner (g ∷ gs) s name = grind (arith, common_steps, (one_section owner gs s name), bytes_eq-Decides)

pub all_sections : (owner : ℕ) (gs : List LinkedSegment) (ss : List Section) (name : List ℕ) → segment_of (with_sections owner gs ss) name ≡ after_sections owner name (segment_of gs name) ss
all_sections owner gs [] name = refl
all_sections owner gs (s ∷ ss) name = grind (arith, common_steps, one_section, (all_sections owner (with_section owner gs s) ss name))

all_modules : (p : Program) (ms : List Module) (name : List ℕ) → segment_of (with_modules p ms).segments name ≡ after_modules (length p.members) name (segment_of p.segments name) ms
all_modules p [] name = refl
all_modules p (m ∷ ms) name = grind (arith, common_steps, all_sections, (all_modules (with_module p m) ms name))

-- a segment of the linked modules is the result of appending the sections with its name, in the order of the modules
pub segment_law : (ms : List Module) (name : List ℕ) → segment_of (linked.program_of ms).segments name ≡ after_modules 0 name None ms
segment_law ms name = all_modules no_program ms name
