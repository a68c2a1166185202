-- The bases of sections and the values of renumbered forms in a link are those of the whole program.
use Rattle.whole65.proofs.SectionBytes.{in_middle}
use Rattle.semantics65.proofs.Segments.{all_same}
use Rattle.std.proofs.lemmas.Grind.{common_steps}
use Rattle.std.proofs.Common.{◌≡◌, List, [], ◌∷◌, ◌++◌, Ok, refl, ◌∙◌, ap, ℕ, zero, suc, ◌+◌, ◌<◌, Bool, true, false, nat_eq, length, map, take, get_or, slice_get, Some, sym, subst, arith, nat_lt}
use Rattle.std.specs.Prelude.{◌+ℤ◌, ℤ, pos, ◌||◌, ◌&&◌, Result}
use Rattle.std.specs.Int.{int_wrap, next_multiple_of}
use Rattle.std.specs.List.{AllByRecursion, list_any, flat_map, list_all}
use Rattle.base65.specs.Values.{wrap_signed}
use Rattle.object65.specs.Form.{lit, sec, imp, prefix, binary, Form}
use Rattle.object65.specs.FormValue.{value_in}
use Rattle.semantics65.specs.Numbering.{imports_in, import_keys, number_of, section_keys, section_of, content_imports, name_of, part_imports, declaration_imports, renumbered_form, sections_in, IsWellFormedContent, IsWellFormedForm, IsWellFormedPart, IsWellFormedDeclaration, IsWellFormedLayout}
use Rattle.std.specs.Str.{bytes_eq}
use Rattle.std.proofs.lemmas.Bool.Decides.{nat_tests}
use Rattle.object65.specs.declared.object.Object.{Object}
use Rattle.object65.specs.declared.object.Origin.{Origin}
use Rattle.object65.specs.declared.object.Section.{Section}
use Rattle.script65.specs.declared.placement.Placement.{Placement}
use Rattle.script65.specs.declared.script.Script.{Script}
use Rattle.syntax65.specs.declared.source_location.SourceLocation.{SourceLocation}
use Rattle.semantics65.specs.Contents.{Content, Part, Declaration}
use Rattle.semantics65.specs.Layout.{Layout}
use Rattle.link65.specs.Programs.{Module, Program, member, no_program, program_of, with_module, with_modules, segment_with_section, section_position, section_positions, segment_of, with_section}
use Rattle.link65.specs.Values.{address_of, linkage_of, module_bindings, run_of, base_of, exports_to_depth, provider_at, import_value, Linkage, value_of_form}
use Rattle.link65.specs.Programs as linked
use Rattle.link65.specs.declared.parts.LinkedModule.{LinkedModule}
use Rattle.link65.specs.declared.parts.SectionPosition.{SectionPosition}
use Rattle.whole65.proofs.Sections.{one_section, AreOnce, held, keys_of, number_first, number_later, any_once, name_at}
use Rattle.whole65.proofs.Positions.{Distinct, named, itself, all_parts}
use Rattle.whole65.proofs.Multiples.{equal, end_of-append}
use Rattle.whole65.proofs.Sources.{contents_of, in_segment, section_begin, same_object, size_law, size_or}
use Rattle.whole65.proofs.LinkedObjects.{or_empty, base_in, symbols_at, IsKeyed, IsKeyedContent, IsKeyedPart, IsKeyedSaid, provider_named, imports_linked, linked_objects}
use Rattle.whole65.specs.Modules.{table_of}
use Rattle.whole65.specs.Offsets.{HasNoLineErrors, section_start_from, statements_with_segment}
use Rattle.whole65.specs.Segments.{end_of, has_section, segment_items_from, segment_items, largest_multiple, module_statements_after, statements_in_segment, module_items, segment_name_at}
use Rattle.whole65.specs.Sources.{AreObjectsOfLayouts, IsObjectOfLayout}
use Rattle.std.proofs.lemmas.List.Folds.{list_any-append}
use Rattle.link65.specs.Names.{provider_of, script_definitions, weak_symbols}
use Rattle.link65.specs.declared.parts.Provider.{Provider}
use Rattle.link65.specs.declared.parts.Provider.TheVariants.{Nobody}
use Rattle.link65.specs.declared.parts.ValueFault.{ValueFault}
use Rattle.link65.specs.declared.parts.ValueFault.TheVariants.{NoValue}
use Rattle.sources65.proofs.SoundContents.{sound_contents}
use Rattle.whole65.proofs.ModuleBytes.{number_law}
use Rattle.script65.specs.declared.script.SegmentRow.{SegmentRow}
use Rattle.script65.specs.declared.placement.RowPlacement.{RowPlacement}
use Rattle.semantics65.specs.Module.{module_resolution}
use Rattle.whole65.specs.Objects.{form_value}

-- ---- The value of a form depends only on its own sections and imports.

-- the value of a form depends only on the bases of its own sections and the values of its own imports
pub own_parts_law : (E : Type 0) → (none : E) (bases others : ℕ → ℤ) (values rest : ℕ → Result ℤ E) (f : Form) → AllByRecursion (λ g. bases g ≡ others g) (sections_in f) → AllByRecursion (λ k. values k ≡ rest k) (imports_in f) → value_in none bases values f ≡ value_in none others rest f
own_parts_law E none bases others values rest (lit v) h k = refl
own_parts_law E none bases others values rest (sec g a) h k = ap (λ b. Ok (wrap_signed (b +ℤ a))) h.0
own_parts_law E none bases others values rest (imp j) h k = k.0
own_parts_law E none bases others values rest (prefix op f) h k = grind (arith, common_steps, (own_parts_law E none bases others values rest f h k))
own_parts_law E none bases others values rest (binary op f g) h k =
    let own = all_parts (λ s. bases s ≡ others s) (sections_in f) (sections_in g) h in
    let named = all_parts (λ i. values i ≡ rest i) (imports_in f) (imports_in g) k in
    grind (arith, common_steps, (own_parts_law E none bases others values rest f own.0 named.0), (own_parts_law E none bases others values rest g own.1 named.1))

-- the base of a section in a link is the run address of its segment's row plus the section's position, wrapped
pub base_law : (rows : List SegmentRow) (places : List RowPlacement) (at : SectionPosition) → address_of rows places at ≡ wrap_signed (pos (run_of rows places at.segment + at.offset))
unfolding int_wrap
base_law rows places at = refl

-- ---- Linked modules.

get_front : {A : Type 0} (xs ys : List A) (i : ℕ) (x : A) → slice_get xs i ≡ Some x → slice_get (xs ++ ys) i ≡ Some x
get_front [] ys i x e = cc
get_front (z ∷ xs) ys zero x e = e
get_front (z ∷ xs) ys (suc i) x e = get_front xs ys i x e

kept : (p : Program) (ms : List Module) (i : ℕ) (x : LinkedModule) → slice_get p.members i ≡ Some x → slice_get (with_modules p ms).members i ≡ Some x
kept p [] i x e = e
kept p (m ∷ ms) i x e = kept (with_module p m) ms i x (get_front p.members (member p m ∷ []) i x e)

from_member : (p : Program) (ms : List Module) (at i : ℕ) (m : Module) → at ≡ length p.members + i → slice_get ms i ≡ Some m → slice_get (with_modules p ms).members at ≡ Some (member (with_modules p (take i ms)) m)
from_member p [] at i m o e = cc
from_member p (x ∷ ms) at zero m o e =
    let same : x ≡ m = cc in
    let here : length p.members ≡ at = omega (arith, o) in
    subst (λ k. slice_get (with_modules (with_module p k) ms).members at ≡ Some (member p m)) (sym same)
    (kept (with_module p m) ms at (member p m) (subst (λ n. slice_get (with_module p m).members n ≡ Some (member p m)) here (in_middle p.members (member p m) [])))
from_member p (x ∷ ms) at (suc i) m o e = grind (arith, common_steps, (from_member (with_module p x) ms at i m))

pub member_at : (ms : List Module) (i : ℕ) (m : Module) → slice_get ms i ≡ Some m → slice_get (program_of ms).members i ≡ Some (member (program_of (take i ms)) m)
member_at ms i m e = from_member no_program ms i i m (omega arith) e

get_mapped : {A B : Type 0} (f : A → B) (xs : List A) (i : ℕ) (x : A) → slice_get xs i ≡ Some x → slice_get (map f xs) i ≡ Some (f x)
get_mapped f [] i x e = cc
get_mapped f (z ∷ xs) zero x e = let same : z ≡ x = cc in ap (λ k. Some (f k)) same
get_mapped f (z ∷ xs) (suc i) x e = get_mapped f xs i x e

pub resolved_at : (s : Script) (placement : Placement) (ms : List Module) (i : ℕ) (m : Module) → slice_get ms i ≡ Some m → slice_get (linkage_of s (program_of ms) placement).modules i ≡ Some (module_bindings s (program_of ms) placement (member (program_of (take i ms)) m))
resolved_at s placement ms i m e = get_mapped (module_bindings s (program_of ms) placement) (program_of ms).members i (member (program_of (take i ms)) m) (member_at ms i m e)

pub sources_front : (ys : List Layout) (ms : List Module) (i : ℕ) → AreObjectsOfLayouts ys ms → AreObjectsOfLayouts (take i ys) (take i ms)
sources_front [] [] zero h = tt
sources_front [] [] (suc i) h = tt
sources_front [] (m ∷ ms) i h = absurd h
sources_front (y ∷ ys) [] i h = absurd h
sources_front (y ∷ ys) (m ∷ ms) zero h = tt
sources_front (y ∷ ys) (m ∷ ms) (suc i) h = (h.0, sources_front ys ms i h.1)

pub source_at : (ys : List Layout) (ms : List Module) (i : ℕ) (y : Layout) (m : Module) → AreObjectsOfLayouts ys ms → slice_get ys i ≡ Some y → slice_get ms i ≡ Some m → IsObjectOfLayout y m
source_at [] [] i y m h e f = cc
source_at [] (x ∷ ms) i y m h e f = absurd h
source_at (z ∷ ys) [] i y m h e f = absurd h
source_at (z ∷ ys) (x ∷ ms) zero y m h e f = grind (arith, common_steps)
source_at (z ∷ ys) (x ∷ ms) (suc i) y m h e f = source_at ys ms i y m h.1 e f

-- ---- Positions of sections.

-- a predicate that all keys satisfy is satisfied by each key among them
pub one_of : (P : ℕ → Type 0) (ks : List ℕ) (g : ℕ) → AllByRecursion P ks → list_any (nat_eq g) ks ≡ true → P g
one_of P [] g h e = cc
one_of P (k ∷ ks) g h e = grind (arith, common_steps, (one_of P ks g h.1), equal)

module _ (y : Layout) (owner : ℕ) (origins : SourceLocation → Origin) (sections imports : List ℕ) (cs : List Content) (A : SectionPosition → ℤ) (d : Distinct y.cursor.segments) where
  abbrev own_section : ℕ → Section
  own_section g = section_of origins y.cursor.segments sections imports cs g

  other_end : (gs : List linked.Segment) (k g : ℕ) → k < length y.cursor.segments → g < length y.cursor.segments → nat_eq g k ≡ false → linked.end_of (with_section owner gs (own_section k)) (own_section g).name ≡ linked.end_of gs (own_section g).name
  other_end gs k g lk lg e = grind (arith, common_steps, size_or, one_section, or_empty, name_at, nat_tests)

  pub place_at : (gs : List linked.Segment) (ks : List ℕ) (g : ℕ) → AllByRecursion (λ k. k < length y.cursor.segments) ks → AreOnce ks → list_any (nat_eq g) ks ≡ true → get_or (map A (section_positions owner gs (map own_section ks))) (number_of ks g) (pos 0) ≡ A (section_position gs (own_section g))
  place_at gs [] g h o e = cc
  place_at gs (k ∷ ks) g h o e = grind (arith, common_steps, (place_at (with_section owner gs (own_section k)) ks g h.1 o.1), number_first, equal, one_of, number_later, other_end)

-- ---- The starts of sections.

begins : (ys : List Layout) (y : Layout) (name : List ℕ) (position first i : ℕ) → slice_get ys i ≡ Some y → section_start_from position first ys name i ≡ next_multiple_of (end_of position (segment_items_from first (take i ys) name)) (largest_multiple (statements_in_segment (first + i) y name))
begins [] y name position first i e = cc
begins (z ∷ ys) y name position first zero e = grind (arith, common_steps)
begins (z ∷ ys) y name position first (suc i) e = grind (arith, common_steps, end_of-append, (begins ys y name (end_of position (module_items first z name)) (suc first) i e))

less : (n m : ℕ) → n < m → nat_lt n m ≡ true
less n m h = grind (arith, nat_tests)

-- the base of an object's section in a link is the base of the module's segment in the whole program
pub section_base_law : (s : Script) (placement : Placement) (ys : List Layout) (ms : List Module) (owner g : ℕ) (y : Layout) (m : Module) (cs : List Content) → AreObjectsOfLayouts ys ms → slice_get ys owner ≡ Some y → slice_get ms owner ≡ Some m → (module_resolution y.laid).found ≡ Ok cs → list_any (nat_eq g) (section_keys cs) ≡ true → base_of (slice_get (linkage_of s (linked.program_of ms) placement).modules owner) (number_of (section_keys cs) g) ≡ base_in s placement ys owner g (Some y)
section_base_law s placement ys ms owner g y m cs h at_y at_m e among =
    let source : IsObjectOfLayout y m = source_at ys ms owner y m h at_y at_m in
    let d : HasNoLineErrors y = source.no_line_errors in
    let keys = keys_of y cs d e in
    let names = (table_of y).imports in
    let imports : List ℕ = import_keys names cs in
    let sections : List ℕ = section_keys cs in
    let lt : g < length y.cursor.segments = one_of (λ k. k < length y.cursor.segments) sections g keys.standing among in
    let name : List ℕ = segment_name_at y g in
    let before : Program = program_of (take owner ms) in
    let A : SectionPosition → ℤ = address_of s.rows placement.rows in
    let origins : SourceLocation → Origin = (contents_of y m source).origins in
    let sec_g : Section = section_of origins y.cursor.segments sections imports cs g in
    let named_so : sec_g.name ≡ name = name_at y.cursor.segments g lt in
    let has : has_section y name ≡ true = keys.has name ∙ held (λ k. bytes_eq (segment_name_at y k) name) g sections among (itself name) in
    let object = same_object y m cs source e in
    let size : linked.end_of before.segments name ≡ end_of 0 (segment_items (take owner ys) name) = size_law (take owner ys) (take owner ms) name (sources_front ys ms owner h) in
    let run : ℕ = run_of s.rows placement.rows name in
    let lines_are : statements_in_segment owner y name ≡ statements_with_segment g (module_statements_after owner [] y.laid) = in_segment owner y g d lt in
    grind (arith, common_steps, (resolved_at s placement ms owner m at_m), (place_at y (length before.members) origins sections imports cs A (named d).distinct before.segments sections g keys.standing keys.single among), (base_law s.rows placement.rows (section_position before.segments sec_g)), (section_begin y owner g (end_of 0 (segment_items (take owner ys) name)) origins sections imports cs d), (begins ys y name 0 0 owner at_y))

-- ---- All forms have keys.

pub or_right : (a b : Bool) → b ≡ true → (a || b) ≡ true
or_right x1 b e = grind (arith, common_steps)

all_of : (p : ℕ → Bool) (xs : List ℕ) → list_all p xs ≡ true → AllByRecursion (λ k. p k ≡ true) xs
all_of p [] e = tt
all_of p (x ∷ xs) e = grind (arith, common_steps, (all_of p xs))

-- a predicate that each key among `xs` satisfies is satisfied by all of `xs`
pub each_among : (P : ℕ → Type 0) (xs : List ℕ) → ((k : ℕ) → list_any (nat_eq k) xs ≡ true → P k) → AllByRecursion P xs
each_among P [] up = tt
each_among P (x ∷ xs) up = grind (arith, common_steps, (each_among P xs))

all_both : (P Q : ℕ → Type 0) (xs : List ℕ) → AllByRecursion P xs → AllByRecursion Q xs → AllByRecursion (λ k. P k × Q k) xs
all_both P Q [] h k = tt
all_both P Q (x ∷ xs) h k = ((h.0, k.0), all_both P Q xs h.1 k.1)

all_less : (count : ℕ) (xs : List ℕ) → AllByRecursion (λ k. nat_lt k count ≡ true) xs → AllByRecursion (λ k. k < count) xs
all_less count [] h = tt
all_less count (x ∷ xs) h = grind (arith, common_steps, (all_less count xs h.1))

module _ (sections imports : List ℕ) (count : ℕ) where
  -- these keys are among those of the object's imports
  abbrev AreAmong : List ℕ → Type 0
  AreAmong xs = (k : ℕ) → list_any (nat_eq k) xs ≡ true → list_any (nat_eq k) imports ≡ true

  among_first : (xs ys : List ℕ) → AreAmong (xs ++ ys) → AreAmong xs
  among_first xs ys up k h = up k (grind (arith, common_steps))

  among_rest : (xs ys : List ℕ) → AreAmong (xs ++ ys) → AreAmong ys
  among_rest xs ys up k h = up k (grind (arith, common_steps))

  keyed_form : (f : Form) → IsWellFormedForm sections count f → AreAmong (imports_in f) → IsKeyed sections imports count f
  keyed_form f h up = record {
    own_sections = all_of (λ g. list_any (nat_eq g) sections) (sections_in f) h.sections;
    own_imports = all_both (λ k. list_any (nat_eq k) imports ≡ true) (λ k. k < count) (imports_in f) (each_among (λ k. list_any (nat_eq k) imports ≡ true) (imports_in f) up) (all_less count (imports_in f) (all_of (λ k. nat_lt k count) (imports_in f) h.imports));
  }

  keyed_part : (q : Part) → IsWellFormedPart sections count q → AreAmong (part_imports q) → IsKeyedPart sections imports count q
  keyed_part x1 h up = grind (arith, common_steps, keyed_form)

  keyed_parts : (qs : List Part) → AllByRecursion (IsWellFormedPart sections count) qs → AreAmong (flat_map part_imports qs) → AllByRecursion (IsKeyedPart sections imports count) qs
  keyed_parts [] h up = tt
  keyed_parts (q ∷ qs) h up = grind (arith, common_steps, keyed_part, (keyed_parts qs h.1 (among_rest (part_imports q) (flat_map part_imports qs) up)))

  keyed_saying : (names : List (List ℕ)) (x : Declaration) → IsWellFormedDeclaration sections count x → AreAmong (declaration_imports names x) → IsKeyedSaid sections imports count x
  keyed_saying names x h up = grind (arith, common_steps, keyed_form)

  keyed_said : (names : List (List ℕ)) (xs : List Declaration) → AllByRecursion (IsWellFormedDeclaration sections count) xs → AreAmong (flat_map (declaration_imports names) xs) → AllByRecursion (IsKeyedSaid sections imports count) xs
  keyed_said names [] h up = tt
  keyed_said names (x ∷ xs) h up = (
    keyed_saying names x h.0 (among_first (declaration_imports names x) (flat_map (declaration_imports names) xs) up),
    keyed_said names xs h.1 (among_rest (declaration_imports names x) (flat_map (declaration_imports names) xs) up),
  )

  keyed_contents : (names : List (List ℕ)) (cs : List Content) → AllByRecursion (IsWellFormedContent sections count) cs → AreAmong (flat_map (content_imports names) cs) → AllByRecursion (IsKeyedContent sections imports count) cs
  keyed_contents names [] h up = tt
  keyed_contents names (c ∷ cs) h up =
      let here = among_first (content_imports names c) (flat_map (content_imports names) cs) up in (
        record {
          parts = keyed_parts c.parts h.0.parts (among_first (flat_map part_imports c.parts) (flat_map (declaration_imports names) c.said) here);
          said = keyed_said names c.said h.0.said (among_rest (flat_map part_imports c.parts) (flat_map (declaration_imports names) c.said) here);
        },
        keyed_contents names cs h.1 (among_rest (content_imports names c) (flat_map (content_imports names) cs) up),
      )

-- the sections and imports of all forms in a module's contents have numbers in the module's object
pub keyed_law : (y : Layout) (cs : List Content) → IsWellFormedLayout y → (module_resolution y.laid).found ≡ Ok cs → AllByRecursion (IsKeyedContent (section_keys cs) (import_keys (table_of y).imports cs) (length (table_of y).imports)) cs
keyed_law y cs h e =
    let names : List (List ℕ) = (table_of y).imports in
    keyed_contents (section_keys cs) (import_keys names cs) (length names) names cs (sound_contents y cs h e).contents
    (λ k among. any_once (nat_eq k) [] (flat_map (content_imports names) cs) ∙ among)

-- ---- Values.

-- the element at the number of a key
at_number : {A : Type 0} (G : List ℕ → A) (names : List (List ℕ)) (keys : List ℕ) (k : ℕ) (d : A) → list_any (nat_eq k) keys ≡ true → get_or (map G (map (name_of names) keys)) (number_of keys k) d ≡ G (name_of names k)
at_number G names [] k d e = cc
at_number G names (x ∷ keys) k d e = grind (arith, common_steps, (at_number G names keys k d), number_first, equal, number_later)

got : (names : List (List ℕ)) (k : ℕ) → k < length names → slice_get names k ≡ Some (name_of names k)
got [] k h = absurd (omega (arith, h))
got (n ∷ names) zero h = refl
got (n ∷ names) (suc k) h = got names k (omega (arith, h))

-- for such a form, the linker's view of the whole program and the link compute the same result at each export depth
pub form_law : (s : Script) (placement : Placement) (ys : List Layout) (ms : List Module) (owner export_depth : ℕ) (y : Layout) (m : Module) (cs : List Content) (f : Form) → AreObjectsOfLayouts ys ms → slice_get ys owner ≡ Some y → slice_get ms owner ≡ Some m → (module_resolution y.laid).found ≡ Ok cs → let sections : List ℕ = section_keys cs in let imports : List ℕ = import_keys (table_of y).imports cs in let l : Linkage = linkage_of s (linked.program_of ms) placement in IsKeyed sections imports (length (table_of y).imports) f → form_value (linked_objects s placement ys ms) export_depth owner f ≡ value_of_form l (exports_to_depth l export_depth) owner (renumbered_form sections imports f)
form_law s placement ys ms owner export_depth y m cs f h at_y at_m e =
    let names : List (List ℕ) = (table_of y).imports in
    let sections : List ℕ = section_keys cs in
    let imports : List ℕ = import_keys names cs in
    let l : Linkage = linkage_of s (program_of ms) placement in
    let source : IsObjectOfLayout y m = source_at ys ms owner y m h at_y at_m in
    let G : List ℕ → Provider = provider_of (script_definitions s placement) (program_of ms).exports (weak_symbols s.symbols) in
    let mine = resolved_at s placement ms owner m at_m in
    let object = same_object y m cs source e in
    let base : (g : ℕ) → list_any (nat_eq g) sections ≡ true → base_in s placement ys owner g (slice_get ys owner) ≡ base_of (slice_get l.modules owner) (number_of sections g) =
    λ g among. ap (base_in s placement ys owner g) at_y ∙ sym (section_base_law s placement ys ms owner g y m cs h at_y at_m e among) in
    let provider : (k : ℕ) → (list_any (nat_eq k) imports ≡ true) × (k < length names) → provider_named s placement (program_of ms) (slice_get (symbols_at (slice_get ys owner)).imports k) ≡ provider_at (slice_get l.modules owner) (number_of imports k) =
    λ k among.
    ap (λ r. provider_named s placement (program_of ms) (slice_get (symbols_at r).imports k)) at_y
    ∙ ap (provider_named s placement (program_of ms)) (got names k among.1)
    ∙ sym (at_number G names imports k Nobody among.0)
    ∙ ap (λ (o : Object). get_or (map G o.imports) (number_of imports k) Nobody) (sym object)
    ∙ ap (λ r. provider_at r (number_of imports k)) (sym mine) in
    λ keyed.
    own_parts_law ValueFault NoValue (λ g. base_in s placement ys owner g (slice_get ys owner)) (λ g. base_of (slice_get l.modules owner) (number_of sections g)) (imports_linked s placement ys ms export_depth owner) (λ k. import_value (exports_to_depth l export_depth) (provider_at (slice_get l.modules owner) (number_of imports k))) f
    (all_same (λ g. list_any (nat_eq g) sections ≡ true) (λ g. base_in s placement ys owner g (slice_get ys owner) ≡ base_of (slice_get l.modules owner) (number_of sections g)) base (sections_in f) keyed.own_sections)
    (all_same (λ k. (list_any (nat_eq k) imports ≡ true) × (k < length names)) (λ k. imports_linked s placement ys ms export_depth owner k ≡ import_value (exports_to_depth l export_depth) (provider_at (slice_get l.modules owner) (number_of imports k))) (λ k among. ap (import_value (exports_to_depth l export_depth)) (provider k among)) (imports_in f) keyed.own_imports)
    ∙ sym (number_law ValueFault NoValue (base_of (slice_get l.modules owner)) (λ j. import_value (exports_to_depth l export_depth) (provider_at (slice_get l.modules owner) j)) sections imports f)
