-- A link has at most one outcome, and a weak name that isn't used changes no image.
use Rattle.std.proofs.Common.{◌≡◌, ◌∙◌, ℕ, zero, suc, ◌+◌, ◌<◌, Bool, true, false, List, [], ◌∷◌, ◌++◌, length, get_or, Result, Ok, Err, refl, sym, ap, subst, arith, not, ◌||◌, cond, filter, map, slice_get, Option, Some, if◌then◌else◌}
use Rattle.std.specs.Prelude.{ℤ, ◌==◌}
use Rattle.base65.proofs.Outcome.{first_once}
use Rattle.script65.specs.declared.placement.Placement.{Placement}
use Rattle.script65.specs.declared.script.MemoryArea.{MemoryArea}
use Rattle.script65.specs.declared.script.Script.{Script}
use Rattle.link65.specs.declared.fault.LinkFault.{LinkFault}
use Rattle.link65.specs.declared.linking.Linked.{Linked}
use Rattle.base65.specs.declared.output.OutputFile.{OutputFile}
use Rattle.link65.specs.declared.parts.ValueFault.{ValueFault}
use Rattle.link65.specs.declared.parts.ValueFault.TheVariants.{Unresolved}
use Rattle.link65.specs.Files.{AddsArea, AddsAreas, IsAreaFile, IsImage, RowPiece, file_name, with_bytes}
use Rattle.link65.specs.Values.{row_bytes, linkage_of, needs_of, module_bindings, AreExports, Exports, Linkage, exports_to_depth, table_exports, linkage}
use Rattle.link65.specs.Links.{IsEvaluatedLink, IsSuccessfulLink, IsPlacedLink, IsProgramLink, LinkOf, check_result, check_unique_names, placement_result, as_placement, none_duplicate, none_unresolved}
use Rattle.link65.specs.Texts.{map_text, warnings_of_rows}
use Rattle.link65.specs.Programs.{Module, Program, program_of}
use Rattle.link65.proofs.Attempts.{exports_grow, settles_once}
use Rattle.std.proofs.lemmas.Grind.{common_steps}
use Rattle.std.proofs.lemmas.List.{map-append}
use Rattle.std.proofs.lemmas.List.Folds.{list_any-append}
use Rattle.std.proofs.lemmas.Cmp.{nat_list_eq_equiv}
use Rattle.std.specs.Int.{w64, cast_signed}
use Rattle.std.specs.List.{flat_map, position_from}
use Rattle.std.specs.Str.{bytes_eq}
use Rattle.base65.specs.Outcome.{◌>>=◌, AndThen}
use Rattle.script65.specs.Placing.{place_of}
use Rattle.script65.specs.declared.script.Symbol.{Symbol}
use Rattle.script65.specs.declared.script.SymbolKind.TheVariants as kind
use Rattle.link65.specs.declared.parts.ScriptSymbol.{ScriptSymbol}
use Rattle.link65.specs.declared.parts.ModuleExport.{ModuleExport}
use Rattle.link65.specs.declared.parts.Provider.{Provider}
use Rattle.link65.specs.declared.parts.LinkedModule.{LinkedModule}
use Rattle.link65.specs.declared.parts.ModuleBindings.{ModuleBindings}
use Rattle.link65.specs.Names.{script_provider_or, index_of_definition, distinct_names, first_duplicate, strong_names, provider_of, is_among, is_defined_name, references, unresolved_names, script_definitions, symbol_imports, weak_symbols, HaveSameImages, is_used, with_weak}
use Rattle.link65.specs.Laws.{UnusedWeakNamePreservesImages, LinkExistsWithUnusedWeakName}

-- ---- A link has at most one outcome.

-- lists of equal length with equal elements at each index are equal
same_list : {A : Type 0} (xs ys : List A) (d : A) → length xs ≡ length ys → ((i : ℕ) → i < length xs → get_or xs i d ≡ get_or ys i d) → xs ≡ ys
same_list [] [] d n h = refl
same_list [] (y ∷ ys) d n h = absurd (omega arith)
same_list (x ∷ xs) [] d n h = absurd (omega arith)
same_list (x ∷ xs) (y ∷ ys) d n h =
    let first : x ≡ y = h zero (omega arith) in
    let rest : xs ≡ ys = same_list xs ys d (omega arith) (λ i lt. h (suc i) (omega arith)) in
    cc

image_once : (len fill : ℕ) (pieces : List RowPiece) (a b : List ℕ) → IsImage len fill pieces a → IsImage len fill pieces b → a ≡ b
image_once len fill pieces a b h k =
    same_list a b 0 (h.size ∙ sym k.size)
    (λ i lt. let inside : i < len = omega (arith, h.size) in h.bytes i inside ∙ sym (k.bytes i inside))

area_once : (unnamed : Bool) (name : List ℕ) (IsFile : List ℕ → Type 0) (before a b : List OutputFile) → ((x y : List ℕ) → IsFile x → IsFile y → x ≡ y) → AddsArea unnamed name IsFile before a → AddsArea unnamed name IsFile before b → a ≡ b
area_once true name IsFile before a b once h k = h ∙ sym k
area_once false name IsFile before a b once (x, hx, e) (y, hy, f) = e ∙ ap (λ i. with_bytes name i before) (once x y hx hy) ∙ sym f

areas_once : (output : List ℕ) (IsFile : ℕ → MemoryArea → List ℕ → Type 0) → ((k : ℕ) (a : MemoryArea) (x y : List ℕ) → IsFile k a x → IsFile k a y → x ≡ y) → (areas : List MemoryArea) (k : ℕ) (before a b : List OutputFile) → AddsAreas output IsFile k areas before a → AddsAreas output IsFile k areas before b → a ≡ b
areas_once output IsFile once [] k before a b h g = h ∙ sym g
areas_once output IsFile once (x ∷ rest) k before a b (m, hm, h) (n, hn, g) =
    let same : m ≡ n = area_once (length (file_name output x.file) == 0) (file_name output x.file) (IsFile k x) before m n (once k x) hm hn in
    let P : List OutputFile → Type 0 = λ z. AddsAreas output IsFile (k + 1) rest z a in
    areas_once output IsFile once rest (k + 1) n a b (subst P same h) g

imaged_once : (output : List ℕ) (s : Script) (p : Program) (placement : Placement) (l : Linkage) (exports : Exports) (warnings : List ℕ) (r q : Result Linked LinkFault) → IsSuccessfulLink output s p placement l exports warnings r → IsSuccessfulLink output s p placement l exports warnings q → r ≡ q
imaged_once output s p placement l exports warnings r q (a, ha, e) (b, hb, f) =
    let same : a ≡ b = areas_once output (IsAreaFile s.rows placement (row_bytes l exports p.segments)) (λ k x i j hi hj. image_once _ _ _ i j hi hj) s.areas 0 [] a b ha hb in
    let made : List OutputFile → Result Linked LinkFault = λ fs. Ok (record { files = fs; warnings = warnings_of_rows s.rows p.segments ++ warnings; map = map_text s p placement l exports }) in
    e ∙ ap made same ∙ sym f

tables_once : (l : Linkage) (t u : List (Result ℤ ValueFault)) → AreExports l t → AreExports l u → t ≡ u
tables_once l t u h k =
    same_list t u (Err Unresolved) (h.long ∙ sym k.long)
    (λ x lt. let inside : x < length l.exports = omega (arith, h.long) in
    settles_once (λ n. exports_to_depth l n x) (table_exports t x) (table_exports u x) (λ n. exports_grow l n x) (h.each x inside) (k.each x inside))

finished_once : (output : List ℕ) (s : Script) (p : Program) (placement : Placement) (l : Linkage) (exports : Exports) (r q : Result Linked LinkFault) → IsEvaluatedLink output s p placement l exports r → IsEvaluatedLink output s p placement l exports q → r ≡ q
finished_once output s p placement l exports r q h k =
    first_once (check_result s p l exports) (IsSuccessfulLink output s p placement l exports) r q (λ w. imaged_once output s p placement l exports w r q) h k

placed_once : (output : List ℕ) (s : Script) (p : Program) (placement : Placement) (r q : Result Linked LinkFault) → IsPlacedLink output s p placement r → IsPlacedLink output s p placement q → r ≡ q
placed_once output s p placement r q (t, ht, h) (u, hu, k) =
    let same : t ≡ u = tables_once (linkage_of s p placement) t u ht hu in
    let P : List (Result ℤ ValueFault) → Type 0 = λ z. IsEvaluatedLink output s p placement (linkage_of s p placement) (table_exports z) r in
    finished_once output s p placement (linkage_of s p placement) (table_exports u) r q (subst P same h) k

program_once : (output : List ℕ) (s : Script) (p : Program) (r q : Result Linked LinkFault) → IsProgramLink output s p r → IsProgramLink output s p q → r ≡ q
program_once output s p r q h k = first_once (placement_result s p) (IsPlacedLink output s p) r q (λ x. placed_once output s p x r q) h k

pub link_once : (output : List ℕ) (s : Script) (modules : List Module) (r q : Result Linked LinkFault) → LinkOf output s modules r → LinkOf output s modules q → r ≡ q
link_once output s modules r q h k = grind (arith, common_steps, first_once, program_once)

-- ---- The symbols of a script with one further weak name.

-- a weak symbol with a value
abbrev symbol : List ℕ → ℕ → Symbol
symbol name value = record { name = name; kind = kind.Weak value }

abbrev definition : List ℕ → ℕ → ScriptSymbol
definition name value = record { name = name; value = cast_signed w64 value }

imports_same : (symbols : List Symbol) (name : List ℕ) (value : ℕ) → symbol_imports (symbols ++ symbol name value ∷ []) ≡ symbol_imports symbols
imports_same symbols name value = grind (arith, common_steps)

weak_more : (symbols : List Symbol) (name : List ℕ) (value : ℕ) → weak_symbols (symbols ++ symbol name value ∷ []) ≡ weak_symbols symbols ++ definition name value ∷ []
weak_more symbols name value = grind (arith, common_steps)

-- ---- A name that isn't in a list.

neither : (a b : Bool) → (a || b) ≡ false → (a ≡ false) × (b ≡ false)
neither false b e = (refl, e)
neither true b e = cc

-- a name that isn't in a list is neither its head nor in its tail
others : (names : List (List ℕ)) (n name : List ℕ) → is_among (n ∷ names) name ≡ false → (bytes_eq n name ≡ false) × (is_among names name ≡ false)
others names n name e = neither (bytes_eq n name) (is_among names name) e

either_part : (xs ys : List (List ℕ)) (name : List ℕ) → is_among (xs ++ ys) name ≡ false → (is_among xs name ≡ false) × (is_among ys name ≡ false)
either_part xs ys name e = neither (is_among xs name) (is_among ys name) (sym (list_any-append (λ n. bytes_eq n name) xs ys) ∙ e)

with_other : (xs : List (List ℕ)) (n name : List ℕ) → is_among xs name ≡ false → bytes_eq n name ≡ false → is_among (xs ++ n ∷ []) name ≡ false
with_other xs n name e f = list_any-append (λ n. bytes_eq n name) xs (n ∷ []) ∙ rw (e, f) refl

choice : (b : Bool) (xs ys : List (List ℕ)) (name : List ℕ) → is_among xs name ≡ false → is_among ys name ≡ false → is_among (if b then xs else ys) name ≡ false
choice true xs ys name e f = e
choice false xs ys name e f = f

once_without : (names before : List (List ℕ)) (name : List ℕ) → is_among before name ≡ false → is_among names name ≡ false → is_among (distinct_names before names) name ≡ false
once_without [] before name e f = e
once_without (n ∷ names) before name e f =
    let two : (bytes_eq n name ≡ false) × (is_among names name ≡ false) = others names n name f in
    once_without names (if is_among before n then before else before ++ n ∷ []) name
    (choice (is_among before n) before (before ++ n ∷ []) name e (with_other before n name e two.0))
    two.1

-- ---- Functions that agree on all names but one.

-- `f` and `g` agree on all names but this one
abbrev AgreeBut : {A : Type 0} → List ℕ → (List ℕ → A) → (List ℕ → A) → Type 0
AgreeBut name f g = (n : List ℕ) → bytes_eq n name ≡ false → f n ≡ g n

map_same : {A : Type 0} (f g : List ℕ → A) (name : List ℕ) → AgreeBut name f g → (names : List (List ℕ)) → is_among names name ≡ false → map f names ≡ map g names
map_same f g name same [] e = refl
map_same f g name same (n ∷ names) e =
    let two : (bytes_eq n name ≡ false) × (is_among names name ≡ false) = others names n name e in
    rw (same n two.0, map_same f g name same names two.1) refl

filter_same : (f g : List ℕ → Bool) (name : List ℕ) → AgreeBut name f g → (names : List (List ℕ)) → is_among names name ≡ false → filter f names ≡ filter g names
filter_same f g name same [] e = refl
filter_same f g name same (n ∷ names) e =
    let two : (bytes_eq n name ≡ false) × (is_among names name ≡ false) = others names n name e in
    step (f n) (g n) (same n two.0) refl refl (filter_same f g name same names two.1)
  where
    step : (a b : Bool) → a ≡ b → f n ≡ a → g n ≡ b → filter f names ≡ filter g names → filter f (n ∷ names) ≡ filter g (n ∷ names)
    step true true h x y rest = rw (x, y, rest) refl
    step false false h x y rest = rw (x, y) rest
    step true false h x y rest = cc
    step false true h x y rest = cc

-- ---- The provider of a name, with one further weak definition at the end.

found_before : (p : List ℕ → Bool) (i : ℕ) (names : List (List ℕ)) (name : List ℕ) → p name ≡ false → position_from p i (names ++ name ∷ []) ≡ position_from p i names
found_before p i [] name e = rw e refl
found_before p i (n ∷ names) name e = ap (cond (p n) (Some i)) (found_before p (i + 1) names name e)

found_inside : (p : List ℕ → Bool) (i : ℕ) (names : List (List ℕ)) (k : ℕ) → position_from p i names ≡ Some k → k < i + length names
found_inside p i [] k e = cc
found_inside p i (n ∷ names) k e = grind (arith, common_steps, (found_inside p (i + 1) names k))

get_before : (ds more : List ScriptSymbol) (i : ℕ) → i < length ds → slice_get (ds ++ more) i ≡ slice_get ds i
get_before [] more i lt = absurd (omega arith)
get_before (d ∷ ds) more zero lt = refl
get_before (d ∷ ds) more (suc i) lt = get_before ds more i (omega arith)

by_same : (ds : List ScriptSymbol) (d : ScriptSymbol) (o : Option ℕ) (other : Provider) → ((k : ℕ) → o ≡ Some k → k < length ds) → script_provider_or (ds ++ d ∷ []) o other ≡ script_provider_or ds o other
by_same ds d x other inside = grind (arith, common_steps, get_before)

length_names : (ds : List ScriptSymbol) → length (map (λ d. d.name) ds) ≡ length ds
length_names [] = refl
length_names (d ∷ ds) = ap suc (length_names ds)

at_same : (ds : List ScriptSymbol) (d : ScriptSymbol) (n : List ℕ) → bytes_eq n d.name ≡ false → index_of_definition (ds ++ d ∷ []) n ≡ index_of_definition ds n
at_same ds d n e = grind (arith, common_steps, map-append, found_before, nat_list_eq_equiv)

at_inside : (ds : List ScriptSymbol) (n : List ℕ) (k : ℕ) → index_of_definition ds n ≡ Some k → k < length ds
at_inside ds n k e = grind (arith, common_steps, found_inside, length_names)

provider_same : (script_symbols : List ScriptSymbol) (exports : List ModuleExport) (ds : List ScriptSymbol) (d : ScriptSymbol) → AgreeBut d.name (provider_of script_symbols exports (ds ++ d ∷ [])) (provider_of script_symbols exports ds)
provider_same script_symbols exports ds d n e = grind (arith, common_steps, at_same, by_same, at_inside)

-- ---- The definitions of the script, and the provider of each import.

given_same : (s : Script) (p : Program) (name : List ℕ) (value : ℕ) → strong_names (with_weak s name value) p ≡ strong_names s p
given_same s p name value = grind (arith, common_steps)

definitions_same : (s : Script) (pl : Placement) (name : List ℕ) (value : ℕ) → script_definitions (with_weak s name value) pl ≡ script_definitions s pl
definitions_same s pl name value = grind (arith, common_steps)

or_false : (b : Bool) → (b || false) ≡ b
or_false true = refl
or_false false = refl

weak_among : (symbols : List Symbol) (name : List ℕ) (value : ℕ) → AgreeBut name (is_among (map (λ d. d.name) (weak_symbols (symbols ++ symbol name value ∷ [])))) (is_among (map (λ d. d.name) (weak_symbols symbols)))
weak_among symbols name value n e = grind (arith, common_steps, weak_more, map-append, list_any-append, nat_list_eq_equiv, or_false)

is_given_same : (s : Script) (p : Program) (name : List ℕ) (value : ℕ) → AgreeBut name (is_defined_name (with_weak s name value) p) (is_defined_name s p)
is_given_same s p name value n e = grind (arith, common_steps, given_same, weak_among)

unresolved_same : (s : Script) (p : Program) (name : List ℕ) (value : ℕ) → is_used s p name ≡ false → unresolved_names (with_weak s name value) p ≡ unresolved_names s p
unresolved_same s p name value e =
    ap (λ names. filter (λ n. not (is_defined_name (with_weak s name value) p n)) (distinct_names [] (names ++ flat_map (λ m. m.imports) p.members))) (imports_same s.symbols name value)
    ∙ filter_same (λ n. not (is_defined_name (with_weak s name value) p n)) (λ n. not (is_defined_name s p n)) name (λ n f. ap not (is_given_same s p name value n f)) (references s p) (once_without (symbol_imports s.symbols ++ flat_map (λ m. m.imports) p.members) [] name refl e)

resolved_same : (s : Script) (p : Program) (pl : Placement) (name : List ℕ) (value : ℕ) (m : LinkedModule) → is_among m.imports name ≡ false → module_bindings (with_weak s name value) p pl m ≡ module_bindings s p pl m
resolved_same s p pl name value m e = grind (arith, common_steps, map_same, definitions_same, weak_more, provider_same)

members_same : (f g : LinkedModule → ModuleBindings) (name : List ℕ) → ((m : LinkedModule) → is_among m.imports name ≡ false → f m ≡ g m) → (members : List LinkedModule) → is_among (flat_map (λ m. m.imports) members) name ≡ false → map f members ≡ map g members
members_same f g name same [] e = refl
members_same f g name same (m ∷ members) e =
    let two : (is_among m.imports name ≡ false) × (is_among (flat_map (λ y. y.imports) members) name ≡ false) = either_part m.imports (flat_map (λ y. y.imports) members) name e in
    rw (same m two.0, members_same f g name same members two.1) refl

linkage_same : (s : Script) (p : Program) (pl : Placement) (name : List ℕ) (value : ℕ) → is_used s p name ≡ false → linkage_of (with_weak s name value) p pl ≡ linkage_of s p pl
linkage_same s p pl name value e =
    let two : (is_among (symbol_imports s.symbols) name ≡ false) × (is_among (flat_map (λ m. m.imports) p.members) name ≡ false) = either_part (symbol_imports s.symbols) (flat_map (λ m. m.imports) p.members) name e in
    ap (λ ms. linkage ms p.exports) (members_same (module_bindings (with_weak s name value) p pl) (module_bindings s p pl) name (resolved_same s p pl name value) p.members two.1)

names_once_same : (s : Script) (p : Program) (name : List ℕ) (value : ℕ) → check_unique_names (with_weak s name value) p ≡ check_unique_names s p
names_once_same s p name value = ap (λ names. none_duplicate (first_duplicate [] names)) (given_same s p name value)

placed_same : (s : Script) (p : Program) (name : List ℕ) (value : ℕ) → is_used s p name ≡ false → placement_result (with_weak s name value) p ≡ placement_result s p
placed_same s p name value e = ap (λ names. none_unresolved names >>= (λ u. as_placement (place_of s (needs_of p)))) (unresolved_same s p name value e)

-- ---- A link without the weak name implies a link with it that has the same images.

-- a result that satisfies `Answers` and has the same images as `r`
abbrev LinksAlike : (Result Linked LinkFault → Type 0) → Result Linked LinkFault → Type 0
LinksAlike Answers r = (q : Result Linked LinkFault) × Answers q × HaveSameImages r q

first_alike : {A : Type 0} (head : Result A LinkFault) (Next Other : A → Result Linked LinkFault → Type 0) (r : Result Linked LinkFault) → ((x : A) → Next x r → LinksAlike (Other x) r) → AndThen head Next r → LinksAlike (AndThen head Other) r
first_alike (Ok x) Next Other r step h = step x h
first_alike (Err e) Next Other r step h = grind (arith, common_steps)

imaged_alike : (output : List ℕ) (s : Script) (name : List ℕ) (value : ℕ) (p : Program) (pl : Placement) (l : Linkage) (exports : Exports) (warnings : List ℕ) (r : Result Linked LinkFault) → IsSuccessfulLink output s p pl l exports warnings r → LinksAlike (IsSuccessfulLink output (with_weak s name value) p pl l exports warnings) r
imaged_alike output s name value p pl l exports warnings r (files, h, e) =
    let made : Linked = record { files = files; warnings = warnings_of_rows s.rows p.segments ++ warnings; map = map_text (with_weak s name value) p pl l exports } in
    let P : Result Linked LinkFault → Type 0 = λ z. HaveSameImages z (Ok made) in
    (Ok made, (files, h, refl), subst P (sym e) (refl, refl))

placed_alike : (output : List ℕ) (s : Script) (name : List ℕ) (value : ℕ) (p : Program) (pl : Placement) (r : Result Linked LinkFault) → is_used s p name ≡ false → IsPlacedLink output s p pl r → LinksAlike (IsPlacedLink output (with_weak s name value) p pl) r
placed_alike output s name value p pl r unused (table, are, h) = go (first_alike (check_result s p (linkage_of s p pl) (table_exports table)) (IsSuccessfulLink output s p pl (linkage_of s p pl) (table_exports table)) (IsSuccessfulLink output (with_weak s name value) p pl (linkage_of s p pl) (table_exports table)) r (λ w. imaged_alike output s name value p pl (linkage_of s p pl) (table_exports table) w r) h)
  where
    same : linkage_of s p pl ≡ linkage_of (with_weak s name value) p pl
    same = sym (linkage_same s p pl name value unused)

    go : LinksAlike (IsEvaluatedLink output (with_weak s name value) p pl (linkage_of s p pl) (table_exports table)) r → LinksAlike (IsPlacedLink output (with_weak s name value) p pl) r
    go (q, k, alike) =
        let P : Linkage → Type 0 = λ l. AreExports l table in
        let Q : Linkage → Type 0 = λ l. IsEvaluatedLink output (with_weak s name value) p pl l (table_exports table) q in
        (q, (table, subst P same are, subst Q same k), alike)

program_alike : (output : List ℕ) (s : Script) (name : List ℕ) (value : ℕ) (p : Program) (r : Result Linked LinkFault) → is_used s p name ≡ false → IsProgramLink output s p r → LinksAlike (IsProgramLink output (with_weak s name value) p) r
program_alike output s name value p r unused h =
    let P : Result Placement LinkFault → Type 0 = λ z. LinksAlike (AndThen z (IsPlacedLink output (with_weak s name value) p)) r in
    subst P (sym (placed_same s p name value unused))
    (first_alike (placement_result s p) (IsPlacedLink output s p) (IsPlacedLink output (with_weak s name value) p) r (λ pl. placed_alike output s name value p pl r unused) h)

link_alike : (output : List ℕ) (s : Script) (name : List ℕ) (value : ℕ) (p : Program) (r : Result Linked LinkFault) → is_used s p name ≡ false → AndThen (check_unique_names s p) (λ u. IsProgramLink output s p) r → LinksAlike (AndThen (check_unique_names (with_weak s name value) p) (λ u. IsProgramLink output (with_weak s name value) p)) r
link_alike output s name value p r unused h =
    let P : Result (Unit {0}) LinkFault → Type 0 = λ z. LinksAlike (AndThen z (λ u. IsProgramLink output (with_weak s name value) p)) r in
    subst P (sym (names_once_same s p name value))
    (first_alike (check_unique_names s p) (λ u. IsProgramLink output s p) (λ u. IsProgramLink output (with_weak s name value) p) r (λ u. program_alike output s name value p r unused) h)

pub unused_weak_links : LinkExistsWithUnusedWeakName
unused_weak_links output s name value modules r unused h = link_alike output s name value (program_of modules) r unused h

pub unused_weak_same : UnusedWeakNamePreservesImages
unused_weak_same output s name value modules r q unused h k = go (unused_weak_links output s name value modules r unused h)
  where
    go : LinksAlike (LinkOf output (with_weak s name value) modules) r → HaveSameImages r q
    go (other, links, alike) = subst (HaveSameImages r) (link_once output (with_weak s name value) modules other q links k) alike
