-- A link leaves no name unresolved if and only if the whole program provides the imports of the script and of all objects.
use Rattle.std.proofs.Common.{◌≡◌, ◌≢◌, ℕ, ◌+◌, Bool, true, false, not, cond, List, [], ◌∷◌, ◌++◌, length, map, filter, Option, Some, None, Ok, is_some, refl, sym, ◌∙◌, ap, subst, arith, suc, nat_eq}
use Rattle.std.specs.Prelude.{◌↔◌, ◌||◌}
use Rattle.std.specs.List.{AllByRecursion, flat_map, list_any, position_from}
use Rattle.std.specs.Str.{bytes_eq}
use Rattle.std.proofs.lemmas.List.{append-nil, append_assoc, map-append}
use Rattle.std.proofs.lemmas.List.Folds.{list_any-append}
use Rattle.std.proofs.lemmas.Grind.{common_steps, flat_map-append}
use Rattle.script65.proofs.DisjointRows.{all_placed}
use Rattle.script65.specs.Placing.{place_of}
use Rattle.script65.specs.declared.placement.AreaPlacement.{AreaPlacement}
use Rattle.script65.specs.declared.placement.Placement.{Placement}
use Rattle.script65.specs.declared.placement.RowPlacement.{RowPlacement}
use Rattle.script65.specs.declared.placement.SegmentNeed.{SegmentNeed}
use Rattle.script65.specs.declared.script.MemoryArea.{MemoryArea}
use Rattle.script65.specs.declared.script.SegmentRow.{SegmentRow}
use Rattle.script65.specs.declared.script.Script.{Script}
use Rattle.ast65.proofs.Lists.{same_bytes, bytes_swap}
use Rattle.semantics65.specs.Layout.{Layout}
use Rattle.link65.specs.Names.{script_provider_or, module_provider_or, index_of_definition, distinct_names, export_names, index_of_export, strong_names, is_among, is_defined_name, references, unresolved_names, area_definitions, area_names, areas_definitions, row_definitions, row_names, rows_definitions, script_definitions, script_names, symbol_exports, symbol_imports, weak_symbols}
use Rattle.link65.specs.Names as linked
use Rattle.link65.specs.Programs.{flat_zip, Module, Program, member, no_program, program_of, with_module, with_modules}
use Rattle.link65.specs.declared.parts.ScriptSymbol.{ScriptSymbol}
use Rattle.link65.specs.declared.parts.ModuleExport as parts
use Rattle.link65.specs.declared.parts.Provider.{Provider}
use Rattle.link65.specs.declared.parts.Provider.TheVariants.{Nobody}
use Rattle.link65.specs.declared.parts.LinkedModule.{LinkedModule}
use Rattle.sources65.proofs.SoundForms.{all_append}
use Rattle.semantics65.proofs.Segments.{all_more, all_same}
use Rattle.whole65.proofs.Providers.{Agree, providers_agree}
use Rattle.whole65.specs.Programs as whole
use Rattle.whole65.specs.Segments.{needs_of}
use Rattle.whole65.specs.Sources.{AreObjectsOfLayouts, IsObjectOfLayout}
use Rattle.whole65.specs.Values as values
use Rattle.whole65.specs.Values.{by_nobody}
use Rattle.whole65.specs.Whole.{IsProvided}
use Rattle.std.specs.Option.{option_map}
use Rattle.object65.specs.declared.object.Object.{Object}
use Rattle.semantics65.specs.Contents.{Content, Part, Declaration, ExportedSymbol, ForcedImport, LinkAssertion}
use Rattle.semantics65.specs.Symbols.{LaidOutStatement, imports_of}
use Rattle.semantics65.specs.Numbering.{all_declarations, content_imports, import_keys, key_of, name_of, distinct_keys, part_imports, declaration_imports}
use Rattle.link65.proofs.SegmentLemmas.{at_front, after_front}
use Rattle.whole65.proofs.SectionBases.{one_of, each_among, or_right}
use Rattle.whole65.proofs.Exports.{all_demanded, demanded_names}
use Rattle.whole65.proofs.Sections.{all_once, any_once}
use Rattle.whole65.proofs.Rows.{any_new}
use Rattle.whole65.proofs.Positions.{itself, all_parts}
use Rattle.whole65.proofs.Sources.{contents_of}
use Rattle.whole65.specs.Modules.{forced_imports_by, forced_imports_of, table_of}

-- ---- The names of a script's definitions.

abbrev names_of : List ScriptSymbol → List (List ℕ)
names_of ds = map (λ (d : ScriptSymbol). d.name) ds

zip_names : {A B : Type 0} (f : A → B → List ScriptSymbol) (g : A → List (List ℕ)) → ((x : A) (y : B) → names_of (f x y) ≡ g x) → (xs : List A) (zs : List B) → length zs ≡ length xs → names_of (flat_zip f xs zs) ≡ flat_map g xs
zip_names f g h [] zs e = refl
zip_names f g h (x ∷ xs) [] e = absurd (omega (arith, e))
zip_names f g h (x ∷ xs) (z ∷ zs) e = grind (arith, common_steps, (zip_names f g h xs zs (omega (arith, e))), map-append)

of_area : (a : MemoryArea) (q : AreaPlacement) → names_of (area_definitions a q) ≡ area_names a
of_area a q = grind (arith, common_steps)

of_row : (r : SegmentRow) (q : RowPlacement) → names_of (row_definitions r q) ≡ row_names r
of_row r q = grind (arith, common_steps)

script_named : (s : Script) (needs : List SegmentNeed) (q : Placement) → place_of s needs ≡ Ok q → names_of (script_definitions s q) ≡ script_names s
script_named s needs q h = grind (arith, common_steps, all_placed, zip_names, of_area, of_row, map-append)

-- ---- A name is provided if and only if it is among the defined names.

-- the test for a defined name is true if and only if the name has a provider
abbrev Knows : Bool → Provider → Type 0
Knows b g = (g ≢ Nobody) ↔ (b ≡ true)

some_step : (b : Bool) (i : ℕ) (o : Option ℕ) (rest : Bool) → is_some o ≡ rest → is_some (cond b (Some i) o) ≡ (b || rest)
some_step x1 i o rest e = grind (arith, common_steps)

some_among : (p : List ℕ → Bool) (i : ℕ) (xs : List (List ℕ)) → is_some (position_from p i xs) ≡ list_any p xs
some_among p i [] = refl
some_among p i (x ∷ xs) = some_step (p x) i (position_from p (i + 1) xs) (list_any p xs) (some_among p (i + 1) xs)

knows_nobody : Knows false Nobody
knows_nobody = (λ k. absurd (k refl), λ k. absurd cc)

knows_definition : (ds : List ScriptSymbol) (name : List ℕ) (b : Bool) (g : Provider) → Knows b g → Knows (is_among (names_of ds) name || b) (script_provider_or ds (index_of_definition ds name) g)
knows_definition ds name b g h = subst (λ a. Knows (a || b) (script_provider_or ds (index_of_definition ds name) g)) (some_among (λ n. bytes_eq n name) 0 (names_of ds)) (go (index_of_definition ds name))
  where
    go : (o : Option ℕ) → Knows (is_some o || b) (script_provider_or ds o g)
    go (Some i) = (λ k. refl, λ k e. absurd cc)
    go None = h

knows_export : (es : List parts.ModuleExport) (name : List ℕ) (b : Bool) (g : Provider) → Knows b g → Knows (is_among (map (λ (e : parts.ModuleExport). e.name) es) name || b) (module_provider_or (index_of_export es name) g)
knows_export es name b g h = subst (λ a. Knows (a || b) (module_provider_or (index_of_export es name) g)) (some_among (λ n. bytes_eq n name) 0 (map (λ (e : parts.ModuleExport). e.name) es)) (go (index_of_export es name))
  where
    go : (o : Option ℕ) → Knows (is_some o || b) (module_provider_or o g)
    go (Some i) = (λ k. refl, λ k e. absurd cc)
    go None = h

in_either : (a b c : Bool) → (a || (b || (c || false))) ≡ ((a || b) || c)
in_either x1 x2 x3 = grind (arith, common_steps)

agree_known : (es : List parts.ModuleExport) (name : List ℕ) (w : values.Provider) (g : Provider) → Agree es name w g → (w ≢ by_nobody) ↔ (g ≢ Nobody)
agree_known es name x y z = grind (arith, common_steps)

module _ (s : Script) (placement : Placement) (ys : List Layout) (ms : List Module) (h : AreObjectsOfLayouts ys ms) (placed : place_of s (needs_of ys) ≡ Ok placement) where
  abbrev p : values.Program
  p = whole.placed_program s placement ys

  abbrev q : Program
  q = program_of ms

  known : (name : List ℕ) → IsProvided p name ↔ (is_defined_name s q name ≡ true)
  known name =
      let own : List ScriptSymbol = script_definitions s placement in
      let weak : List ScriptSymbol = weak_symbols s.symbols in
      let agree = agree_known q.exports name (whole.provider_of s placement ys name) (linked.provider_of own q.exports weak name) (providers_agree s placement ys ms name h) in
      let inner : Knows (is_among (export_names q) name || (is_among (names_of weak) name || false)) (module_provider_or (index_of_export q.exports name) (script_provider_or weak (index_of_definition weak name) Nobody)) =
      knows_export q.exports name (is_among (names_of weak) name || false) (script_provider_or weak (index_of_definition weak name) Nobody) (knows_definition weak name false Nobody knows_nobody) in
      let knows = knows_definition own name (is_among (export_names q) name || (is_among (names_of weak) name || false)) (module_provider_or (index_of_export q.exports name) (script_provider_or weak (index_of_definition weak name) Nobody)) inner in
      let test : (is_among (names_of own) name || (is_among (export_names q) name || (is_among (names_of weak) name || false))) ≡ is_defined_name s q name =
      ap (λ ns. is_among ns name || (is_among (export_names q) name || (is_among (names_of weak) name || false))) (script_named s (needs_of ys) placement placed)
      ∙ in_either (is_among (script_names s) name) (is_among (export_names q) name) (is_among (names_of weak) name)
      ∙ ap (λ b. b || is_among (names_of weak) name) (sym (list_any-append (λ n. bytes_eq n name) (script_names s) (export_names q))) in
      (λ k. sym test ∙ knows.0 (agree.0 k), λ k. agree.1 (knows.1 (test ∙ k)))

-- ---- References without repetitions.

-- a predicate that all names satisfy is satisfied by each name among them
pub of_among : (P : List ℕ → Type 0) (names : List (List ℕ)) (n : List ℕ) → AllByRecursion P names → is_among names n ≡ true → P n
of_among P [] n h e = cc
of_among P (k ∷ names) n h e = grind (arith, common_steps, same_bytes, bytes_swap, (of_among P names n h.1))

module _ (P : List ℕ → Type 0) where
  once_all : (names before : List (List ℕ)) → AllByRecursion P before → AllByRecursion P names → AllByRecursion P (distinct_names before names)
  once_all [] before h k = h
  once_all (n ∷ names) before h k = grind (arith, common_steps, (once_all names (cond (is_among before n) before (before ++ n ∷ []))))

  once_parts : (names before : List (List ℕ)) → AllByRecursion P (distinct_names before names) → AllByRecursion P before × AllByRecursion P names
  once_parts [] before h = (h, tt)
  once_parts (n ∷ names) before h = let more = once_parts names (cond (is_among before n) before (before ++ n ∷ [])) h in grind (arith, common_steps, (of_among P before n), (all_parts P before (n ∷ [])))

none_left : (t : List ℕ → Bool) (names : List (List ℕ)) → (filter (λ n. not (t n)) names ≡ []) ↔ AllByRecursion (λ n. t n ≡ true) names
none_left t [] = (λ k. tt, λ k. refl)
none_left t (n ∷ names) = grind (arith, common_steps, (none_left t names))

-- linking further modules appends the imports of their objects
imports_after : (q : Program) (ms : List Module) → flat_map (λ (m : LinkedModule). m.imports) (with_modules q ms).members ≡ flat_map (λ (m : LinkedModule). m.imports) q.members ++ flat_map (λ (m : Module). m.object.imports) ms
imports_after q [] = sym (append-nil (flat_map (λ (m : LinkedModule). m.imports) q.members))
imports_after q (m ∷ ms) =
    imports_after (with_module q m) ms
    ∙ ap (λ ns. ns ++ flat_map (λ (m : Module). m.object.imports) ms) (flat_map-append (λ (m : LinkedModule). m.imports) q.members (member q m ∷ []) ∙ ap (λ ns. flat_map (λ (m : LinkedModule). m.imports) q.members ++ ns) (append-nil m.object.imports))
    ∙ append_assoc (flat_map (λ (m : LinkedModule). m.imports) q.members) m.object.imports (flat_map (λ (m : Module). m.object.imports) ms)

-- a link leaves no name unresolved if and only if the whole program provides the imports of the script and of all objects
pub none_open : (s : Script) (placement : Placement) (ys : List Layout) (ms : List Module) → AreObjectsOfLayouts ys ms → place_of s (needs_of ys) ≡ Ok placement → (unresolved_names s (program_of ms) ≡ []) ↔ (AllByRecursion (IsProvided (whole.placed_program s placement ys)) (symbol_imports s.symbols) × AllByRecursion (IsProvided (whole.placed_program s placement ys)) (flat_map (λ (m : Module). m.object.imports) ms))
none_open s placement ys ms h placed =
    let q : Program = program_of ms in
    let Given : List ℕ → Type 0 = λ n. is_defined_name s q n ≡ true in
    let Known : List ℕ → Type 0 = IsProvided (whole.placed_program s placement ys) in
    let own : List (List ℕ) = symbol_imports s.symbols in
    let members : List (List ℕ) = flat_map (λ (m : LinkedModule). m.imports) q.members in
    let objects : List (List ℕ) = flat_map (λ (m : Module). m.object.imports) ms in
    let same : members ≡ objects = imports_after no_program ms in
    let either = none_left (is_defined_name s q) (references s q) in (
      λ k. (
          let both = all_parts Given own members (once_parts Given (own ++ members) [] (either.0 k)).1 in (
            all_same Given Known (λ n e. (known s placement ys ms h placed n).1 e) own both.0,
            subst (AllByRecursion Known) same (all_same Given Known (λ n e. (known s placement ys ms h placed n).1 e) members both.1),
          )
          ),
      λ k. either.1 (once_all Given (own ++ members) [] tt (all_append Given own members (all_same Known Given (λ n e. (known s placement ys ms h placed n).0 e) own k.0) (all_same Known Given (λ n e. (known s placement ys ms h placed n).0 e) members (subst (AllByRecursion Known) (sym same) k.1)))),
    )

-- ---- The key of a name.

pub data KeyFor (names : List (List ℕ)) (n : List ℕ) : Type 0 where
  at_key : (k : ℕ) → key_of names n ≡ Some k → name_of names k ≡ n → KeyFor names n
  no_key : key_of names n ≡ None → is_among names n ≡ false → KeyFor names n

pub key_for : (names : List (List ℕ)) (n : List ℕ) → KeyFor names n
key_for [] n = no_key refl refl
key_for (m ∷ names) n = go (bytes_eq m n) refl (key_for names n)
  where
    go : (b : Bool) → bytes_eq m n ≡ b → KeyFor names n → KeyFor (m ∷ names) n
    go true e more = at_key 0 (at_front (λ k. bytes_eq k n) m names e) (same_bytes m n e)
    go false e (at_key k q called) = at_key (suc k) (after_front (λ k. bytes_eq k n) m names e ∙ ap (option_map suc) q) called
    go false e (no_key q none) = no_key (after_front (λ k. bytes_eq k n) m names e ∙ ap (option_map suc) q) (ap (λ b. b || is_among names n) e ∙ none)

-- ---- A module's forced imports are among its imports.

any_forced : (n : List ℕ) (ls : List LaidOutStatement) → list_any (λ k. bytes_eq n k) (flat_map (λ l. forced_imports_by l.stated) ls) ≡ true → list_any (λ k. bytes_eq n k) (flat_map (λ l. imports_of l.stated) ls) ≡ true
any_forced n [] e = e
any_forced n (l ∷ ls) e = grind (arith, common_steps, (any_forced n ls), list_any-append, or_right)

pub each_name : (P : List ℕ → Type 0) (names : List (List ℕ)) → ((n : List ℕ) → list_any (λ k. bytes_eq n k) names ≡ true → P n) → AllByRecursion P names
each_name P [] up = tt
each_name P (n ∷ names) up = grind (arith, common_steps, itself, (each_name P names))

pub among_swapped : (n : List ℕ) (names : List (List ℕ)) → is_among names n ≡ list_any (λ k. bytes_eq n k) names
among_swapped n [] = refl
among_swapped n (m ∷ names) = ap (λ b. b || is_among names n) (bytes_swap m n) ∙ ap (λ b. bytes_eq n m || b) (among_swapped n names)

forced_among : (y : Layout) → AllByRecursion (λ n. is_among (table_of y).imports n ≡ true) (forced_imports_of y)
forced_among y = grind (arith, common_steps, each_name, among_swapped, any_new, any_forced)

-- ---- A predicate on the names of keys.

module _ (P : List ℕ → Type 0) (names : List (List ℕ)) where
  abbrev pub OfKey : ℕ → Type 0
  OfKey k = P (name_of names k)

  abbrev pub OfPart : Part → Type 0
  OfPart x = AllByRecursion OfKey (part_imports x)

  abbrev pub OfSaid : Declaration → Type 0
  OfSaid x = AllByRecursion OfKey (declaration_imports names x)

  all_flat : {A : Type 0} (f : A → List ℕ) (xs : List A) → AllByRecursion (λ x. AllByRecursion OfKey (f x)) xs → AllByRecursion OfKey (flat_map f xs)
  all_flat f [] h = tt
  all_flat f (x ∷ xs) h = all_append OfKey (f x) (flat_map f xs) h.0 (all_flat f xs h.1)

  all_apart : {A : Type 0} (f : A → List ℕ) (xs : List A) → AllByRecursion OfKey (flat_map f xs) → AllByRecursion (λ x. AllByRecursion OfKey (f x)) xs
  all_apart f [] h = tt
  all_apart f (x ∷ xs) h = let both = all_parts OfKey (f x) (flat_map f xs) h in (both.0, all_apart f xs both.1)

  keys_named : (ks : List ℕ) → AllByRecursion P (map (name_of names) ks) → AllByRecursion OfKey ks
  keys_named [] h = tt
  keys_named (k ∷ ks) h = (h.0, keys_named ks h.1)

  named_keys : (ks : List ℕ) → AllByRecursion OfKey ks → AllByRecursion P (map (name_of names) ks)
  named_keys [] h = tt
  named_keys (k ∷ ks) h = (h.0, named_keys ks h.1)

  in_contents : (cs : List Content) → AllByRecursion (λ (c : Content). AllByRecursion OfPart c.parts) cs → AllByRecursion OfSaid (all_declarations cs) → AllByRecursion OfKey (flat_map (content_imports names) cs)
  in_contents [] h k = tt
  in_contents (c ∷ cs) h k = grind (arith, common_steps, (all_parts OfSaid c.said (all_declarations cs) k), (all_flat part_imports c.parts), (all_flat (declaration_imports names) c.said), (in_contents cs h.1))

  in_said : (cs : List Content) → AllByRecursion OfKey (flat_map (content_imports names) cs) → AllByRecursion OfSaid (all_declarations cs)
  in_said [] h = tt
  in_said (c ∷ cs) h = grind (arith, common_steps, (all_parts OfKey (content_imports names c) (flat_map (content_imports names) cs) h), (all_parts OfKey (flat_map part_imports c.parts) (flat_map (declaration_imports names) c.said)), (all_apart (declaration_imports names) c.said), (in_said cs))

  -- if the keys without repetitions satisfy the predicate, all keys do
  all_keys : (ks : List ℕ) → AllByRecursion OfKey (distinct_keys [] ks) → AllByRecursion OfKey ks
  all_keys ks h = each_among OfKey ks (λ k e. one_of OfKey (distinct_keys [] ks) k h (any_once (nat_eq k) [] ks ∙ e))

  demands : (ss : List Declaration) → AllByRecursion OfSaid ss → AllByRecursion (λ n. is_among names n ≡ true) (demanded_names ss) → AllByRecursion P (demanded_names ss)
  demands [] h a = tt
  demands (ExportedSymbol n place f ∷ ss) h a = demands ss h.1 a
  demands (ForcedImport n ∷ ss) h a = grind (arith, common_steps, key_for, (demands ss h.1 a.1))
  demands (LinkAssertion act place words f ∷ ss) h a = demands ss h.1 a

-- ---- Objects.

-- a predicate that all imports of an object satisfy is satisfied by the forced imports of the module
pub forced_hold : (P : List ℕ → Type 0) (y : Layout) (m : Module) → IsObjectOfLayout y m → AllByRecursion P m.object.imports → AllByRecursion P (forced_imports_of y)
forced_hold P y m h all =
    let c = contents_of y m h in
    let names : List (List ℕ) = (table_of y).imports in
    let keys : AllByRecursion (OfKey P names) (import_keys names c.contents) = keys_named P names (import_keys names c.contents) (subst (λ (o : Object). AllByRecursion P o.imports) c.object all) in
    let same : demanded_names (all_declarations c.contents) ≡ forced_imports_of y = all_demanded y c.contents c.found in
    let told = in_said P names c.contents (all_keys P names (flat_map (content_imports names) c.contents) keys) in
    subst (AllByRecursion P) same
    (demands P names (all_declarations c.contents) told (subst (AllByRecursion (λ n. is_among names n ≡ true)) (sym same) (forced_among y)))

-- a predicate that the imports of all contents satisfy is satisfied by the imports of the object
pub imports_hold : (P : List ℕ → Type 0) (y : Layout) (m : Module) → (h : IsObjectOfLayout y m) → AllByRecursion (λ (c : Content). AllByRecursion (OfPart P (table_of y).imports) c.parts) (contents_of y m h).contents → AllByRecursion (OfSaid P (table_of y).imports) (all_declarations (contents_of y m h).contents) → AllByRecursion P m.object.imports
imports_hold P y m h parts told =
    let c = contents_of y m h in
    let names : List (List ℕ) = (table_of y).imports in
    let all : List ℕ = flat_map (content_imports names) c.contents in
    subst (λ (o : Object). AllByRecursion P o.imports) (sym c.object)
    (named_keys P names (import_keys names c.contents) (all_once (OfKey P names) [] all tt (in_contents P names c.contents parts told)))
