-- The resolution of slots in order.
use Rattle.std.proofs.Common.{◌≡◌, false, ◌∙◌, ℕ, List, [], ◌∷◌, ◌++◌, map, refl, sym, ap, subst, append_assoc, arith}
use Rattle.std.specs.Prelude.{⊤, IfOk, filter_map, Result, Ok, Err}
use Rattle.std.specs.List.{AllByRecursion}
use Rattle.std.proofs.lemmas.Grind.{common_steps}
use Rattle.std.proofs.lemmas.List.{append-nil}
use Rattle.std.proofs.lemmas.List.Elements.{filter_map-append}
use Rattle.base65.specs.Outcome.{◌>>=◌}
use Rattle.syntax65.specs.declared.source_location.SourceLocation.{SourceLocation}
use Rattle.object65.specs.declared.object.Export.{Export}
use Rattle.object65.specs.declared.object.Origin.{Origin}
use Rattle.semantics65.specs.Contents.{Content, Declaration, ExportedSymbol, ForcedImport, LinkAssertion, exported_name, exported_names}
use Rattle.semantics65.specs.Module.{Resolution, PieceResult, Piece, LocatedFault, Slot, slot_result, result_then, unrepeated_result, resolution_of}
use Rattle.semantics65.specs.Numbering.{all_declarations, export_of}
use Rattle.semantics65.specs.Symbols.{Symbols}
use Rattle.semantics65.specs.declared.contexts.Context.{Context}

-- ---- Concatenation of resolutions.

-- a resolution without an error: its contents and its warnings
abbrev pub found_all : List Content → List ℕ → Resolution
found_all cs said = record { found = Ok cs; printed_warnings = said }

abbrev pub after_found : Result (List Content) LocatedFault → List ℕ → Resolution → Resolution
after_found (Ok cs) said b = record { found = b.found >>= (λ ds. Ok (cs ++ ds)); printed_warnings = said ++ b.printed_warnings }
after_found (Err e) said b = record { found = Err e; printed_warnings = said }

-- a resolution, followed by another one
abbrev pub after : Resolution → Resolution → Resolution
after a b = after_found a.found a.printed_warnings b

prepended : (r : Result (List Content) LocatedFault) → (r >>= (λ ds. Ok ([] ++ ds))) ≡ r
prepended (Ok ds) = refl
prepended (Err e) = refl

pub nothing_after : (b : Resolution) → after (found_all [] []) b ≡ b
nothing_after b = ap (λ r. record { found = r; printed_warnings = b.printed_warnings }) (prepended b.found)

-- the case that the next slot has a result
pub resolved_more : (y : Symbols) (names : List (List ℕ)) (cs : List Content) (said : List ℕ) (x : Slot) (xs : List Slot) (m : PieceResult) → slot_result y names x ≡ Ok m →
    after (found_all cs said) (resolution_of y names (x ∷ xs)) ≡ after (found_all (cs ++ m.content ∷ []) (said ++ m.warning)) (resolution_of y (names ++ exported_names m.content.said) xs)
resolved_more y names cs said x xs m made = grind (arith, common_steps, append_assoc)

-- the case that the next slot has an error, which ends the resolution
pub resolved_stops : (y : Symbols) (names : List (List ℕ)) (cs : List Content) (said : List ℕ) (x : Slot) (xs : List Slot) (e : LocatedFault) → slot_result y names x ≡ Err e →
    after (found_all cs said) (resolution_of y names (x ∷ xs)) ≡ record { found = Err e; printed_warnings = said }
resolved_stops y names cs said x xs e made = grind (arith, common_steps, append-nil)

-- ---- Names.

pub names_append : (ss ts : List Declaration) → exported_names (ss ++ ts) ≡ exported_names ss ++ exported_names ts
names_append ss ts = filter_map-append exported_name ss ts

-- the names of the exports are the names that the declarations export
pub exports_named : (at : SourceLocation → Origin) (s i : List ℕ) (ss : List Declaration) → map (λ (e : Export). e.name) (filter_map (export_of at s i) ss) ≡ exported_names ss
exports_named at s i [] = refl
exports_named at s i (ExportedSymbol n location f ∷ ss) = ap (λ ns. n ∷ ns) (exports_named at s i ss)
exports_named at s i (ForcedImport n ∷ ss) = exports_named at s i ss
exports_named at s i (LinkAssertion act location words f ∷ ss) = exports_named at s i ss

-- ---- The content of each slot.

-- the slots have these contents, after exports of these names
abbrev pub AreFound : Symbols → List (List ℕ) → List Slot → List Content → Type 0
AreFound y names [] [] = ⊤
AreFound y names (x ∷ xs) (c ∷ cs) =
    (warning : List ℕ) × (slot_result y names x ≡ Ok (record { content = c; warning = warning }))
    × AreFound y (names ++ exported_names c.said) xs cs
AreFound y names _ _ = ⊥

-- the content of the first slot, followed by those of the rest
after_first : (y : Symbols) (names : List (List ℕ)) (x : Slot) (xs : List Slot) (m : PieceResult) → slot_result y names x ≡ Ok m → (r : Result (List Content) LocatedFault) →
    ((ds : List Content) → r ≡ Ok ds → AreFound y (names ++ exported_names m.content.said) xs ds) → (cs : List Content) → (r >>= (λ ds. Ok (m.content ∷ ds))) ≡ Ok cs → AreFound y names (x ∷ xs) cs
after_first y names x xs m made (Err e) rest cs h = absurd cc
after_first y names x xs m made (Ok ds) rest cs h = (let same : (m.content ∷ ds) ≡ cs = cc in subst (AreFound y names (x ∷ xs)) same (m.warning, made, rest ds refl))

with_first : (y : Symbols) (names : List (List ℕ)) (x : Slot) (xs : List Slot) (cs : List Content) (r : Result PieceResult LocatedFault) → slot_result y names x ≡ r →
    ((m : PieceResult) (ds : List Content) → (resolution_of y (names ++ exported_names m.content.said) xs).found ≡ Ok ds → AreFound y (names ++ exported_names m.content.said) xs ds) →
    (result_then r (λ m. resolution_of y (names ++ exported_names m.content.said) xs)).found ≡ Ok cs → AreFound y names (x ∷ xs) cs
with_first y names x xs cs (Err e) made rest h = absurd cc
with_first y names x xs cs (Ok m) made rest h = after_first y names x xs m made (resolution_of y (names ++ exported_names m.content.said) xs).found (rest m) cs h

pub found_each : (y : Symbols) (names : List (List ℕ)) (xs : List Slot) (cs : List Content) → (resolution_of y names xs).found ≡ Ok cs → AreFound y names xs cs
found_each y names [] [] h = tt
found_each y names [] (c ∷ cs) h = absurd cc
found_each y names (x ∷ xs) cs h = with_first y names x xs cs (slot_result y names x) refl (λ m ds k. found_each y (names ++ exported_names m.content.said) xs ds k) h

-- the contents of a concatenation of slots, in two parts
pub record Split (y : Symbols) (names : List (List ℕ)) (xs ys : List Slot) (cs : List Content) : Type 0 where
  pub first : List Content
  pub last : List Content
  pub all : first ++ last ≡ cs
  pub before : AreFound y names xs first
  pub following : AreFound y (names ++ exported_names (all_declarations first)) ys last

pub found_split : (y : Symbols) (names : List (List ℕ)) (xs ys : List Slot) (cs : List Content) → AreFound y names (xs ++ ys) cs → Split y names xs ys cs
found_split y names [] ys cs h = record { first = []; last = cs; all = refl; before = tt; following = subst (λ ns. AreFound y ns ys cs) (sym (append-nil names)) h }
found_split y names (x ∷ xs) ys [] h = absurd h
found_split y names (x ∷ xs) ys (c ∷ cs) (w, made, h) =
    let rest = found_split y (names ++ exported_names c.said) xs ys cs h in
    record {
      first = c ∷ rest.first;
      last = rest.last;
      all = ap (λ ds. c ∷ ds) rest.all;
      before = (w, made, rest.before);
      following = subst (λ ns. AreFound y ns ys rest.last) (append_assoc names (exported_names c.said) (exported_names (all_declarations rest.first)) ∙ ap (λ ns. names ++ ns) (sym (names_append c.said (all_declarations rest.first)))) rest.following;
    }

-- if the content of each slot with the property `P` has the property `Q`, then so do the contents of all such slots
pub found_all_so : (y : Symbols) (P : Slot → Type 0) (Q : Content → Type 0) →
    ((names : List (List ℕ)) (x : Slot) (m : PieceResult) → P x → slot_result y names x ≡ Ok m → Q m.content) →
    (names : List (List ℕ)) (xs : List Slot) (cs : List Content) → AllByRecursion P xs → AreFound y names xs cs → AllByRecursion Q cs
found_all_so y P Q so names [] [] all h = tt
found_all_so y P Q so names [] (c ∷ cs) all h = absurd h
found_all_so y P Q so names (x ∷ xs) [] all h = absurd h
found_all_so y P Q so names (x ∷ xs) (c ∷ cs) (p, all) (w, made, h) = (so names x (record { content = c; warning = w }) p made, found_all_so y P Q so (names ++ exported_names c.said) xs cs all h)

-- ---- The result of a piece requests no section.

abbrev pub asks_none : PieceResult → Type 0
asks_none m = m.content.requests_section ≡ false

pub made_asks : (y : Symbols) (location : SourceLocation) (s : Context) (p : Piece) → IfOk (unrepeated_result y location s p) asks_none
made_asks y location s x1 = grind (arith, common_steps)
