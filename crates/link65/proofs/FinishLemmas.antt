-- The result of a link, from the results of its parts, and the errors that a link can return.
use Rattle.std.proofs.Common.{◌≡◌, ◌≢◌, ℕ, zero, suc, ◌+◌, ◌<◌, ◌≤◌, refl, sym, ◌∙◌, ap, subst, arith, List, [], ◌∷◌, length, slice_get, Option, Some, None, Bool, true, false, Result, Ok, Err, ◌⊎◌, inl, inr, nat_lt, map, ℤ, ◌||◌, ◌++◌, ◌%◌, ◌^◌}
use Rattle.std.specs.Prelude.{IfErr, replicate}
use Rattle.std.proofs.lemmas.Grind.{common_steps}
use Rattle.std.proofs.lemmas.Bool.Decides.{nat_tests}
use Rattle.std.proofs.lemmas.List.{length-replicate}
use Rattle.std.proofs.lemmas.Option.{gets}
use Rattle.base65.specs.Outcome.{◌>>=◌, RefinesProp, Unless, AndThen}
use Rattle.base65.specs.Values.{value1}
use Rattle.object65.specs.Form.{Form, lit, sec, imp, prefix, binary}
use Rattle.object65.specs.FormValue.{or_none, value_in}
use Rattle.link65.specs.declared.evaluation.ExportState.{ExportState}
use Rattle.link65.specs.declared.evaluation.ExportState.TheVariants.{Untouched, BeingEvaluated, Found}
use Rattle.link65.specs.declared.evaluation.EvalBlocked.{EvalBlocked}
use Rattle.link65.specs.declared.evaluation.EvalBlocked.TheVariants.{Fault}
use Rattle.link65.specs.declared.parts.Provider.{Provider}
use Rattle.link65.specs.declared.parts.Provider.TheVariants.{ByModule, ByScript, Nobody}
use Rattle.link65.specs.declared.parts.ModuleBindings.{ModuleBindings}
use Rattle.link65.specs.declared.parts.ValueFault.{ValueFault}
use Rattle.link65.specs.declared.parts.ValueFault.TheVariants.{NoValue, Unresolved}
use Rattle.link65.specs.Placed.{AllFound, AreFinalStates, ExportStatesInvariant, IsFound, PreservesResults, known_result, final_result, import_attempt, circular_if_active, export_results, form_attempt, HasCorrectProviders, IsCheckedLink, IsPlacedCheckedLink, ChecksSucceed, RunAddresses, address_in, provider_in, bindings_in, run_in}
use Rattle.link65.specs.Values.{AreExports, ExportEvaluatesTo, Linkage, base_of, provider_at, import_value, table_exports, value_of_form, linkage, Exports, linkage_of, address_of, module_bindings, row_bytes, run_of}
use Rattle.script65.specs.declared.placement.Placement.{Placement}
use Rattle.script65.specs.declared.script.Script.{Script}
use Rattle.link65.specs.declared.fault.LinkFault.{LinkFault}
use Rattle.link65.specs.declared.finishing.CheckedLink.{CheckedLink}
use Rattle.link65.specs.Faults.{is_memory, HasExpectedError, is_finish_fault}
use Rattle.link65.specs.Programs.{Program}
use Rattle.link65.specs.declared.linking.Linked.{Linked}
use Rattle.base65.specs.declared.output.OutputFile.{OutputFile}
use Rattle.std.specs.Int.{w64, cast_signed}
use Rattle.link65.specs.declared.parts.ScriptSymbol.{ScriptSymbol}
use Rattle.link65.specs.declared.parts.SectionPosition.{SectionPosition}
use Rattle.link65.specs.declared.resolving.DefinedSymbols.{DefinedSymbols}
use Rattle.link65.specs.Files.{AddsAreas, IsAreaFile, RowBytes, written_row_bytes}
use Rattle.link65.specs.Names.{provider_of, script_definitions, weak_symbols}
use Rattle.link65.specs.Texts.{warnings_of_rows}
use Rattle.link65.specs.declared.parts.ModuleAssertion.{ModuleAssertion}
use Rattle.link65.specs.declared.parts.ModuleExport.{ModuleExport}
use Rattle.link65.specs.declared.parts.LinkedModule.{LinkedModule}
use Rattle.link65.specs.declared.parts.ValueFixup.{ValueFixup}
use Rattle.link65.specs.Links.{check_assert, check_asserts, check_export, check_fixup, check_each, IsSuccessfulLink, IsPlacedLink, check_result}

-- ---- The table of export results.

pub table_at : (states : List ExportState) (x : ℕ) (r : Result ℤ ValueFault) → slice_get states x ≡ Some (Found r) → table_exports (export_results states) x ≡ r
table_at [] x r e = cc
table_at (m ∷ states) zero r e = let is : m ≡ Found r = cc in rw is refl
table_at (m ∷ states) (suc x) r e = table_at states x r e

pub table_past : (states : List ExportState) (x : ℕ) → slice_get states x ≡ None → table_exports (export_results states) x ≡ Err Unresolved
table_past [] x e = refl
table_past (m ∷ states) zero e = cc
table_past (m ∷ states) (suc x) e = table_past states x e

length_table : (states : List ExportState) → length (export_results states) ≡ length states
length_table [] = refl
length_table (m ∷ states) = ap suc (length_table states)

pub all_exports : (l : Linkage) (states : List ExportState) → AreFinalStates l states → AreExports l (export_results states)
all_exports l states h = record {
  long = length_table states ∙ h.settled.long;
  each = λ x inside. each x (let long = h.settled.long in let k : x < length states = omega arith in h.found x k);
}
  where
    each : (x : ℕ) → IsFound states x → ExportEvaluatesTo l x (table_exports (export_results states) x)
    each x (r, e) = let P : Result ℤ ValueFault → Type 0 = λ z. ExportEvaluatesTo l x z in subst P (sym (table_at states x r e)) (h.settled.all_correct x r e)

-- ---- A form, if all exports are found.

marked_found : (states : List ExportState) → AllFound states → (x : ℕ) (o : Option ExportState) → slice_get states x ≡ o → circular_if_active x o ≡ known_result (table_exports (export_results states) x)
marked_found states h x None e = rw (table_past states x e) refl
marked_found states h x (Some (Found r)) e = rw (table_at states x r e) refl
marked_found states h x (Some Untouched) e = let k : x < length states = grind (arith, common_steps, gets) in let (r, f) = h x k in absurd cc
marked_found states h x (Some BeingEvaluated) e = let k : x < length states = grind (arith, common_steps, gets) in let (r, f) = h x k in absurd cc

import_found : (states : List ExportState) → AllFound states → (g : Provider) → import_attempt states g ≡ known_result (import_value (table_exports (export_results states)) g)
import_found states h (ByModule x) = marked_found states h x (slice_get states x) refl
import_found states h (ByScript v) = refl
import_found states h Nobody = refl

bind_found : (r : Result ℤ ValueFault) (t : Result ℤ EvalBlocked) (f : ℤ → Result ℤ ValueFault) (u : ℤ → Result ℤ EvalBlocked) → t ≡ known_result r → ((v : ℤ) → u v ≡ known_result (f v)) → (t >>= u) ≡ known_result (r >>= f)
bind_found x t f u e h = grind (arith, common_steps)

none_found : (o : Option ℤ) → or_none (Fault NoValue) o ≡ known_result (or_none NoValue o)
none_found x = grind (arith, common_steps)

form_found : (base : ℕ → ℤ) (o : ℕ → Result ℤ ValueFault) (t : ℕ → Result ℤ EvalBlocked) → ((j : ℕ) → t j ≡ known_result (o j)) → (f : Form) → value_in (Fault NoValue) base t f ≡ known_result (value_in NoValue base o f)
form_found base o t h (lit v) = refl
form_found base o t h (sec k a) = refl
form_found base o t h (imp j) = h j
form_found base o t h (prefix op f) = bind_found (value_in NoValue base o f) (value_in (Fault NoValue) base t f) (λ a. Ok (value1 op a)) (λ a. Ok (value1 op a)) (form_found base o t h f) (λ v. refl)
form_found base o t h (binary op f g) = grind (arith, common_steps, (form_found base o t h f), (form_found base o t h g), bind_found, none_found)

pub tried_found : (states : List ExportState) → AllFound states → (m : Option ModuleBindings) (f : Form) → form_attempt m states f ≡ known_result (value_in NoValue (base_of m) (λ j. import_value (table_exports (export_results states)) (provider_at m j)) f)
tried_found states h m f = form_found (base_of m) (λ j. import_value (table_exports (export_results states)) (provider_at m j)) (λ j. import_attempt states (provider_at m j)) (λ j. import_found states h (provider_at m j)) f

-- the final result of a known result is that result
outcome_found : (r : Result ℤ ValueFault) → final_result (known_result r) ≡ r
outcome_found x = grind (arith, common_steps)

pub value_found : (l : Linkage) (states : List ExportState) → AllFound states → (owner : ℕ) (f : Form) → final_result (form_attempt (slice_get l.modules owner) states f) ≡ value_of_form l (table_exports (export_results states)) owner f
value_found l states h owner f = ap final_result (tried_found states h (slice_get l.modules owner) f) ∙ outcome_found (value_of_form l (table_exports (export_results states)) owner f)

-- ---- All exports in order.

-- an export that isn't untouched is found
pub touched_found : (l : Linkage) (states : List ExportState) (x : ℕ) → ExportStatesInvariant l states → x < length states → slice_get states x ≢ Some Untouched → IsFound states x
touched_found l states x h k n = grind (arith, common_steps, common_steps, gets)

-- the exports before index `n` are found
abbrev pub FoundBelow : ℕ → List ExportState → Type 0
FoundBelow n states = (x : ℕ) → x < n → IsFound states x

pub below_kept : (n : ℕ) (old new : List ExportState) → PreservesResults old new → FoundBelow n old → FoundBelow n new
below_kept n old new k h x lt = k x (h x lt)

pub below_next : (n : ℕ) (states : List ExportState) → FoundBelow n states → IsFound states n → FoundBelow (n + 1) states
below_next n states h f x lt = go (nat_cases x n lt)
  where
    nat_cases : (x n : ℕ) → x < n + 1 → (x < n) ⊎ (x ≡ n)
    nat_cases x n lt = pick (nat_lt x n) refl
      where
        pick : (b : Bool) → nat_lt x n ≡ b → (x < n) ⊎ (x ≡ n)
        pick true e = inl (grind (arith, nat_tests))
        pick false e = inr (let ge : n ≤ x = grind (arith, nat_tests) in omega arith)

    go : ((x < n) ⊎ (x ≡ n)) → IsFound states x
    go (inl k) = h x k
    go (inr e) = let P : ℕ → Type 0 = λ y. IsFound states y in subst P (sym e) f

-- ---- From a checked program to a placed program.

finds_by : (P Q : Result CheckedLink LinkFault → Type 0) → ((r : Result CheckedLink LinkFault) → P r → Q r) → (r : Result CheckedLink LinkFault) → RefinesProp is_memory P r → RefinesProp is_memory Q r
finds_by x y h z k = grind (arith, common_steps)

-- a result checked with the final states of the exports is a checked result of the placed program
pub placed_by : (s : Script) (p : Program) (placement : Placement) (modules : List ModuleBindings) (states : List ExportState) (r : Result CheckedLink LinkFault) → modules ≡ map (module_bindings s p placement) p.members → AreFinalStates (linkage modules p.exports) states → RefinesProp is_memory (IsCheckedLink s p placement (linkage modules p.exports) (table_exports (export_results states))) r → RefinesProp is_memory (IsPlacedCheckedLink s p placement) r
placed_by s p placement modules states r same found k =
    finds_by (IsCheckedLink s p placement (linkage modules p.exports) (table_exports (export_results states))) (IsPlacedCheckedLink s p placement) (λ q h. whole q h) r k
  where
    one : linkage modules p.exports ≡ linkage_of s p placement
    one = ap (λ (ms : List ModuleBindings). linkage ms p.exports) same

    whole : (q : Result CheckedLink LinkFault) → IsCheckedLink s p placement (linkage modules p.exports) (table_exports (export_results states)) q → IsPlacedCheckedLink s p placement q
    whole q h = (
      export_results states,
      subst (λ (l : Linkage). AreExports l (export_results states)) one (all_exports (linkage modules p.exports) states found),
      subst (λ (l : Linkage). IsCheckedLink s p placement l (table_exports (export_results states)) q) one h,
    )

-- ---- The addresses of sections and the providers of imports.

same_all : {A B : Type 0} (f g : A → B) → ((x : A) → f x ≡ g x) → (xs : List A) → map f xs ≡ map g xs
same_all f g same [] = refl
same_all f g same (x ∷ xs) = ap (λ y. y ∷ map f xs) (same x) ∙ ap (λ ys. g x ∷ ys) (same_all f g same xs)

pub resolved_all : (s : Script) (p : Program) (placement : Placement) (n : DefinedSymbols) (runs : RunAddresses) → HasCorrectProviders n → n.script_symbols.now ≡ script_definitions s placement → n.exports.now ≡ p.exports → n.weak.now ≡ weak_symbols s.symbols → ((name : List ℕ) → run_in runs name ≡ run_of s.rows placement.rows name) → (members : List LinkedModule) → map (bindings_in n runs) members ≡ map (module_bindings s p placement) members
resolved_all s p placement n runs are script_symbols exports weak run members = same_all (bindings_in n runs) (module_bindings s p placement) one members
  where
    provided : (name : List ℕ) → provider_in n name ≡ provider_of (script_definitions s placement) p.exports (weak_symbols s.symbols) name
    provided name =
        are.provided name
        ∙ ap (λ (ds : List ScriptSymbol). provider_of ds n.exports.now n.weak.now name) script_symbols
        ∙ ap (λ (es : List ModuleExport). provider_of (script_definitions s placement) es n.weak.now name) exports
        ∙ ap (λ (ds : List ScriptSymbol). provider_of (script_definitions s placement) p.exports ds name) weak

    at : (section : SectionPosition) → address_in runs section ≡ address_of s.rows placement.rows section
    at section = ap (λ (r : ℕ). cast_signed w64 ((r + section.offset) % 2 ^ 64)) (run section.segment)

    one : (m : LinkedModule) → bindings_in n runs m ≡ module_bindings s p placement m
    one m =
        ap (λ (bases : List ℤ). record { bases = bases; providers = map (provider_in n) m.imports }) (same_all (address_in runs) (address_of s.rows placement.rows) at m.sections)
        ∙ ap (λ (providers : List Provider). record { bases = map (address_of s.rows placement.rows) m.sections; providers = providers }) (same_all (provider_in n) _ provided m.imports)

-- ---- From the parts of a link to the whole link.

-- a program that passes the checks is linked to its files
pub passed_link : (output : List ℕ) (s : Script) (p : Program) (placement : Placement) (x : CheckedLink) (files : List OutputFile) → IsPlacedCheckedLink s p placement (Ok x) → ((bytes : RowBytes) → x.rows.items ≡ map (written_row_bytes bytes) s.rows → AddsAreas output (IsAreaFile s.rows placement bytes) 0 s.areas [] files) → IsPlacedLink output s p placement (Ok (record { files = files; warnings = x.warnings; map = x.map }))
passed_link output s p placement x files (table, are, passes) lays = (table, are, go (check_result s p l exports) passes)
  where
    l : Linkage
    l = linkage_of s p placement

    exports : Exports
    exports = table_exports table

    go : (head : Result (List ℕ) LinkFault) → AndThen head (ChecksSucceed s p placement l exports) (Ok x) → AndThen head (IsSuccessfulLink output s p placement l exports) (Ok (record { files = files; warnings = x.warnings; map = x.map }))
    go (Err e) h = absurd cc
    go (Ok warnings) (rows, warned, mapped) = (
      files,
      lays (row_bytes l exports p.segments) rows,
      ap (λ (t : List ℕ). Ok (record { files = files; warnings = t; map = x.map })) warned ∙ ap (λ (t : List ℕ). Ok (record { files = files; warnings = warnings_of_rows s.rows p.segments ++ warnings; map = t })) mapped,
    )

-- the error of a program that fails a check is the error of the link
pub passed_refused : (output : List ℕ) (s : Script) (p : Program) (placement : Placement) (e : LinkFault) → IsPlacedCheckedLink s p placement (Err e) → IsPlacedLink output s p placement (Err e)
passed_refused output s p placement e (table, are, passes) = (table, are, go (check_result s p (linkage_of s p placement) (table_exports table)) passes)
  where
    go : (head : Result (List ℕ) LinkFault) → AndThen head (ChecksSucceed s p placement (linkage_of s p placement) (table_exports table)) (Err e) → AndThen head (IsSuccessfulLink output s p placement (linkage_of s p placement) (table_exports table)) (Err e)
    go (Ok warnings) h = absurd h
    go (Err f) h = cc

pub finds_refused : (output : List ℕ) (s : Script) (p : Program) (placement : Placement) (e : LinkFault) → RefinesProp is_memory (IsPlacedCheckedLink s p placement) (Err e) → RefinesProp is_memory (IsPlacedLink output s p placement) (Err e)
finds_refused output s p placement e h = go (is_memory e) h
  where
    go : (b : Bool) → Unless b (IsPlacedCheckedLink s p placement (Err e)) → Unless b (IsPlacedLink output s p placement (Err e))
    go true u = tt
    go false u = passed_refused output s p placement e u

pub first_ok : {A B : Type 0} (head : Result A LinkFault) (x : A) (Next : A → Result B LinkFault → Type 0) (r : Result B LinkFault) → head ≡ Ok x → Next x r → AndThen head Next r
first_ok {A} {B} head x Next r e h = subst (λ (z : Result A LinkFault). AndThen z Next r) (sym e) h

-- ---- The errors that a link can return.

-- an error, if there is one, is among those that a link can return
abbrev Refused : {A : Type 0} → Result A LinkFault → Type 0
Refused r = IfErr r (λ e. is_finish_fault e ≡ true)

following : {A B : Type 0} (r : Result A LinkFault) (k : A → Result B LinkFault) → Refused r → ((x : A) → Refused (k x)) → Refused (r >>= k)
following x k first next = grind (arith, common_steps)

-- ---- Values.

each_so : {A : Type 0} (check : A → Result (Unit {0}) LinkFault) → ((x : A) → Refused (check x)) → (xs : List A) → Refused (check_each check xs)
each_so check one [] = tt
each_so check one (x ∷ xs) = following (check x) (λ u. check_each check xs) (one x) (λ u. each_so check one xs)

fixup_so : (l : Linkage) (members : List LinkedModule) (exports : Exports) (w : ValueFixup) → Refused (check_fixup l members exports w)
fixup_so l members exports w = grind (arith, common_steps)

export_so : (l : Linkage) (members : List LinkedModule) (exports : Exports) (e : ModuleExport) → Refused (check_export l members exports e)
export_so l members exports e = grind (arith, common_steps)

assert_so : (l : Linkage) (members : List LinkedModule) (exports : Exports) (a : ModuleAssertion) → Refused (check_assert l members exports a)
assert_so l members exports a = grind (arith, common_steps)

asserts_so : (l : Linkage) (members : List LinkedModule) (exports : Exports) (all : List ModuleAssertion) → Refused (check_asserts l members exports all)
asserts_so l members exports [] = tt
asserts_so l members exports (a ∷ rest) = grind (arith, common_steps, (asserts_so l members exports rest), following, assert_so)

checked_so : (s : Script) (p : Program) (l : Linkage) (exports : Exports) → Refused (check_result s p l exports)
checked_so s p l exports = grind (arith, common_steps, following, each_so, fixup_so, export_so, asserts_so)

-- ---- The whole link.

first_so : {A B : Type 0} (r : Result A LinkFault) (Next : A → Result B LinkFault → Type 0) (e : LinkFault) → Refused r → ((x : A) → Next x (Err e) → is_finish_fault e ≡ true) → AndThen r Next (Err e) → is_finish_fault e ≡ true
first_so x y e so next h = grind (arith, common_steps)

image_so : (output : List ℕ) (s : Script) (p : Program) (placement : Placement) (l : Linkage) (exports : Exports) (warnings : List ℕ) (e : LinkFault) → IsSuccessfulLink output s p placement l exports warnings (Err e) → is_finish_fault e ≡ true
image_so output s p placement l exports warnings e h = let never = h.2 in absurd cc

placed_link_so : (output : List ℕ) (s : Script) (p : Program) (placement : Placement) (e : LinkFault) → IsPlacedLink output s p placement (Err e) → is_finish_fault e ≡ true
placed_link_so output s p placement e h = grind (arith, common_steps, first_so, checked_so, image_so)

outside_or : (b own : Bool) (P : Type 0) → Unless b P → (P → own ≡ true) → (b || own) ≡ true
outside_or true own P h so = refl
outside_or false own P h so = so h

-- every error of a link is *out of memory* or one that a link can return
pub refuses_so : (output : List ℕ) (s : Script) (p : Program) (placement : Placement) (r : Result Linked LinkFault) → RefinesProp is_memory (IsPlacedLink output s p placement) r → HasExpectedError is_finish_fault r
refuses_so output s p placement (Ok x) h = tt
refuses_so output s p placement (Err e) h = outside_or (is_memory e) (is_finish_fault e) (IsPlacedLink output s p placement (Err e)) h (placed_link_so output s p placement e)
