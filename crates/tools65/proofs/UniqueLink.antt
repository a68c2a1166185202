-- A command line of the linker has at most one result.
use Rattle.std.proofs.Common.{◌≡◌, ◌∙◌, ℕ, ◌+◌, List, [], ◌∷◌, Bool, true, false, Result, Ok, Err, sym, ap, subst}
use Rattle.std.specs.FinMap.{get}
use Rattle.std.specs.Prelude.{Option, Some}
use Rattle.base65.specs.Outcome.{AndThen}
use Rattle.base65.proofs.Outcome.{first_once}
use Rattle.base65.specs.Store.{Files}
use Rattle.script65.proofs.ReadingUniqueness.{one_reading}
use Rattle.script65.specs.Scripts.{IsScript}
use Rattle.script65.specs.declared.fault.ScriptFault.{ScriptFault}
use Rattle.script65.specs.declared.script.Script.{Script}
use Rattle.library65.proofs.Selections.{one_selection}
use Rattle.library65.specs.declared.index.Entry.{Entry}
use Rattle.link65.proofs.OutcomeLemmas.{link_once}
use Rattle.link65.specs.Names.{strong_names, open_names}
use Rattle.link65.specs.Links.{LinkOf, check_unique_names}
use Rattle.link65.specs.Programs.{Module, program_of}
use Rattle.link65.specs.declared.fault.LinkFault.{LinkFault}
use Rattle.link65.specs.declared.linking.Linked.{Linked}
use Rattle.cli65.specs.Line.{LinkView}
use Rattle.ld65.specs.declared.fault.LinkCommandFault.{LinkCommandFault}
use Rattle.ld65.specs.declared.fault.LinkCommandFault.TheVariants as refusal
use Rattle.ld65.specs.Linkage.{AreInputs, AreNeeded, IfLibraryElse, IsInput, IsInputLink, IsLibraryInput, IsCommandLink, IsScriptedLink, IsLinkResult, as_library, as_command_fault, as_script, selected_entries, index_in, is_library_in, output_of, text_of, with_file, with_members}
use Rattle.tools65.proofs.SelectedModules.{ok_err, ok_same}

-- ---- The modules of inputs.

module _ (s : Script) (m : Files) where
  needed_once : (before : List Module) (library : List ℕ) (es : List Entry) (r t : Result (List Module) LinkCommandFault) → AreNeeded s m library before es r → AreNeeded s m library before es t → r ≡ t
  needed_once before library es r t h k =
      let same : h.0 ≡ k.0 = one_selection es (open_names s (program_of before)) (strong_names s (program_of before)) h.0 k.0 h.1 k.1 in
      h.2 ∙ ap (λ (indices : List ℕ). with_members s m library before (selected_entries es indices)) same ∙ sym k.2

  library_once : (k : ℕ) (before : List Module) (library : List ℕ) (r t : Result (List Module) LinkCommandFault) → IsLibraryInput s m k before library r → IsLibraryInput s m k before library t → r ≡ t
  library_once k before library r t = first_once (as_library k (index_in m library)) (AreNeeded s m library before) r t (λ es. needed_once before library es r t)

  kind_once : (b : Bool) (k : ℕ) (before : List Module) (name : List ℕ) (r t : Result (List Module) LinkCommandFault) → IfLibraryElse b (IsLibraryInput s m k before name r) (r ≡ with_file s m k before name) → IfLibraryElse b (IsLibraryInput s m k before name t) (t ≡ with_file s m k before name) → r ≡ t
  kind_once true k before name r t h j = library_once k before name r t h j
  kind_once false k before name r t h j = h ∙ sym j

  input_once : (k : ℕ) (before : List Module) (name : List ℕ) (r t : Result (List Module) LinkCommandFault) → IsInput s m k before name r → IsInput s m k before name t → r ≡ t
  input_once k before name r t h j = kind_once (is_library_in m name) k before name r t h j

  pub inputs_once : (k : ℕ) (before : List Module) (names : List (List ℕ)) (r t : Result (List Module) LinkCommandFault) → AreInputs s m k before names r → AreInputs s m k before names t → r ≡ t
  inputs_once k before [] r t h j = h ∙ sym j
  inputs_once k before (name ∷ names) r t h j =
      let same : h.0 ≡ j.0 = input_once k before name h.0 j.0 h.1 j.1 in
      let next : List Module → Result (List Module) LinkCommandFault → Type 0 = λ ms. AreInputs s m (k + 1) ms names in
      let there : AndThen j.0 next r = subst (λ (q : Result (List Module) LinkCommandFault). AndThen q next r) same h.2 in
      first_once j.0 next r t (λ ms. inputs_once (k + 1) ms names r t) there j.2

-- ---- The link of a command line with this script.

module _ (l : LinkView) (m : Files) (s : Script) (text : List ℕ) (file : get m l.script ≡ Some text) (script : IsScript text (Ok s)) where
  by_script : (r : Result Linked LinkCommandFault) → IsCommandLink m l r → IsScriptedLink m l s r
  by_script r h =
      let there : AndThen (text_of (Some text)) (λ text u. (q : Result Script ScriptFault) × IsScript text q × AndThen (as_script q) (IsScriptedLink m l) u) r =
      subst (λ (f : Option (List ℕ)). AndThen (text_of f) (λ text u. (q : Result Script ScriptFault) × IsScript text q × AndThen (as_script q) (IsScriptedLink m l) u) r) file h in
      let same : there.0 ≡ Ok s = one_reading text there.0 (Ok s) there.1 script in
      subst (λ (q : Result Script ScriptFault). AndThen (as_script q) (IsScriptedLink m l) r) same there.2

  same_link : (ms : List Module) (linked : Linked) → IsLinkResult l s ms (Ok linked) → LinkOf (output_of l) s ms (Ok linked)
  same_link ms linked (Ok x, link, same) = subst (λ (z : Linked). LinkOf (output_of l) s ms (Ok z)) (sym (ok_same linked x same)) link
  same_link ms linked (Err e, link, same) = absurd (ok_err linked (refusal.Link e) same)

  by_modules : (linked : Linked) (q : Result (List Module) LinkCommandFault) → AreInputs s m 0 [] l.inputs q → AndThen q (IsLinkResult l s) (Ok linked) → (ms : List Module) × AreInputs s m 0 [] l.inputs (Ok ms) × LinkOf (output_of l) s ms (Ok linked)
  by_modules linked (Ok ms) are h = (ms, are, same_link ms linked h)
  by_modules linked (Err e) are h = absurd (ok_err linked e h)

  by_names : (linked : Linked) (q : Result (Unit {0}) LinkCommandFault) → AndThen q (λ u. IsInputLink m l s) (Ok linked) → IsInputLink m l s (Ok linked)
  by_names linked (Ok u) h = h
  by_names linked (Err e) h = absurd (ok_err linked e h)

  -- a successful link is the link of the modules of the inputs
  pub link_found : (linked : Linked) → IsCommandLink m l (Ok linked) → (ms : List Module) × AreInputs s m 0 [] l.inputs (Ok ms) × LinkOf (output_of l) s ms (Ok linked)
  link_found linked h =
      let found = by_names linked (as_command_fault (check_unique_names s (program_of []))) (by_script (Ok linked) h) in
      by_modules linked found.0 found.1 found.2

  -- if the modules of the inputs have a link, it is the only result of the command line
  pub link_is : (ms : List Module) (linked : Linked) (r : Result Linked LinkCommandFault) → AreInputs s m 0 [] l.inputs (Ok ms) → check_unique_names s (program_of []) ≡ Ok tt → LinkOf (output_of l) s ms (Ok linked) → IsCommandLink m l r → r ≡ Ok linked
  link_is ms linked r are once link h =
      let there : IsInputLink m l s r = subst (λ (q : Result (Unit {0}) LinkFault). AndThen (as_command_fault q) (λ u. IsInputLink m l s) r) once (by_script r h) in
      let same : there.0 ≡ Ok ms = inputs_once s m 0 [] l.inputs there.0 (Ok ms) there.1 are in
      let found : IsLinkResult l s ms r = subst (λ (q : Result (List Module) LinkCommandFault). AndThen q (IsLinkResult l s) r) same there.2 in
      found.2 ∙ ap (λ q. as_command_fault q) (link_once (output_of l) s ms found.0 (Ok linked) found.1 link)
