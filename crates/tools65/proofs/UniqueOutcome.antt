-- A command has at most one outcome, because each of its steps has at most one result.
use Rattle.std.proofs.Common.{◌≡◌, ◌∙◌, ◌<◌, ℕ, zero, suc, ◌+◌, ◌++◌, Bool, true, false, List, [], ◌∷◌, take, Option, Some, None, Result, Ok, Err, refl, sym, ap, subst, arith, inl, inr}
use Rattle.std.specs.Prelude.{codes}
use Rattle.std.specs.FinMap.{get}
use Rattle.base65.specs.Outcome.{AndThen}
use Rattle.base65.proofs.Outcome.{first_once}
use Rattle.base65.specs.Store.{Files}
use Rattle.object65.specs.Spelling.{object_bytes}
use Rattle.library65.proofs.Selections.{one_selection}
use Rattle.library65.specs.declared.index.Entry.{Entry}
use Rattle.script65.proofs.ReadingUniqueness.{one_reading}
use Rattle.script65.specs.Scripts.{IsScript}
use Rattle.script65.specs.declared.fault.ScriptFault.{ScriptFault}
use Rattle.script65.specs.declared.script.Script.{Script}
use Rattle.link65.proofs.OutcomeLemmas.{link_once}
use Rattle.link65.specs.Names.{strong_names, open_names}
use Rattle.link65.specs.Links.{check_unique_names}
use Rattle.link65.specs.Programs.{Module, program_of}
use Rattle.link65.specs.declared.linking.Linked.{Linked}
use Rattle.cli65.specs.Line.{AssembleView, LinkView, CommandView, archive, assemble, link}
use Rattle.ld65.specs.Linkage.{AreInputs, AreNeeded, IfLibraryElse, IsInput, IsInputLink, IsLibraryInput, IsCommandLink, IsScriptedLink, IsLinkResult, as_library, as_command_fault, as_script, selected_entries, index_in, is_library_in, output_of, text_of, with_file, with_members}
use Rattle.ld65.specs.declared.fault.LinkCommandFault.{LinkCommandFault}
use Rattle.sources65.proofs.LayoutUniqueness.{one_answer}
use Rattle.semantics65.specs.Module.{LocatedFault}
use Rattle.object65.specs.declared.object.Object.{Object}
use Rattle.output65.specs.Outputs.{outputs_of}
use Rattle.output65.specs.declared.outcome.Outcome.{Outcome}
use Rattle.output65.specs.declared.outcome.Status.TheVariants.{Success}
use Rattle.tools65.specs.Assembling.{IsOutputName, job_in}
use Rattle.tools65.specs.Command.{IsOutcomeOfAssemble, IsAssemblyOutcome, IsResultOutcome, IsOutcomeOfCommand, link_outcome}
use Rattle.tools65.specs.Naming.{IsExtension, IsObjectName}
use Rattle.tools65.specs.OutcomeLaws.{OutcomeIsUnique}

-- ---- A step and the next one.

-- if a first step and the next one each have at most one result, so has their sequence
then_one : {E A B X : Type 0} (P : X → Type 0) (answer : X → Result A E) (Next : A → Result B E → Type 0) → ((q r : X) → P q → P r → q ≡ r) → ((x : A) (a b : Result B E) → Next x a → Next x b → a ≡ b) → (a b : Result B E) → ((q : X) × P q × AndThen (answer q) Next a) → ((q : X) × P q × AndThen (answer q) Next b) → a ≡ b
then_one P answer Next same one a b (q, p, h) (r, s, k) = first_once (answer r) Next a b (λ x. one x a b) (subst (λ x. AndThen (answer x) Next a) (same q r p s) h) k

-- ---- Linking.

module _ (s : Script) (m : Files) where
  needed_one : (library : List ℕ) (before : List Module) (es : List Entry) (a b : Result (List Module) LinkCommandFault) → AreNeeded s m library before es a → AreNeeded s m library before es b → a ≡ b
  needed_one library before es a b (indices, is, e) (others, was, f) =
      e ∙ ap (λ ps. with_members s m library before (selected_entries es ps)) (one_selection es (open_names s (program_of before)) (strong_names s (program_of before)) indices others is was) ∙ sym f

  kind_one : (library : Bool) (k : ℕ) (before : List Module) (name : List ℕ) (a b : Result (List Module) LinkCommandFault) → IfLibraryElse library (IsLibraryInput s m k before name a) (a ≡ with_file s m k before name) → IfLibraryElse library (IsLibraryInput s m k before name b) (b ≡ with_file s m k before name) → a ≡ b
  kind_one true k before name a b h g = first_once (as_library k (index_in m name)) (AreNeeded s m name before) a b (λ es. needed_one name before es a b) h g
  kind_one false k before name a b h g = h ∙ sym g

  inputs_one : (k : ℕ) (before : List Module) (names : List (List ℕ)) (a b : Result (List Module) LinkCommandFault) → AreInputs s m k before names a → AreInputs s m k before names b → a ≡ b
  inputs_one k before [] a b h g = h ∙ sym g
  inputs_one k before (name ∷ names) a b h g =
      then_one (IsInput s m k before name) (λ q. q) (λ ms. AreInputs s m (k + 1) ms names)
      (λ q r. kind_one (is_library_in m name) k before name q r) (λ ms. inputs_one (k + 1) ms names) a b h g

links_one : (l : LinkView) (s : Script) (ms : List Module) (a b : Result Linked LinkCommandFault) → IsLinkResult l s ms a → IsLinkResult l s ms b → a ≡ b
links_one l s ms a b (q, is, e) (r, was, f) = e ∙ ap as_command_fault (link_once (output_of l) s ms q r is was) ∙ sym f

input_link_one : (m : Files) (l : LinkView) (s : Script) (a b : Result Linked LinkCommandFault) → IsInputLink m l s a → IsInputLink m l s b → a ≡ b
input_link_one m l s a b h g = then_one (AreInputs s m 0 [] l.inputs) (λ q. q) (IsLinkResult l s) (inputs_one s m 0 [] l.inputs) (links_one l s) a b h g

linked_by_one : (m : Files) (l : LinkView) (s : Script) (a b : Result Linked LinkCommandFault) → IsScriptedLink m l s a → IsScriptedLink m l s b → a ≡ b
linked_by_one m l s a b h g = first_once (as_command_fault (check_unique_names s (program_of []))) (λ u. IsInputLink m l s) a b (λ u. input_link_one m l s a b) h g

linked_one : (m : Files) (l : LinkView) (a b : Result Linked LinkCommandFault) → IsCommandLink m l a → IsCommandLink m l b → a ≡ b
linked_one m l a b h g =
    first_once (text_of (get m l.script)) (λ text u. (q : Result Script ScriptFault) × IsScript text q × AndThen (as_script q) (IsScriptedLink m l) u) a b
    (λ text. then_one (IsScript text) as_script (IsScriptedLink m l) (one_reading text) (linked_by_one m l) a b) h g

-- ---- Assembling.

same_place : (i j : ℕ) → (i < j → ⊥) → (j < i → ⊥) → i ≡ j
same_place zero zero f g = refl
same_place zero (suc j) f g = absurd (f (omega arith))
same_place (suc i) zero f g = absurd (g (omega arith))
same_place (suc i) (suc j) f g = ap suc (same_place i j (λ h. f (omega (arith, h))) (λ h. g (omega (arith, h))))

-- a name has at most one extension
extension_one : (name : List ℕ) (i j : ℕ) → IsExtension name i → IsExtension name j → i ≡ j
extension_one name i j x y = same_place i j (λ h. (x.following j h y.inside).dot y.dot) (λ h. (y.following i h x.inside).dot x.dot)

object_name_one : (source a b : List ℕ) → IsObjectName source a → IsObjectName source b → a ≡ b
object_name_one source a b (inl (i, x, e)) (inl (j, y, f)) = e ∙ ap (λ k. take k source ++ codes ".o") (extension_one source i j x y) ∙ sym f
object_name_one source a b (inl (i, x, e)) (inr (none, f)) = absurd (none i x)
object_name_one source a b (inr (none, e)) (inl (j, y, f)) = absurd (none j y)
object_name_one source a b (inr (none, e)) (inr (neither, f)) = e ∙ sym f

output_name_one : (output : Option (List ℕ)) (source a b : List ℕ) → IsOutputName output source a → IsOutputName output source b → a ≡ b
output_name_one None source a b h g = object_name_one source a b h g
output_name_one (Some given) source a b h g = h ∙ sym g

assembles_with_one : (l : AssembleView) (out err : List ℕ) (r : Result Object LocatedFault) (a b : Outcome) → IsResultOutcome l out err r a → IsResultOutcome l out err r b → a ≡ b
assembles_with_one l out err (Ok object) a b (name, is, e) (other, was, f) =
    e ∙ ap (λ n. record { out = out; err = err; outputs = outputs_of n (object_bytes object); status = Success }) (output_name_one l.output l.source name other is was) ∙ sym f
assembles_with_one l out err (Err fault) a b h g = h ∙ sym g

assembles_one : (l : AssembleView) (m : Files) (a b : Outcome) → IsOutcomeOfAssemble l m a → IsOutcomeOfAssemble l m b → a ≡ b
assembles_one l m a b (x, is, to) (y, was, from) =
    assembles_with_one l y.out y.err y.result a b (subst (λ z. IsAssemblyOutcome l z a) (one_answer m (job_in l) x y is was) to) from

-- ---- Commands.

line_one : (line : CommandView) (m : Files) (a b : Outcome) → IsOutcomeOfCommand line m a → IsOutcomeOfCommand line m b → a ≡ b
line_one (assemble l) m a b h g = assembles_one l m a b h g
line_one (link l) m a b (r, is, e) (q, was, f) = e ∙ ap (link_outcome l) (linked_one m l r q is was) ∙ sym f
line_one (archive l) m a b h g = h ∙ sym g

pub one_outcome : OutcomeIsUnique
one_outcome (Ok line) m a b h g = line_one line m a b h g
one_outcome (Err e) m a b h g = h ∙ sym g
