-- A run that links objects of sources agrees with the whole program of the sources.
use Rattle.std.proofs.Common.{◌≡◌, ◌∙◌, ◌⊎◌, inl, inr, ℕ, List, [], Bool, true, false, Option, Some, None, Result, Ok, Err, refl, sym, ap, subst}
use Rattle.std.specs.Prelude.{IfSome, slice_get}
use Rattle.base65.specs.Store.{Files, NoneFailed, RelatesFiles}
use Rattle.script65.specs.declared.script.Script.{Script}
use Rattle.base65.specs.Outcome.{AndThen}
use Rattle.link65.specs.Links.{IsProgramLink, LinkOf, check_unique_names}
use Rattle.link65.specs.Programs.{Module, program_of}
use Rattle.link65.specs.declared.linking.Linked.{Linked}
use Rattle.base65.specs.declared.output.OutputFile.{OutputFile}
use Rattle.cli65.specs.Line.{LinkView, CommandView, link, line_of}
use Rattle.cli65.specs.Messages.{arguments_memory_message}
use Rattle.cli65.specs.declared.fault.LineFault.{LineFault}
use Rattle.whole65.specs.Equality.{IsLinkedTo}
use Rattle.ld65.specs.declared.fault.LinkCommandFault.{LinkCommandFault}
use Rattle.ld65.specs.Linkage.{IsCommandLink, output_of}
use Rattle.ld65.specs.Faults.{link_memory_message}
use Rattle.tools65.specs.Command.{RunsCommand, IsOutcomeOfLink, IsOutcomeOfCommand, RunHasOutcome, ArgsRunHasOutcome, command_memory_message, link_outcome}
use Rattle.output65.specs.RunEffects.{CommitsOutcome, FilesAfterRun, WritesPrefix, HasMemoryFailure, Streams, with_outputs, has_accepted_both}
use Rattle.tools65.specs.OneProgram.{IsWholeProgramOutcome, HasFiles, HasNoImage, IsLinkError, CommandLinksWholeProgram, LineLinksOneProgram, LinksWholeProgram, RunLinksOneProgram, SelectsObjectsOf, Source, HasImage, ArgsLinkWholeProgram, AgreesWithWholeProgram, HasWrittenFiles}
use Rattle.output65.specs.Outputs.{error_outcome, with_map}
use Rattle.output65.specs.declared.outcome.Outcome.{Outcome}
use Rattle.output65.specs.declared.outcome.Status.{Status}
use Rattle.output65.specs.declared.outcome.Status.TheVariants.{Failure, Success}
use Rattle.tools65.proofs.UniqueLink.{link_found, link_is}
use Rattle.tools65.proofs.WholePrograms.{one_program}
use Rattle.tools65.proofs.SelectedModules.{inputs_selected, names_front, ok_err, selected_inputs, selected_once}

-- ---- A run that succeeds.

not_both : Success ≡ Failure → ⊥
not_both e = cc

settled_well : (o : Outcome) (m : Files) (new : Option Files) (status : Status) (whole : Bool) → FilesAfterRun o m new status whole → status ≡ Success → (o.status ≡ Success) × (new ≡ Some (with_outputs o.outputs m))
settled_well o m new status true h e = (sym h.1 ∙ e, h.0)
settled_well o m new status false h e = absurd (not_both (sym e ∙ h.1))

-- all files of the outcome are written
carried_out : (o : Outcome) (memory : List ℕ) (m : Files) (new : Option Files) (io : Streams) (status : Status) → status ≡ Success → CommitsOutcome o m new io status ⊎ HasMemoryFailure o memory m new io status → (o.status ≡ Success) × (new ≡ Some (with_outputs o.outputs m))
carried_out o memory m new io status e (inl p) = settled_well o m new status (has_accepted_both io) p.file_effects e
carried_out o memory m new io status e (inr p) = absurd (not_both (sym e ∙ p.failed))

failing_fails : (o : Outcome) (text : List ℕ) → o ≡ error_outcome text → o.status ≡ Success → ⊥
failing_fails o text same e = not_both (sym e ∙ ap (λ (z : Outcome). z.status) same)

linked_well : (l : LinkView) (r : Result Linked LinkCommandFault) (o : Outcome) → o ≡ link_outcome l r → o.status ≡ Success → (linked : Linked) × (r ≡ Ok linked)
linked_well l (Ok linked) o same e = (linked, refl)
linked_well l (Err f) o same e = absurd (failing_fails o _ same e)

first_passed : {E A : Type 0} (q : Result (Unit {0}) E) (Next : Unit {0} → Result A E → Type 0) (x : A) → AndThen q Next (Ok x) → q ≡ Ok tt
first_passed (Ok u) Next x h = refl
first_passed (Err e) Next x h = absurd (ok_err x e h)

-- modules that have a link define no name twice
link_once : (output : List ℕ) (s : Script) (ms : List Module) (linked : Linked) → LinkOf output s ms (Ok linked) → check_unique_names s (program_of ms) ≡ Ok tt
link_once output s ms linked h = first_passed (check_unique_names s (program_of ms)) (λ u. IsProgramLink output s (program_of ms)) linked h

-- ---- A run that writes no files.

settled_alone : (o : Outcome) (m : Files) (new : Option Files) (status : Status) (whole : Bool) → o.outputs ≡ [] → o.status ≡ Failure → FilesAfterRun o m new status whole → (new ≡ Some m) × (status ≡ Failure)
settled_alone o m new status true none fails h = (h.0 ∙ ap (λ (files : List OutputFile). Some (with_outputs files m)) none, h.1 ∙ fails)
settled_alone o m new status false none fails h = h

none_there : (index : ℕ) (o : OutputFile) → ◌≡◌ {A = Option OutputFile} (slice_get [] index) (Some o) → ⊥
none_there index o e = cc

no_place : (outputs : List OutputFile) (index : ℕ) (m : Files) (new : Option Files) → outputs ≡ [] → RelatesFiles (WritesPrefix outputs index) (Some m) new → ⊥
no_place outputs index m None none left = left
no_place outputs index m (Some z) none left = none_there index left.0 (sym (ap (λ (files : List OutputFile). slice_get files index) none) ∙ left.1)

-- an outcome that fails and has no files leaves the files unchanged
left_alone : (o : Outcome) (memory : List ℕ) (m : Files) (new : Option Files) (io : Streams) (status : Status) → o.outputs ≡ [] → o.status ≡ Failure → CommitsOutcome o m new io status ⊎ HasMemoryFailure o memory m new io status → (new ≡ Some m) × (status ≡ Failure)
left_alone o memory m new io status none fails (inl p) = settled_alone o m new status (has_accepted_both io) none fails p.file_effects
left_alone o memory m new io status none fails (inr p) = absurd (no_place o.outputs p.index m new none p.file_effects)

module _ (l : LinkView) (m : Files) (s : Script) (xs : List Source) (k : SelectsObjectsOf l m s xs) where
  -- a successful link is the link of the selected modules
  fed_so : (linked : Linked) → IsCommandLink m l (Ok linked) → LinkOf (output_of l) s k.modules (Ok linked)
  fed_so linked h =
      let found = link_found l m s k.text k.file k.script linked h in
      let chosen = inputs_selected s m 0 [] l.inputs found.0 found.1 in
      let same : found.0 ≡ k.modules = chosen.2 ∙ selected_once s m [] l.inputs chosen.0 k.modules chosen.1 k.selected in
      subst (λ (ms : List Module). LinkOf (output_of l) s ms (Ok linked)) same found.2

  -- if the selected modules have a link, it is the result of the command line
  linked_so : (linked : Linked) (r : Result Linked LinkCommandFault) → LinkOf (output_of l) s k.modules (Ok linked) → IsCommandLink m l r → r ≡ Ok linked
  linked_so linked r h is =
      let once = link_once (output_of l) s k.modules linked h in
      link_is l m s k.text k.file k.script k.modules linked r (selected_inputs s m 0 [] l.inputs k.modules k.selected once) (names_front s [] k.modules once) h is

  wrote : (o : Outcome) (new : Option Files) → IsOutcomeOfLink l m o ⊎ (o ≡ error_outcome link_memory_message) → o.status ≡ Success → new ≡ Some (with_outputs o.outputs m) → (files : List OutputFile) × HasImage (output_of l) s xs files × HasWrittenFiles l files m new
  wrote o new (inr same) e written = absurd (failing_fails o link_memory_message same e)
  wrote o new (inl (r, is, same)) e written =
      let found = linked_well l r o same e in
      let linked : Linked = found.0 in
      let link = fed_so linked (subst (λ (q : Result Linked LinkCommandFault). IsCommandLink m l q) found.1 is) in
      let outcome : o ≡ link_outcome l (Ok linked) = same ∙ ap (λ (q : Result Linked LinkCommandFault). link_outcome l q) found.1 in (
        linked.files,
        (one_program (output_of l) s xs k.modules linked.files k.objects).1 (record { linked = linked; link = link; same = refl }),
        (linked.map, written ∙ ap (λ (z : Outcome). Some (with_outputs z.outputs m)) outcome),
      )

  has_files : (files : List OutputFile) → HasImage (output_of l) s xs files → (o : Outcome) → IsOutcomeOfLink l m o → HasFiles l files o
  has_files files w o (r, is, same) =
      let link : IsLinkedTo (output_of l) s k.modules files = (one_program (output_of l) s xs k.modules files k.objects).0 w in
      let found : r ≡ Ok link.linked = linked_so link.linked r link.link is in
      let made : List OutputFile → Outcome = λ zs. record { out = []; err = link.linked.warnings; outputs = with_map l.map zs link.linked.map; status = Success } in
      (link.linked.warnings, link.linked.map, same ∙ ap (λ (q : Result Linked LinkCommandFault). link_outcome l q) found ∙ ap made link.same)

  -- the outcome has the files of the sources' image, or the sources have no image and the outcome is an error
  image_or_none : (r : Result Linked LinkCommandFault) → IsCommandLink m l r → (o : Outcome) → o ≡ link_outcome l r → ((files : List OutputFile) × HasImage (output_of l) s xs files × HasFiles l files o) ⊎ (HasNoImage l s xs × IsLinkError l o)
  image_or_none (Ok linked) is o same =
      let whole = (one_program (output_of l) s xs k.modules linked.files k.objects).1 (record { linked = linked; link = fed_so linked is; same = refl }) in
      inl (linked.files, whole, (linked.warnings, linked.map, same))
  image_or_none (Err e) is o same = inr (none, (e, same))
    where
      none : HasNoImage l s xs
      none files w =
          let link : IsLinkedTo (output_of l) s k.modules files = (one_program (output_of l) s xs k.modules files k.objects).0 w in
          ok_err link.linked e (sym (linked_so link.linked (Err e) link.link is))

  does_whole : (o : Outcome) → IsOutcomeOfLink l m o → IsWholeProgramOutcome l s xs m o
  does_whole o IsOutcomeOf = record {
    is_link_outcome = IsOutcomeOf;
    image_files = λ files w. has_files files w o IsOutcomeOf;
    exhaustive = image_or_none IsOutcomeOf.0 IsOutcomeOf.1 o IsOutcomeOf.2;
  }

  -- if the sources have no image, the outcome has no files and fails
  fails_alone : (o : Outcome) → IsWholeProgramOutcome l s xs m o ⊎ (o ≡ error_outcome link_memory_message) → HasNoImage l s xs → (o.outputs ≡ []) × (o.status ≡ Failure)
  fails_alone o (inr same) none = (ap (λ (z : Outcome). z.outputs) same, ap (λ (z : Outcome). z.status) same)
  fails_alone o (inl d) none = by_only d.exhaustive
    where
      by_only : ((files : List OutputFile) × HasImage (output_of l) s xs files × HasFiles l files o) ⊎ (HasNoImage l s xs × IsLinkError l o) → (o.outputs ≡ []) × (o.status ≡ Failure)
      by_only (inl (files, w, has)) = absurd (none files w)
      by_only (inr (none_there, (e, same))) = (ap (λ (z : Outcome). z.outputs) same, ap (λ (z : Outcome). z.status) same)

  writes_whole : (new : Option Files) (io : Streams) (status : Status) → RunHasOutcome (IsOutcomeOfLink l) link_memory_message m new io status → AgreesWithWholeProgram l s xs m new io status
  writes_whole new io status (o, IsOutcomeOf, left) = record {
    run_effect = (o, carried IsOutcomeOf, left);
    on_success = λ e. (let well = carried_out o link_memory_message m new io status e left in wrote o new IsOutcomeOf well.0 well.1);
    on_no_image = λ none. (let fails = fails_alone o (carried IsOutcomeOf) none in left_alone o link_memory_message m new io status fails.0 fails.1 left);
  }
    where
      carried : IsOutcomeOfLink l m o ⊎ (o ≡ error_outcome link_memory_message) → IsWholeProgramOutcome l s xs m o ⊎ (o ≡ error_outcome link_memory_message)
      carried (inl IsOutcomeOf) = inl (does_whole o IsOutcomeOf)
      carried (inr same) = inr same

-- ---- Command lines and arguments.

module _ (m : Files) (new : Option Files) (io : Streams) (status : Status) where
  links_whole : (line : CommandView) (l : LinkView) → RunHasOutcome (IsOutcomeOfCommand line) (command_memory_message line) m new io status → line ≡ link l → LinksWholeProgram l m new io status
  links_whole line l ran same s xs k =
      let there : RunHasOutcome (IsOutcomeOfLink l) link_memory_message m new io status =
      subst (λ (z : CommandView). RunHasOutcome (IsOutcomeOfCommand z) (command_memory_message z) m new io status) same ran in
      writes_whole l m s xs k new io status there

  line_links : (line : CommandView) → RunHasOutcome (IsOutcomeOfCommand line) (command_memory_message line) m new io status → CommandLinksWholeProgram line m new io status
  unfolding CommandLinksWholeProgram
  line_links line ran l same = links_whole line l ran same

  either : (l : LinkView) → ArgsRunHasOutcome (Ok (link l)) m new io status → LinksWholeProgram l m new io status ⊎ CommitsOutcome (error_outcome arguments_memory_message) m new io status
  either l (inl ran) = inl (links_whole (link l) l ran refl)
  either l (inr p) = inr p

  words_link : (parsed : Result CommandView LineFault) → ArgsRunHasOutcome parsed m new io status → ArgsLinkWholeProgram parsed m new io status
  unfolding ArgsLinkWholeProgram
  words_link parsed ran l same = either l (subst (λ (z : Result CommandView LineFault). ArgsRunHasOutcome z m new io status) same ran)

pub words_law : RunLinksOneProgram
words_law args m new io status ran = words_link m new io status (line_of args) ran

pub lines_law : LineLinksOneProgram
lines_law line m new io status ran = line_links m new io status line ran

-- a command line that was run
pub line_whole : (known new : Option Files) (fo fn : ℕ) (line : CommandView) (io : Streams) (status : Status) → IfSome known (λ m. NoneFailed fo fn → RunHasOutcome (IsOutcomeOfCommand line) (command_memory_message line) m new io status) → IfSome known (λ m. NoneFailed fo fn → CommandLinksWholeProgram line m new io status)
line_whole None new fo fn line io status h = tt
line_whole (Some m) new fo fn line io status h = λ none. line_links m new io status line (h none)

-- arguments that were run
pub words_whole : (known new : Option Files) (fo fn : ℕ) (args : List (List ℕ)) (io : Streams) (status : Status) → IfSome known (λ m. NoneFailed fo fn → RunsCommand args m new io status) → IfSome known (λ m. NoneFailed fo fn → ArgsLinkWholeProgram (line_of args) m new io status)
words_whole None new fo fn args io status h = tt
words_whole (Some m) new fo fn args io status h = λ none. words_link m new io status (line_of args) (h none)
