-- The outcome of a command line, from the result of its command.
use Rattle.std.proofs.Common.{◌≡◌, ◌∙◌, ◌⊎◌, inl, inr, ℕ, List, [], ◌++◌, Bool, true, false, Option, Some, None, Result, Ok, Err, refl, sym, ap, subst, map}
use Rattle.std.specs.Prelude.{IfErr, IfOk, IfSome, ◌||◌}
use Rattle.std.specs.Result.{IsErrAnd}
use Rattle.base65.specs.Outcome.{RefinesProp, Refines, Unless}
use Rattle.base65.specs.Store.{FailsAtLastCount, LastFailure, Files, HasFailed, PropagatesIoErrors}
use Rattle.object65.specs.Objects.{ObjectFits}
use Rattle.object65.specs.declared.object.Object.{Object}
use Rattle.ast65.specs.Faults.{is_out_of_memory as is_asm_memory}
use Rattle.sources65.specs.Reading.{IsOutcome, Define, Job}
use Rattle.sources65.proofs.LayoutUniqueness.{one_answer}
use Rattle.semantics65.specs.Module as asm
use Rattle.semantics65.specs.Module.{LocatedFault}
use Rattle.asm65.specs.Assembly.{is_store_failure, located_result, is_diagnostic_system_error, located_fault}
use Rattle.asm65.specs.Failing.{IsStoreFailureOutcome}
use Rattle.asm65.specs.declared.texts.Diagnostic.{Diagnostic}
use Rattle.cli65.specs.Line.{ArchiveView, AssembleView, LinkView, CommandView, archive, assemble, link}
use Rattle.cli65.specs.Messages.{file_memory_message}
use Rattle.link65.specs.declared.linking.Linked.{Linked}
use Rattle.ld65.specs.Linkage.{IsCommandLink}
use Rattle.ld65.specs.Naming.{IsCommandFailure, NamesFailure}
use Rattle.ld65.specs.Faults.{is_failure, is_memory, is_system_error, link_memory_message, error_message}
use Rattle.ld65.specs.declared.fault.LinkCommandFault.{LinkCommandFault}
use Rattle.ar65.specs.Librarian.{archive_result}
use Rattle.ar65.specs.Naming.{IsCommandFailure as IsOfArchive}
use Rattle.ar65.specs.Faults.{is_failure as is_archive_failure, is_memory as is_archive_memory, is_system_error as is_archive_system_error, error_message as archive_message}
use Rattle.ar65.specs.declared.archiving.ArchiveResult.{ArchiveResult}
use Rattle.ar65.specs.declared.fault.ArchiveFault.{ArchiveFault as ArchiveRefusal}
use Rattle.output65.specs.Outputs.{error_outcome}
use Rattle.output65.specs.declared.outcome.Outcome.{Outcome}
use Rattle.output65.specs.declared.outcome.Status.TheVariants.{Failure}
use Rattle.tools65.specs.Archives.{archive_outcome}
use Rattle.tools65.specs.Assembling.{asm_message, define_in, job_in}
use Rattle.tools65.specs.Command.{IsResultOutcome, command_memory_message, link_outcome, failed_assembly_outcome}
use Rattle.tools65.specs.Failures.{outcome_without_files}
use Rattle.tools65.specs.ObjectFits.{IsFittingOutcome, SourceObjectFits}
use Rattle.tools65.specs.Internal.ComputedOutcomes.{ComputesOutcome, IsFailureReport}

-- A command with results in `Result A E`, and the outcomes that belong to them (`Comes`). Premises: the outcome of a result
-- that satisfies `Is` is fitting; the outcome of a memory error is only the memory message; the outcome of a failed call of
-- the store reports that failure; the outcome of every error fails.
module _ {A E : Type 0} (line : CommandView) (is_memory is_failure : E → Bool)
    (Is : Files → Result A E → Type 0) (Comes : Result A E → Outcome → Type 0) (Stopped : Files → LastFailure → E → Type 0)
    (IsOutcomeOf : (m : Files) (r : Result A E) (o : Outcome) → Is m r → Comes r o → IsFittingOutcome line m o)
    (by_memory : (e : E) (o : Outcome) → is_memory e ≡ true → Comes (Err e) o → o ≡ error_outcome (command_memory_message line))
    (by_failure : (m : Files) (last_failure : LastFailure) (e : E) (o : Outcome) → is_failure e ≡ true → Stopped m last_failure e → Comes (Err e) o → IsFailureReport line m last_failure o)
    (fails : (e : E) (o : Outcome) → Comes (Err e) o → o.status ≡ Failure) where
  -- if no call of the store failed, the outcome is fitting or only the memory message
  found : (m : Files) (r : Result A E) (o : Outcome) → RefinesProp (λ e. is_memory e || is_failure e) (Is m) r → IfErr r (λ e. is_failure e ≡ true → ⊥) → Comes r o → IsFittingOutcome line m o ⊎ (o ≡ error_outcome (command_memory_message line))
  found m (Ok x) o h none comes = inl (IsOutcomeOf m (Ok x) o h comes)
  found m (Err e) o h none comes = by_cause (is_memory e) (is_failure e) refl refl h
    where
      by_cause : (a b : Bool) → is_memory e ≡ a → is_failure e ≡ b → Unless (a || b) (Is m (Err e)) → IsFittingOutcome line m o ⊎ (o ≡ error_outcome (command_memory_message line))
      by_cause true b p q u = inr (by_memory e o p comes)
      by_cause false true p q u = absurd (none q)
      by_cause false false p q u = inl (IsOutcomeOf m (Err e) o u comes)

  no_failure : (fo fm : ℕ) (r : Result A E) → PropagatesIoErrors is_failure fo fm r → (HasFailed fo fm → ⊥) → IfErr r (λ e. is_failure e ≡ true → ⊥)
  no_failure fo fm (Ok x) p none = tt
  no_failure fo fm (Err e) p none = λ h. none (p.caused h)

  -- a system error (out of memory, or a failed call of the store) is reported
  refused : (m : Files) (last_failure : LastFailure) (r : Result A E) (o : Outcome) → IsErrAnd r (λ e. (is_memory e || is_failure e) ≡ true) → IfErr r (λ e. is_failure e ≡ true → Stopped m last_failure e) → Comes r o → IsFailureReport line m last_failure o
  refused m last_failure (Ok x) o outside stopped comes = absurd outside
  refused m last_failure (Err e) o outside stopped comes = by (is_memory e) (is_failure e) refl refl outside
    where
      by : (a b : Bool) → is_memory e ≡ a → is_failure e ≡ b → (a || b) ≡ true → IsFailureReport line m last_failure o
      by true b p q h = ([], command_memory_message line, inr (refl, refl), by_memory e o p comes)
      by false true p q h = by_failure m last_failure e o q (stopped q) comes
      by false false p q h = absurd cc

  from_outside : (r : Result A E) → IsErrAnd r (λ e. is_failure e ≡ true) → IsErrAnd r (λ e. (is_memory e || is_failure e) ≡ true)
  from_outside (Ok x) h = absurd h
  from_outside (Err e) h = by (is_memory e)
    where
      by : (a : Bool) → (a || is_failure e) ≡ true
      by true = refl
      by false = h

  outside : (fo fm : ℕ) (r : Result A E) → PropagatesIoErrors is_failure fo fm r → FailsAtLastCount (λ e. is_memory e || is_failure e) fo r → HasFailed fo fm → IsErrAnd r (λ e. (is_memory e || is_failure e) ≡ true)
  outside fo fm r count asks (inl rose) = from_outside r (count.reported rose)
  outside fo fm r count asks (inr last) = asks last

  computed : (m : Files) (fo fm : ℕ) (last_failure : LastFailure) (r : Result A E) (o : Outcome) → PropagatesIoErrors is_failure fo fm r → FailsAtLastCount (λ e. is_memory e || is_failure e) fo r → IfErr r (λ e. is_failure e ≡ true → Stopped m last_failure e) → RefinesProp (λ e. is_memory e || is_failure e) (Is m) r → Comes r o → ComputesOutcome line m last_failure fo fm o
  computed m fo fm last_failure r o count asks stopped finds comes = record {
    done = λ none. found m r o finds (no_failure fo fm r count none) comes;
    failed = λ some. refused m last_failure r o (outside fo fm r count asks some) stopped comes;
  }

  -- every outcome that is returned satisfies `ComputesOutcome`
  pub computes : {F : Type 0} (known : Option Files) (fo fm : ℕ) (last_failure : LastFailure) (r : Result A E) (q : Result Outcome F) → PropagatesIoErrors is_failure fo fm r → FailsAtLastCount (λ e. is_memory e || is_failure e) fo r → IfSome known (λ m. IfErr r (λ e. is_failure e ≡ true → Stopped m last_failure e)) → IfSome known (λ m. RefinesProp (λ e. is_memory e || is_failure e) (Is m) r) → IfOk q (Comes r) → IfSome known (λ m. IfOk q (ComputesOutcome line m last_failure fo fm))
  computes None fo fm last_failure r q count asks stopped finds comes = tt
  computes (Some m) fo fm last_failure r (Ok o) count asks stopped finds comes = computed m fo fm last_failure r o count asks stopped finds comes
  computes (Some m) fo fm last_failure r (Err f) count asks stopped finds comes = tt

  pub fails_so : {F : Type 0} (fo fm : ℕ) (r : Result A E) (q : Result Outcome F) → PropagatesIoErrors is_failure fo fm r → FailsAtLastCount (λ e. is_memory e || is_failure e) fo r → IfOk q (Comes r) → HasFailed fo fm → IfOk q (λ o. o.status ≡ Failure)
  fails_so fo fm r (Err f) count asks comes some = tt
  fails_so fo fm r (Ok o) count asks comes some = by r comes (outside fo fm r count asks some)
    where
      by : (s : Result A E) → Comes s o → IsErrAnd s (λ e. (is_memory e || is_failure e) ≡ true) → o.status ≡ Failure
      by (Ok x) c h = absurd h
      by (Err e) c h = fails e o c

-- ---- A link.

module _ (l : LinkView) where
  abbrev LinkStops : Files → LastFailure → LinkCommandFault → Type 0
  LinkStops m b e = IsCommandFailure (Some m) b l e

  link_does : (m : Files) (r : Result Linked LinkCommandFault) (o : Outcome) → IsCommandLink m l r → o ≡ link_outcome l r → IsFittingOutcome (link l) m o
  link_does m r o is comes = ((r, is, comes), tt)

  link_memory : (e : LinkCommandFault) (o : Outcome) → is_memory e ≡ true → o ≡ link_outcome l (Err e) → o ≡ error_outcome link_memory_message
  link_memory e o h is = is ∙ by_memory
    where
      by_memory : link_outcome l (Err e) ≡ error_outcome link_memory_message
      by_memory = rw h refl

  link_failure : (m : Files) (b : LastFailure) (e : LinkCommandFault) (o : Outcome) → is_failure e ≡ true → LinkStops m b e → o ≡ link_outcome l (Err e) → IsFailureReport (link l) m b o
  link_failure m b e o failed is_of is = ([], error_message l e, inl (e, failed, is_of, refl, refl), is)

  link_fails : (e : LinkCommandFault) (o : Outcome) → o ≡ link_outcome l (Err e) → o.status ≡ Failure
  link_fails e o is = ap (λ (x : Outcome). x.status) is

  -- if the files are known, the error of a failed call satisfies `LinkStops`
  of_known : (known : Option Files) (r : Result Linked LinkCommandFault) (b : LastFailure) → IfErr r (NamesFailure (IsCommandFailure known b l)) → IfSome known (λ m. IfErr r (λ e. is_failure e ≡ true → LinkStops m b e))
  of_known None r b named = tt
  of_known (Some m) r b named = named

  pub computes_link : {F : Type 0} (known : Option Files) (fo fm : ℕ) (b : LastFailure) (r : Result Linked LinkCommandFault) (q : Result Outcome F) → PropagatesIoErrors is_failure fo fm r → FailsAtLastCount is_system_error fo r → IfErr r (NamesFailure (IsCommandFailure known b l)) → IfSome known (λ m. RefinesProp is_system_error (IsCommandLink m l) r) → IfOk q (λ o. o ≡ link_outcome l r) → IfSome known (λ m. IfOk q (ComputesOutcome (link l) m b fo fm))
  computes_link known fo fm b r q count asks named finds comes =
      computes (link l) is_memory is_failure (λ m. IsCommandLink m l) (λ r o. o ≡ link_outcome l r) LinkStops link_does link_memory link_failure link_fails
      known fo fm b r q count asks (of_known known r b named) finds comes

  pub link_fails_so : {F : Type 0} (fo fm : ℕ) (r : Result Linked LinkCommandFault) (q : Result Outcome F) → PropagatesIoErrors is_failure fo fm r → FailsAtLastCount is_system_error fo r → IfOk q (λ o. o ≡ link_outcome l r) → HasFailed fo fm → IfOk q (λ o. o.status ≡ Failure)
  link_fails_so =
      fails_so (link l) is_memory is_failure (λ m. IsCommandLink m l) (λ r o. o ≡ link_outcome l r) LinkStops link_does link_memory link_failure link_fails

-- ---- A command line of the librarian.

module _ (a : ArchiveView) where
  -- the result of the command line, as a relation
  abbrev IsArchived : Files → Result ArchiveResult ArchiveRefusal → Type 0
  IsArchived m r = archive_result m a ≡ r

  abbrev ArchiveStops : Files → LastFailure → ArchiveRefusal → Type 0
  ArchiveStops m b e = IsOfArchive b a e

  archive_does : (m : Files) (r : Result ArchiveResult ArchiveRefusal) (o : Outcome) → IsArchived m r → o ≡ archive_outcome a r → IsFittingOutcome (archive a) m o
  archive_does m r o is comes = (comes ∙ ap (archive_outcome a) (sym is), tt)

  archive_memory : (e : ArchiveRefusal) (o : Outcome) → is_archive_memory e ≡ true → o ≡ archive_outcome a (Err e) → o ≡ error_outcome (file_memory_message a.library)
  archive_memory e o h is = is ∙ by_memory
    where
      by_memory : archive_outcome a (Err e) ≡ error_outcome (file_memory_message a.library)
      by_memory = rw h refl

  archive_failure : (m : Files) (b : LastFailure) (e : ArchiveRefusal) (o : Outcome) → is_archive_failure e ≡ true → ArchiveStops m b e → o ≡ archive_outcome a (Err e) → IsFailureReport (archive a) m b o
  archive_failure m b e o failed is_of is = ([], archive_message a e, inl (e, failed, is_of, refl, refl), is)

  archive_fails : (e : ArchiveRefusal) (o : Outcome) → o ≡ archive_outcome a (Err e) → o.status ≡ Failure
  archive_fails e o is = ap (λ (x : Outcome). x.status) is

  archived_found : (known : Option Files) (r : Result ArchiveResult ArchiveRefusal) → IfSome known (λ m. Refines is_archive_system_error (λ x. x) r (archive_result m a)) → IfSome known (λ m. RefinesProp is_archive_system_error (IsArchived m) r)
  archived_found None r h = tt
  archived_found (Some m) (Ok x) h = h
  archived_found (Some m) (Err e) h = h

  -- a proposition that doesn't depend on the files
  whatever : (known : Option Files) (P : Type 0) → P → IfSome known (λ m. P)
  whatever None P h = tt
  whatever (Some m) P h = h

  pub computes_archive : {F : Type 0} (known : Option Files) (fo fm : ℕ) (b : LastFailure) (r : Result ArchiveResult ArchiveRefusal) (q : Result Outcome F) → PropagatesIoErrors is_archive_failure fo fm r → FailsAtLastCount is_archive_system_error fo r → IfErr r (λ e. is_archive_failure e ≡ true → IsOfArchive b a e) → IfSome known (λ m. Refines is_archive_system_error (λ x. x) r (archive_result m a)) → IfOk q (λ o. o ≡ archive_outcome a r) → IfSome known (λ m. IfOk q (ComputesOutcome (archive a) m b fo fm))
  computes_archive known fo fm b r q count asks named gives comes =
      computes (archive a) is_archive_memory is_archive_failure IsArchived (λ r o. o ≡ archive_outcome a r) ArchiveStops archive_does archive_memory archive_failure archive_fails
      known fo fm b r q count asks (whatever known _ named) (archived_found known r gives) comes

  pub archive_fails_so : {F : Type 0} (fo fm : ℕ) (r : Result ArchiveResult ArchiveRefusal) (q : Result Outcome F) → PropagatesIoErrors is_archive_failure fo fm r → FailsAtLastCount is_archive_system_error fo r → IfOk q (λ o. o ≡ archive_outcome a r) → HasFailed fo fm → IfOk q (λ o. o.status ≡ Failure)
  archive_fails_so =
      fails_so (archive a) is_archive_memory is_archive_failure IsArchived (λ r o. o ≡ archive_outcome a r) ArchiveStops archive_does archive_memory archive_failure archive_fails

-- ---- An assembly.

-- equal folders and constants give an equal job
pub same_job : (a : AssembleView) (include : List (List ℕ)) (defines : List Define) → include ≡ a.include → defines ≡ map define_in a.defines → record { source = a.source; include = include; defines = defines } ≡ job_in a
same_job a include defines h k = ap (λ (i : List (List ℕ)). job_with a i defines) h ∙ ap (λ (d : List Define). job_with a a.include d) k
  where
    job_with : AssembleView → List (List ℕ) → List Define → Job
    job_with b i d = record { source = b.source; include = i; defines = d }

module _ (a : AssembleView) (out err : List ℕ) where
  abbrev Made : Result Object Diagnostic → Outcome → Type 0
  Made r o = IsResultOutcome a out err (located_result r) o

  abbrev found_in : Result Object Diagnostic → asm.Outcome
  found_in r = record { result = located_result r; out = out; err = err }

  abbrev IsMade : Job → Files → Result Object Diagnostic → Type 0
  IsMade j m r = IsOutcome m j (found_in r)

  -- `IsMade`, and the numbers of the object fit their types
  abbrev IsMadeFitting : Job → Files → Result Object Diagnostic → Type 0
  IsMadeFitting j m r = IsMade j m r × IfOk r ObjectFits

  abbrev MakingStops : Job → Files → LastFailure → Diagnostic → Type 0
  MakingStops j m b e = IsStoreFailureOutcome m b j (located_fault e) out err

  -- a source has at most one outcome, so its object is the one that was assembled
  made_fits : (m : Files) (r : Result Object Diagnostic) → IsMadeFitting (job_in a) m r → SourceObjectFits a m
  made_fits m (Ok object) (is, fits) x other was found =
      let both : Ok object ≡ Ok other = ap (λ (z : asm.Outcome). z.result) (one_answer m (job_in a) (found_in (Ok object)) x is was) ∙ found in
      let same : object ≡ other = cc in
      subst ObjectFits same fits
  made_fits m (Err e) (is, fits) x other was found =
      absurd (let both : Err (located_fault e) ≡ Ok other = ap (λ (z : asm.Outcome). z.result) (one_answer m (job_in a) (found_in (Err e)) x is was) ∙ found in cc)

  made_does : (m : Files) (r : Result Object Diagnostic) (o : Outcome) → IsMadeFitting (job_in a) m r → Made r o → IsFittingOutcome (assemble a) m o
  made_does m r o is comes = ((found_in r, is.0, comes), made_fits m r is)

  with_numbers : (j : Job) (known : Option Files) (r : Result Object Diagnostic) → IfOk r ObjectFits → IfSome known (λ m. RefinesProp is_diagnostic_system_error (IsMade j m) r) → IfSome known (λ m. RefinesProp is_diagnostic_system_error (IsMadeFitting j m) r)
  with_numbers j None r fits h = tt
  with_numbers j (Some m) (Ok object) fits h = (h, fits)
  with_numbers j (Some m) (Err e) fits h = by (is_diagnostic_system_error e) h
    where
      by : (b : Bool) → Unless b (IsMade j m (Err e)) → Unless b (IsMadeFitting j m (Err e))
      by true u = tt
      by false u = (u, tt)

  made_memory : (e : Diagnostic) (o : Outcome) → is_asm_memory e.fault ≡ true → Made (Err e) o → o ≡ error_outcome (file_memory_message a.source)
  made_memory e o h is = is ∙ by_memory
    where
      by_memory : failed_assembly_outcome a.source out err (located_fault e) ≡ error_outcome (file_memory_message a.source)
      by_memory = rw h refl

  made_failure : (m : Files) (b : LastFailure) (e : Diagnostic) (o : Outcome) → is_store_failure e ≡ true → MakingStops (job_in a) m b e → Made (Err e) o → IsFailureReport (assemble a) m b o
  made_failure m b e o failed stops is = by_memory (is_asm_memory e.fault) refl
    where
      by_memory : (c : Bool) → is_asm_memory e.fault ≡ c → IsFailureReport (assemble a) m b o
      by_memory true h = ([], file_memory_message a.source, inr (refl, refl), made_memory e o h is)
      by_memory false h =
          let text : List ℕ = err ++ asm_message a.source (located_fault e) in
          let printed : failed_assembly_outcome a.source out err (located_fault e) ≡ outcome_without_files out text = rw h refl in
          (out, text, inl (located_fault e, err, failed, stops, refl), is ∙ printed)

  made_fails : (e : Diagnostic) (o : Outcome) → Made (Err e) o → o.status ≡ Failure
  made_fails e o is = ap (λ (x : Outcome). x.status) is ∙ refused_status (located_fault e) (is_asm_memory e.fault) refl
    where
      refused_status : (e : LocatedFault) (b : Bool) → is_asm_memory e.fault ≡ b → (failed_assembly_outcome a.source out err e).status ≡ Failure
      refused_status e true h = rw h refl
      refused_status e false h = rw h refl

  pub computes_assembly : {F : Type 0} (known : Option Files) (fo fm : ℕ) (b : LastFailure) (j : Job) (r : Result Object Diagnostic) (q : Result Outcome F) → j ≡ job_in a → PropagatesIoErrors is_store_failure fo fm r → FailsAtLastCount is_diagnostic_system_error fo r → IfSome known (λ m. IfErr r (λ e. is_store_failure e ≡ true → IsStoreFailureOutcome m b j (located_fault e) out err)) → IfSome known (λ m. RefinesProp is_diagnostic_system_error (IsMade j m) r) → IfOk r ObjectFits → IfOk q (Made r) → IfSome known (λ m. IfOk q (ComputesOutcome (assemble a) m b fo fm))
  computes_assembly known fo fm b j r q same count asks stopped finds fits comes =
      computes (assemble a) (λ e. is_asm_memory e.fault) is_store_failure (IsMadeFitting (job_in a)) Made (MakingStops (job_in a)) made_does made_memory made_failure made_fails
      known fo fm b r q count asks
      (subst (λ (k : Job). IfSome known (λ m. IfErr r (λ e. is_store_failure e ≡ true → IsStoreFailureOutcome m b k (located_fault e) out err))) same stopped)
      (with_numbers (job_in a) known r fits (subst (λ (k : Job). IfSome known (λ m. RefinesProp is_diagnostic_system_error (IsMade k m) r)) same finds)) comes

  pub assembly_fails_so : {F : Type 0} (fo fm : ℕ) (r : Result Object Diagnostic) (q : Result Outcome F) → PropagatesIoErrors is_store_failure fo fm r → FailsAtLastCount is_diagnostic_system_error fo r → IfOk q (Made r) → HasFailed fo fm → IfOk q (λ o. o.status ≡ Failure)
  assembly_fails_so =
      fails_so (assemble a) (λ e. is_asm_memory e.fault) is_store_failure (IsMadeFitting (job_in a)) Made (MakingStops (job_in a)) made_does made_memory made_failure made_fails
