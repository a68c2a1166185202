-- The files that ca65 and ar65 write satisfy the premises of the laws of inputs.
use Rattle.std.proofs.Common.{◌≡◌, ◌∙◌, inl, ◌≤◌, ℕ, ◌+◌, Bool, true, false, List, [], ◌∷◌, ◌++◌, length, Option, Some, None, Result, Ok, Err, refl, sym, ap, subst, if◌then◌else◌}
use Rattle.std.specs.Prelude.{IfSome, ◌==◌}
use Rattle.std.specs.FinMap.{get}
use Rattle.std.specs.List.{AllByRecursion}
use Rattle.std.specs.Str.{bytes_eq}
use Rattle.base65.specs.Store.{Files}
use Rattle.object65.specs.declared.object.Object.{Object}
use Rattle.object65.specs.Reading.{file_limit}
use Rattle.object65.specs.Spelling.{IsObject, object_bytes}
use Rattle.library65.specs.declared.contents.Contents.{Contents}
use Rattle.library65.specs.declared.fault.LibraryFault.{LibraryFault}
use Rattle.library65.specs.Libraries.{member_contents, member_names, with_new_member, with_member, bytes_within_limit}
use Rattle.library65.specs.Spelling.{are_member_names, IsMemberList, Member}
use Rattle.library65.specs.Reading.{in_file}
use Rattle.library65.proofs.Edits.{checked_good, with_good}
use Rattle.library65.proofs.LoadedLibraries.{library_loaded, stock_law}
use Rattle.library65.proofs.WrittenLibraries.{written_is}
use Rattle.base65.specs.declared.output.OutputFile.{OutputFile}
use Rattle.ast65.specs.Faults.{is_out_of_memory}
use Rattle.semantics65.specs.Module as asm
use Rattle.sources65.specs.Reading.{IsOutcome}
use Rattle.semantics65.specs.Module.{LocatedFault}
use Rattle.cli65.specs.declared.line.Operation.{Operation}
use Rattle.cli65.specs.Line.{ArchiveView, AssembleView}
use Rattle.cli65.specs.Messages.{file_memory_message}
use Rattle.whole65.proofs.SameValues.{bind_ok}
use Rattle.ar65.specs.declared.archiving.ArchiveResult.TheVariants as archived
use Rattle.ar65.specs.Librarian.{as_file, as_library, library_or_empty, operation_result, member_name, replace_result, rewritten_library, with_file, with_files}
use Rattle.output65.specs.declared.outcome.Outcome.{Outcome}
use Rattle.output65.specs.declared.outcome.Status.TheVariants.{Failure, Success}
use Rattle.tools65.specs.Assembling.{asm_message, job_in}
use Rattle.tools65.specs.Command.{IsResultOutcome, failed_assembly_outcome}
use Rattle.tools65.specs.ObjectFits.{SourceObjectFits}
use Rattle.tools65.specs.Outputs.{ArchivedSourcesLaw, AssembledFileLaw, source_in}
use Rattle.tools65.specs.OneProgram.{Source}
use Rattle.output65.specs.Outputs.{error_outcome, outputs_of}
use Rattle.tools65.specs.ObjectFiles.{IsSourceLibrary, IsSourceObject, IsObjectFileOf}
use Rattle.tools65.proofs.Inputs.{written_object}
use Rattle.tools65.proofs.SelectedModules.{ok_same}

-- ---- Members that ca65 wrote.

of_library : {A : Type 0} (r : Result A LibraryFault) (x : A) → as_library r ≡ Ok x → r ≡ Ok x
of_library (Ok y) x e = let same : y ≡ x = cc in ap (λ z. Ok z) same
of_library (Err f) x e = absurd cc

of_file : {A : Type 0} (k : ℕ) (r : Result A LibraryFault) (x : A) → as_file k r ≡ Ok x → r ≡ Ok x
of_file k (Ok y) x e = let same : y ≡ x = cc in ap (λ z. Ok z) same
of_file k (Err f) x e = absurd cc

with_all : (P : List ℕ → Type 0) (ms : List Member) (name bytes : List ℕ) → AllByRecursion (λ p. P p.1) ms → P bytes → AllByRecursion (λ p. P p.1) (with_member ms name bytes)
with_all P [] name bytes all one = (one, tt)
with_all P (q ∷ ms) name bytes all one = step (bytes_eq name q.0) (with_all P ms name bytes all.1 one)
  where
    step : (b : Bool) → AllByRecursion (λ (p : Member). P p.1) (with_member ms name bytes) → AllByRecursion (λ (p : Member). P p.1) (if b then (q.0, bytes) ∷ ms else q ∷ with_member ms name bytes)
    step true h = (one, all.1)
    step false h = (all.0, h)

module _ (sources : List Source) where
  record AreSources (ms : List Member) : Type 0 where
    names : are_member_names (member_names ms) ≡ true
    all : AllByRecursion (λ p. IsSourceObject sources p.1) ms

  put : (ms ns : List Member) (name bytes : List ℕ) → IsSourceObject sources bytes → AreSources ms → with_new_member ms name bytes ≡ Ok ns → AreSources ns
  unfolding with_new_member
  put ms ns name bytes one are h =
      let (c, good, made) = bind_ok (member_contents name bytes) (λ (d : Contents). Ok (with_member ms name bytes)) ns h in
      let same : with_member ms name bytes ≡ ns = ok_same (with_member ms name bytes) ns made in
      subst (λ (ks : List Member). AreSources ks) same (record {
        names = with_good ms name bytes (checked_good name bytes c good) are.names;
        all = with_all (IsSourceObject sources) ms name bytes are.all one;
      })

  put_file : (file : Option (List ℕ)) (name : List ℕ) (ms ns : List Member) → IfSome file (IsSourceObject sources) → AreSources ms → in_file file (with_new_member ms name) ≡ Ok ns → AreSources ns
  put_file None name ms ns one are h = absurd cc
  put_file (Some bytes) name ms ns one are h = put ms ns name bytes one are h

  put_files : (m : Files) (ms ns : List Member) (k : ℕ) (files : List (List ℕ)) → AllByRecursion (λ file. IfSome (get m file) (IsSourceObject sources)) files → AreSources ms → with_files m ms k files ≡ Ok ns → AreSources ns
  put_files m ms ns k [] all are h = subst (λ (ks : List Member). AreSources ks) (ok_same ms ns h) are
  put_files m ms ns k (file ∷ files) all are h =
      let (ks, one, rest) = bind_ok (as_file k (with_file m ms file)) (λ (ks : List Member). with_files m ks (k + 1) files) ns h in
      put_files m ks ns (k + 1) files all.1 (put_file (get m file) (member_name file) ms ks all.0 are (of_file k (with_file m ms file) ks one)) rest

  begin : (file : Option (List ℕ)) (ms : List Member) → IfSome file (IsSourceLibrary sources) → library_or_empty file ≡ Ok ms → AreSources ms
  begin None ms is h = subst (λ (ks : List Member). AreSources ks) (ok_same [] ms h) (record { names = refl; all = tt })
  begin (Some bytes) ms (ks, is, all) h =
      let same : ks ≡ ms = ok_same ks ms (sym (library_loaded bytes ks is) ∙ h) in
      subst (λ (ns : List Member). AreSources ns) same (record { names = (stock_law.loaded bytes ks is).names; all = all })

  objects_of : (ms : List Member) → AllByRecursion (λ p. IsSourceObject sources p.1) ms → AllByRecursion (λ p. (o : Object) × IsObject p.1 o) ms
  objects_of [] all = tt
  objects_of (p ∷ ms) all =
      let (x, one, w) = all.0 in
      ((w.object, written_object x p.1 w), objects_of ms all.1)

  anew : (ms : List Member) (bytes : List ℕ) → AreSources ms → as_library (rewritten_library ms) ≡ Ok (archived.Library bytes) → IsSourceLibrary sources bytes
  anew ms bytes are h =
      let made = bind_ok (bytes_within_limit ms) (λ (bs : List ℕ). Ok (archived.Library bs)) (archived.Library bytes) (of_library (rewritten_library ms) (archived.Library bytes) h) in
      let same : made.0 ≡ bytes = cc (made.2) in
      let stock : IsMemberList ms = record { names = are.names; objects = objects_of ms are.all } in
      (ms, written_is ms bytes stock (made.1 ∙ ap (λ (b : List ℕ). Ok b) same), are.all)

  by_replacing : (m : Files) (a : ArchiveView) (bytes : List ℕ) → IfSome (get m a.library) (IsSourceLibrary sources) → AllByRecursion (λ file. IfSome (get m file) (IsSourceObject sources)) a.files → replace_result m a ≡ Ok (archived.Library bytes) → IsSourceLibrary sources bytes
  unfolding replace_result
  by_replacing m a bytes old files h =
      let (ms, first, next) = bind_ok (as_library (library_or_empty (get m a.library))) _ _ h in
      let (ns, second, last) = bind_ok (with_files m ms 0 a.files) _ _ next in
      let are = begin (get m a.library) ms old (of_library (library_or_empty (get m a.library)) ms first) in
      anew ns bytes (put_files m ms ns 0 a.files files are second) last

pub archived_sources : ArchivedSourcesLaw
archived_sources sources m a bytes op old files h =
    by_replacing sources m a bytes old files (subst (λ (p : Operation). operation_result p m a ≡ Ok (archived.Library bytes)) op h)

-- ---- An object file.

not_well : Failure ≡ Success → ⊥
not_well e = cc

refused_fails : (source out err : List ℕ) (e : LocatedFault) → (failed_assembly_outcome source out err e).status ≡ Failure
refused_fails source out err e = by (is_out_of_memory e.fault)
  where
    by : (b : Bool) → (if b then error_outcome (file_memory_message source) else record { out = out; err = err ++ asm_message source e; outputs = []; status = Failure }).status ≡ Failure
    by true = refl
    by false = refl

abbrev IsFileOf : Source → OutputFile → Type 0
IsFileOf x f = length f.bytes ≤ file_limit → IsObjectFileOf x f.bytes

named_file : (x : Source) (name bytes : List ℕ) → (length bytes ≤ file_limit → IsObjectFileOf x bytes) → AllByRecursion (IsFileOf x) (outputs_of name bytes)
named_file x name bytes is = by (length name == 0)
  where
    by : (b : Bool) → AllByRecursion (IsFileOf x) (if b then [] else record { name = name; bytes = bytes } ∷ [])
    by true = tt
    by false = (is, tt)

object_file : (a : AssembleView) (m : Files) (o : Outcome) (z : asm.Outcome) (r : Result Object LocatedFault) → IsOutcome m (job_in a) z → z.result ≡ r → IsResultOutcome a z.out z.err r o → SourceObjectFits a m → o.status ≡ Success → AllByRecursion (IsFileOf (source_in a m)) o.outputs
object_file a m o z (Err e) is found h fits well =
    absurd (not_well (sym (ap (λ (x : Outcome). x.status) h ∙ refused_fails a.source z.out z.err e) ∙ well))
object_file a m o z (Ok k) is found (name, named, same) fits well =
    subst (λ (fs : List OutputFile). AllByRecursion (IsFileOf (source_in a m)) fs) (sym (ap (λ (x : Outcome). x.outputs) same))
    (named_file (source_in a m) name (object_bytes k) (λ short. record {
      outcome = z;
      assembled = is;
      assembled_object = k;
      result = found;
      object = k;
      version = inl refl;
      spelled = refl;
      numbers = fits z k is found;
      limit = short;
    }))

pub assembled_file : AssembledFileLaw
assembled_file a m o (z, is, to) fits well = object_file a m o z z.result is refl to fits well
