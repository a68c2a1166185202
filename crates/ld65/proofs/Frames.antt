-- The effects of calls on a store and on a linker, and how they compose.
use Rattle.std.proofs.lemmas.Grind.{common_steps}
use Rattle.std.proofs.Common.{◌≡◌, ◌∙◌, ◌<◌, ℕ, List, [], Bool, true, false, if◌then◌else◌, Option, Result, Ok, Err, refl, ap, arith, ◌≤◌, ◌+◌, subst, sym, IfErr}
use Rattle.std.specs.Prelude.{IsErrOf}
use Rattle.base65.specs.Store.{Files, FailedWithin, PropagatesIoError, PropagatesIoErrors, LastFailure}
use Rattle.object65.specs.declared.fault.ObjectFault.{ObjectFault}
use Rattle.object65.specs.declared.fault.ObjectFault.TheVariants as object
use Rattle.object65.specs.Record.{is_memory as is_object_memory}
use Rattle.object65.specs.Reading.{StoreFrame}
use Rattle.link65.specs.declared.fault.LinkFault.{LinkFault}
use Rattle.link65.specs.declared.fault.LinkFault.TheVariants as link
use Rattle.link65.specs.Faults.{of_object}
use Rattle.link65.specs.Programs.{Module}
use Rattle.script65.specs.declared.script.Script.{Script}
use Rattle.link65.specs.Representation.{LinkerView, RepresentsModules, ConfigFrame, is_open}
use Rattle.ld65.specs.declared.fault.LinkCommandFault.{LinkCommandFault}
use Rattle.ld65.specs.Internal.AddedModules.{NamedStoreFrame, AddModulesFrame}
use Rattle.ld65.specs.Linkage.{as_command_fault, member_module}
use Rattle.ld65.specs.Naming.{IsHeaderFailure, IsMemberFailure, IsObjectFailure, NamesFailure}
use Rattle.ld65.specs.declared.fault.LinkCommandFault.TheVariants.{Member, Object}
use Rattle.library65.specs.declared.index.Entry.{Entry}
use Rattle.ld65.specs.Faults.{is_failure, input_fault, member_fault}
use Rattle.ld65.proofs.Objects.{file_failed}

pub keeps_on : (old mid new : LinkerView) → ConfigFrame old mid → ConfigFrame mid new → ConfigFrame old new
keeps_on old mid new first next = record { script = next.script ∙ first.script; output = next.output ∙ first.output }

-- ---- The linker's error `file_failed` comes only from an object's error `FileError`.

pub stored : (f : ObjectFault) → of_object f ≡ file_failed → f ≡ object.FileError
stored f h = go (is_object_memory f) h
  where
    go : (b : Bool) → (if b then link.OutOfMemory else link.Malformed f) ≡ file_failed → f ≡ object.FileError
    go true h = absurd cc
    go false h = cc

is_stored_at : (k : ℕ) (e : LinkFault) → is_failure (input_fault k e) ≡ true → e ≡ file_failed
is_stored_at k (link.Malformed object.FileError) h = refl
is_stored_at k (link.Malformed f) h = absurd cc
is_stored_at k e h = absurd cc

is_stored_in : (name : List ℕ) (e : LinkFault) → is_failure (member_fault name e) ≡ true → e ≡ file_failed
is_stored_in name (link.Malformed object.FileError) h = refl
is_stored_in name (link.Malformed f) h = absurd cc
is_stored_in name e h = absurd cc

-- ---- Calls that add an object.

pub err_is : {T : Type 0} (e f : LinkFault) → ◌≡◌ {A = Result T LinkFault} (Err e) (Err f) → e ≡ f
err_is e f h = cc h

-- if a call returned a value, no call of the store failed
pub none_passed : {T : Type 0} (a b : ℕ) (x : T) → PropagatesIoError file_failed a b (Ok x) → b ≡ a
none_passed a b x passes = grind (arith, common_steps)

module _ {X : Type 0} {files_of : X → Option Files} {failures_of : X → ℕ} {last_failure_of : X → LastFailure} (name : List ℕ) (old new : X) where
  -- an operation that makes no call of the store
  pub untouched : {T : Type 0} (r : Result T LinkFault) → files_of new ≡ files_of old → failures_of new ≡ failures_of old → (r ≡ Err file_failed → ⊥) → StoreFrame files_of failures_of last_failure_of file_failed name old new r
  untouched r files same free = record {
    files = files;
    count = record { monotone = omega (arith, same); reported = λ h. absurd (omega (arith, same)); caused = λ h. absurd (free h) };
    last_failure = λ h. absurd (free h);
  }

  -- a read error, as the linker's error, after calls of the store that didn't fail
  pub unread_after : {A B : Type 0} (mid : X) (f : ObjectFault) → files_of mid ≡ files_of old → failures_of mid ≡ failures_of old → StoreFrame {T = A} files_of failures_of last_failure_of object.FileError name mid new (Err f) → StoreFrame {T = B} files_of failures_of last_failure_of file_failed name old new (Err (of_object f))
  unread_after {A} {B} mid f files same left = record {
    files = left.files ∙ files;
    count = subst (λ (n : ℕ). PropagatesIoError {T = B} file_failed n (failures_of new) (Err (of_object f))) same (record {
      monotone = left.count.monotone;
      reported = λ h. let is : f ≡ object.FileError = cc (left.count.reported h) in ap (λ g. Err (of_object g)) is;
      caused = λ h. left.count.caused (ap Err (as_read h));
    });
    last_failure = λ h. left.last_failure (ap Err (as_read h));
  }
    where
      as_read : ◌≡◌ {A = Result B LinkFault} (Err (of_object f)) (Err file_failed) → f ≡ object.FileError
      as_read h = stored f (let is : of_object f ≡ file_failed = cc h in is)

  -- the same for an error of the linker itself
  pub fault_after : {A B : Type 0} (mid : X) (e : LinkFault) → files_of mid ≡ files_of old → failures_of mid ≡ failures_of old → StoreFrame {T = A} files_of failures_of last_failure_of file_failed name mid new (Err e) → StoreFrame {T = B} files_of failures_of last_failure_of file_failed name old new (Err e)
  fault_after {A} {B} mid e files same left = record {
    files = left.files ∙ files;
    count = subst (λ (n : ℕ). PropagatesIoError {T = B} file_failed n (failures_of new) (Err e)) same (record {
      monotone = left.count.monotone;
      reported = λ h. ap Err (let is : e ≡ file_failed = cc (left.count.reported h) in is);
      caused = λ h. left.count.caused (ap Err (err_is e file_failed h));
    });
    last_failure = λ h. left.last_failure (ap Err (err_is e file_failed h));
  }

-- ---- An object as an input and as a member.

fed_count : (a b : ℕ) → PropagatesIoError {T = Unit {0}} file_failed a b (Ok tt) → PropagatesIoErrors {T = Unit {0}} is_failure a b (Ok tt)
fed_count a b passes = record { monotone = passes.monotone; reported = λ h. let no : ⊥ = cc (passes.reported h) in absurd no; caused = tt }

named_count : (named : LinkFault → LinkCommandFault) (a b : ℕ) (e : LinkFault) → is_failure (named file_failed) ≡ true → (is_failure (named e) ≡ true → e ≡ file_failed) → PropagatesIoError {T = Unit {0}} file_failed a b (Err e) → PropagatesIoErrors {T = Unit {0}} is_failure a b (Err (named e))
named_count named a b e fails stored passes = record {
  monotone = passes.monotone;
  reported = λ h. let same : e ≡ file_failed = cc (passes.reported h) in ap (λ x. is_failure (named x)) same ∙ fails;
  caused = λ h. passes.caused (ap Err (stored h));
}

-- the frame of the store after an object, for all modules that the linker represents
abbrev LeavesObject : {X : Type 0} → (X → Option Files) → (X → ℕ) → (X → LastFailure) → List ℕ → X → X → LinkerView → Result (Unit {0}) LinkFault → Type 0
LeavesObject files_of failures_of last_failure_of name old new before r = (modules : List Module) → RepresentsModules before modules → StoreFrame files_of failures_of last_failure_of file_failed name old new r

-- if the store failed, the call requested bytes from `begin` to `end` of the file
abbrev FailsWithin : {X : Type 0} → (X → LastFailure) → List ℕ → ℕ → ℕ → X → LinkerView → Result (Unit {0}) LinkFault → Type 0
FailsWithin last_failure_of name begin end new before r = (modules : List Module) → RepresentsModules before modules → IsErrOf r file_failed → begin ≤ end → FailedWithin (last_failure_of new) name begin end

module _ {X : Type 0} {files_of : X → Option Files} {failures_of : X → ℕ} {last_failure_of : X → LastFailure} (old new : X) (before after : LinkerView) (keeps : ConfigFrame before after) (files : files_of new ≡ files_of old) where
  pub object_left : (NamesAfter : List Module → LastFailure → LinkCommandFault → Type 0) (name : List ℕ) → is_open after ≡ false → LeavesObject files_of failures_of last_failure_of name old new before (Ok tt) → AddModulesFrame files_of failures_of last_failure_of NamesAfter old new before after (Ok tt)
  object_left NamesAfter name opened left = record {
    opened = opened;
    config = keeps;
    files = files;
    count = λ modules stands. fed_count _ _ (left modules stands).count;
    named = λ modules stands. tt;
  }

  pub file_left : (index : ℕ) (name : List ℕ) (e : LinkFault) → LeavesObject files_of failures_of last_failure_of name old new before (Err e) → AddModulesFrame files_of failures_of last_failure_of (λ _ b. NamesFailure (IsObjectFailure b index name)) old new before after (Err (input_fault index e))
  file_left index name e left = record {
    opened = tt;
    config = keeps;
    files = files;
    count = λ modules stands. named_count (input_fault index) _ _ e refl (is_stored_at index e) (left modules stands).count;
    named = λ modules stands failed.
        let fault = is_stored_at index e failed in
        let P : LinkFault → Type 0 = λ f. IsObjectFailure (last_failure_of new) index name (input_fault index f) in
        subst P (sym fault) (refl, (left modules stands).last_failure (ap Err fault));
  }

  pub member_left : (library called : List ℕ) (entry : Entry) (e : LinkFault) → called ≡ member_module library entry.name → LeavesObject files_of failures_of last_failure_of library old new before (Err e) → FailsWithin last_failure_of library entry.place (entry.place + entry.size) new before (Err e) → AddModulesFrame files_of failures_of last_failure_of (λ _ b. NamesFailure (IsMemberFailure b library entry)) old new before after (Err (member_fault called e))
  member_left library called entry e is left within = record {
    opened = tt;
    config = keeps;
    files = files;
    count = λ modules stands. named_count (member_fault called) _ _ e refl (is_stored_in called e) (left modules stands).count;
    named = λ modules stands failed.
        let fault = is_stored_in called e failed in
        let P : LinkFault → Type 0 = λ f. IsMemberFailure (last_failure_of new) library entry (member_fault called f) in
        subst P (sym fault) (ap (λ n. Member n object.FileError) is, within modules stands (ap Err fault) (omega arith));
  }

-- ---- Inputs and members in sequence.

kept_by : {T : Type 0} (a b : ℕ) (x : T) → PropagatesIoErrors is_failure a b (Ok x) → b ≡ a
kept_by a b x passes = let not_later : a < b → ⊥ = λ h. absurd (passes.reported h) in omega (arith, passes.monotone, not_later)

module _ {X : Type 0} {files_of : X → Option Files} {failures_of : X → ℕ} {last_failure_of : X → LastFailure} (NamesAfter : List Module → LastFailure → LinkCommandFault → Type 0) where
  -- an operation on the store that leaves the linker unchanged
  pub read_left : {T : Type 0} (NamesRead : LastFailure → LinkCommandFault → Type 0) (old new : X) (before : LinkerView) (x : T) → is_open before ≡ false → NamedStoreFrame files_of failures_of last_failure_of NamesRead old new (Ok x) → AddModulesFrame files_of failures_of last_failure_of NamesAfter old new before before (Ok tt)
  read_left NamesRead old new before x opened left = record {
    opened = opened;
    config = record { script = refl; output = refl };
    files = left.files;
    count = λ modules stands. let p = left.count in record { monotone = p.monotone; reported = λ h. absurd (p.reported h); caused = tt };
    named = λ modules stands. tt;
  }

  pub unread_left : {T : Type 0} (NamesRead : LastFailure → LinkCommandFault → Type 0) (old new : X) (before : LinkerView) (e : LinkCommandFault) → ((modules : List Module) (b : LastFailure) → NamesRead b e → NamesAfter modules b e) → NamedStoreFrame {T = T} files_of failures_of last_failure_of NamesRead old new (Err e) → AddModulesFrame files_of failures_of last_failure_of NamesAfter old new before before (Err e)
  unread_left NamesRead old new before e so left = record {
    opened = tt;
    config = record { script = refl; output = refl };
    files = left.files;
    count = λ modules stands. let p = left.count in record { monotone = p.monotone; reported = λ h. p.reported h; caused = λ h. p.caused h };
    named = λ modules stands. so modules (last_failure_of new) left.named;
  }

  -- an operation after others: each failure of it is a failure of the sequence
  pub after_others : (NamesOne : List Module → LastFailure → LinkCommandFault → Type 0) (old mid new : X) (before middle after : LinkerView) (r : Result (Unit {0}) LinkCommandFault) → ((modules : List Module) → RepresentsModules before modules → (more : List Module) × RepresentsModules middle more × (IfErr r (NamesOne more (last_failure_of new)) → IfErr r (NamesAfter modules (last_failure_of new)))) → AddModulesFrame files_of failures_of last_failure_of NamesAfter old mid before middle (Ok tt) → AddModulesFrame files_of failures_of last_failure_of NamesOne mid new middle after r → AddModulesFrame files_of failures_of last_failure_of NamesAfter old new before after r
  after_others NamesOne old mid new before middle after r so first next = record {
    opened = next.opened;
    config = keeps_on before middle after first.config next.config;
    files = next.files ∙ first.files;
    count = λ modules stands.
        let p = so modules stands in
        subst (λ (n : ℕ). PropagatesIoErrors is_failure n (failures_of new) r) (kept_by _ _ tt (first.count modules stands)) (next.count p.0 p.1);
    named = λ modules stands. let p = so modules stands in p.2 (next.named p.0 p.1);
  }

-- the error of an operation that makes no call of the store
pub unasked : {X : Type 0} {files_of : X → Option Files} {failures_of : X → ℕ} {last_failure_of : X → LastFailure} (IsOf : List Module → LastFailure → LinkCommandFault → Type 0) (old : X) (before : LinkerView) (e : LinkCommandFault) → is_failure e ≡ false → AddModulesFrame files_of failures_of last_failure_of (λ modules b. NamesFailure (IsOf modules b)) old old before before (Err e)
unasked IsOf old before e free = record {
  opened = tt;
  config = record { script = refl; output = refl };
  files = refl;
  count = λ modules stands. record { monotone = omega arith; reported = λ h. absurd (omega arith); caused = λ h. absurd cc };
  named = λ modules stands failed. absurd cc;
}

-- ---- The first bytes of an input.

failed_front : (index : ℕ) (f : ObjectFault) → is_failure (Object index f) ≡ true → f ≡ object.FileError
failed_front index f h = let same : link.Malformed f ≡ file_failed = is_stored_at index (link.Malformed f) h in cc

module _ {X : Type 0} {files_of : X → Option Files} {failures_of : X → ℕ} {last_failure_of : X → LastFailure} (NamesAfter : List Module → LastFailure → LinkCommandFault → Type 0) (name : List ℕ) (old new : X) (before : LinkerView) where
  pub front_read : (b : Bool) → is_open before ≡ false → StoreFrame files_of failures_of last_failure_of object.FileError name old new (Ok b) → AddModulesFrame files_of failures_of last_failure_of NamesAfter old new before before (Ok tt)
  front_read b opened left = record {
    opened = opened;
    config = record { script = refl; output = refl };
    files = left.files;
    count = λ modules stands. record { monotone = left.count.monotone; reported = λ h. let no : ⊥ = cc (left.count.reported h) in absurd no; caused = tt };
    named = λ modules stands. tt;
  }

pub front_unread : {X : Type 0} {files_of : X → Option Files} {failures_of : X → ℕ} {last_failure_of : X → LastFailure} (IsOf : List Module → LastFailure → LinkCommandFault → Type 0) (name : List ℕ) (old new : X) (before : LinkerView) (index : ℕ) (f : ObjectFault) → ((modules : List Module) (e : LinkCommandFault) → IsHeaderFailure (last_failure_of new) index name e → IsOf modules (last_failure_of new) e) → StoreFrame {T = Bool} files_of failures_of last_failure_of object.FileError name old new (Err f) → (IsErrOf {T = Bool} (Err f) object.FileError → FailedWithin (last_failure_of new) name 0 4) → AddModulesFrame files_of failures_of last_failure_of (λ modules b. NamesFailure (IsOf modules b)) old new before before (Err (Object index f))
front_unread {X} {files_of} {failures_of} {last_failure_of} IsOf name old new before index f so left within = record {
  opened = tt;
  config = record { script = refl; output = refl };
  files = left.files;
  count = λ modules stands. record {
    monotone = left.count.monotone;
    reported = λ h. let same : f ≡ object.FileError = cc (left.count.reported h) in ap (λ x. is_failure (Object index x)) same;
    caused = λ h. left.count.caused (ap Err (failed_front index f h));
  };
  named = λ modules stands failed.
      let same = failed_front index f failed in
      so modules (Object index f) (ap (λ x. Object index x) same, within (ap Err same));
}

-- ---- All inputs.

module _ {X T : Type 0} {files_of : X → Option Files} {failures_of : X → ℕ} {last_failure_of : X → LastFailure} (IsOf : Script → List Module → LastFailure → List (List ℕ) → LinkCommandFault → Type 0) (s : Script) (names inputs : List (List ℕ)) (old new : X) (fresh fed : LinkerView) (script : fresh.script ≡ s) (stands : RepresentsModules fresh []) where
  pub refused_left : (e : LinkCommandFault) → names ≡ inputs → AddModulesFrame files_of failures_of last_failure_of (λ first b. NamesFailure (IsOf fresh.script first b names)) old new fresh fed (Err e) → NamedStoreFrame {T = T} files_of failures_of last_failure_of (λ b. NamesFailure (IsOf s [] b inputs)) old new (Err e)
  refused_left e same left = record {
    files = left.files;
    count = let p = left.count [] stands in record { monotone = p.monotone; reported = λ h. p.reported h; caused = λ h. p.caused h };
    named = let P : Script → List (List ℕ) → Type 0 = λ t ns. NamesFailure (IsOf t [] (last_failure_of new) ns) e in subst (λ t. P t inputs) script (subst (P fresh.script) same (left.named [] stands));
  }

  -- the link after the inputs doesn't fail the store
  pub linked_left : (r : Result T LinkFault) → AddModulesFrame files_of failures_of last_failure_of (λ first b. NamesFailure (IsOf fresh.script first b names)) old new fresh fed (Ok tt) → NamedStoreFrame files_of failures_of last_failure_of (λ b. NamesFailure (IsOf s [] b inputs)) old new (as_command_fault r)
  linked_left (Ok x) left = let p = left.count [] stands in record {
    files = left.files;
    count = record { monotone = p.monotone; reported = λ h. absurd (p.reported h); caused = tt };
    named = tt;
  }
  linked_left (Err e) left = let p = left.count [] stands in record {
    files = left.files;
    count = record { monotone = p.monotone; reported = λ h. absurd (p.reported h); caused = λ h. absurd cc };
    named = λ h. absurd cc;
  }
