-- The objects of FILEs are added to a library in order.
use Rattle.std.proofs.Common.{◌≡◌, ◌∙◌, ℕ, ◌+◌, ◌<◌, ◌≤◌, Bool, true, false, List, ◌∷◌, length, drop, take, Option, Some, None, Result, Ok, Err, refl, sym, ap, subst, arith}
use Rattle.std.specs.Prelude.{IfSome, IsErrOf}
use Rattle.std.specs.FinMap.{get}
use Rattle.std.proofs.lemmas.List.{drop_all}
use Rattle.base65.specs.Outcome.{◌>>=◌, Refines, RefinesErr, Unless}
use Rattle.base65.specs.Reading.{file_prefix}
use Rattle.base65.specs.Store.{Files, HasFailed, PropagatesIoError, PropagatesIoErrors}
use Rattle.object65.specs.Reading.{file_limit}
use Rattle.library65.specs.declared.contents.Contents.{Contents}
use Rattle.library65.specs.declared.fault.LibraryFault.{LibraryFault}
use Rattle.library65.specs.declared.fault.LibraryFault.TheVariants as fault
use Rattle.library65.specs.Fault.{is_memory as is_library_memory, is_system_error as is_library_system_error}
use Rattle.library65.specs.Libraries.{member_contents, with_new_member, with_member}
use Rattle.library65.specs.Reading.{in_file}
use Rattle.library65.specs.Spelling.{Member}
use Rattle.library65.proofs.Members.{not_stored}
use Rattle.ar65.specs.declared.fault.ArchiveFault.TheVariants as error
use Rattle.ar65.specs.Librarian.{as_file, member_name, with_file, with_files}
use Rattle.ar65.specs.Laws.{HaveBytes}
use Rattle.ar65.specs.Faults.{is_failure, is_system_error}
use Rattle.base65.specs.Store.{IsBytes}
use Rattle.ar65.proofs.LongFiles.{told_by_front}

-- ---- One FILE.

weaker : {Y : Type 0} (e : LibraryFault) (r : Result Y LibraryFault) → RefinesErr is_library_memory e r → RefinesErr is_library_system_error e r
weaker fault.OutOfMemory r h = tt
weaker fault.FileError r h = tt
weaker e r h = h

pub weaker_result : {X Y : Type 0} (view : X → Y) (r : Result X LibraryFault) (whole : Result Y LibraryFault) → Refines is_library_memory view r whole → Refines is_library_system_error view r whole
weaker_result view (Ok x) whole h = h
weaker_result view (Err e) whole h = weaker e whole h

-- the member that is added is the object of the FILE
pub put_of : (known : Option Files) (ms : List Member) (name front put : List ℕ) (new : List Member) (r : Result (Unit {0}) LibraryFault) → put ≡ member_name name → IfSome known (λ m. file_prefix (get m name) (file_limit + 1) ≡ Ok front) → Refines is_library_memory (λ _. new) r (with_new_member ms put front) → IfSome known (λ m. Refines is_library_system_error (λ _. new) r (with_file m ms name))
put_of None ms name front put new r named read gives = tt
put_of (Some m) ms name front put new r named read gives = go (get m name) read
  where
    go : (file : Option (List ℕ)) → file_prefix file (file_limit + 1) ≡ Ok front → Refines is_library_system_error (λ _. new) r (in_file file (with_new_member ms (member_name name)))
    go None read = absurd cc
    go (Some bytes) read =
        let same : take (file_limit + 1) bytes ≡ front = cc in
        let whole : with_new_member ms put front ≡ with_new_member ms (member_name name) bytes =
        ap (λ n. with_new_member ms n front) named ∙ ap (with_new_member ms (member_name name)) (sym same) ∙ told_by_front ms (member_name name) bytes in
        weaker_result (λ _. new) r (with_new_member ms (member_name name) bytes) (subst (Refines is_library_memory (λ _. new) r) whole gives)

no_store : (ms : List Member) (name bytes : List ℕ) → with_new_member ms name bytes ≡ Err fault.FileError → ⊥
unfolding with_new_member
no_store ms name bytes e = go (member_contents name bytes) refl e
  where
    go : (r : Result Contents LibraryFault) → member_contents name bytes ≡ r → (r >>= (λ c. Ok (with_member ms name bytes))) ≡ Err fault.FileError → ⊥
    go (Ok c) is h = cc
    go (Err f) is h = not_stored name bytes fault.FileError (let same : f ≡ fault.FileError = cc in is ∙ ap (λ x. Err x) same) refl

-- adding an object doesn't fail the store
pub not_failed : (ms : List Member) (name bytes : List ℕ) (new : List Member) (r : Result (Unit {0}) LibraryFault) → Refines is_library_memory (λ _. new) r (with_new_member ms name bytes) → IsErrOf r fault.FileError → ⊥
not_failed ms name bytes new (Ok u) gives h = absurd cc
not_failed ms name bytes new (Err e) gives h =
    let same : e ≡ fault.FileError = cc in
    no_store ms name bytes (subst (λ f. RefinesErr is_library_memory f (with_new_member ms name bytes)) same gives)

-- after a call that succeeded, a step that doesn't fail the store preserves the count of failures
pub passes_on : {T U E : Type 0} (f : E) (old new : ℕ) (x : T) (r : Result U LibraryFault) → PropagatesIoError f old new (Ok x) → (IsErrOf r fault.FileError → ⊥) → PropagatesIoError fault.FileError old new r
passes_on f old new x r p none = record {
  monotone = p.monotone;
  reported = λ h. absurd (cc (p.reported h));
  caused = λ h. absurd (none h);
}

-- ---- Several FILEs in order.

pub same_count : {T : Type 0} (start mid new : ℕ) (x : T) → mid ≡ start → PropagatesIoError fault.FileError mid new (Ok x) → new ≡ start
same_count start mid new x e p =
    let not_later : mid < new → ⊥ = λ h. cc (p.reported h) in
    omega (arith, e, p.monotone, not_later)

is_stored : (k : ℕ) (e : LibraryFault) → is_failure (error.File k e) ≡ true → e ≡ fault.FileError
is_stored k fault.FileError h = refl
is_stored k e h = absurd cc

pub refused_count : {T U : Type 0} (start mid new k : ℕ) (e : LibraryFault) → mid ≡ start → PropagatesIoError {T = T} fault.FileError mid new (Err e) → PropagatesIoErrors {T = U} is_failure start new (Err (error.File k e))
refused_count start mid new k e same p = record {
  monotone = subst (λ n. n ≤ new) same p.monotone;
  reported = λ h.
      let stored : e ≡ fault.FileError = cc (p.reported (subst (λ n. n < new) (sym same) h)) in
      ap (λ x. is_failure (error.File k x)) stored;
  caused = λ h. subst (λ n. HasFailed n new) same (p.caused (ap (λ x. Err x) (is_stored k e h)));
}

-- adding the remaining FILEs has the same result as adding all of them
abbrev pub IsLeft : Option Files → List Member → List (List ℕ) → List Member → ℕ → Type 0
IsLeft known before names ms k = IfSome known (λ m. with_files m ms k (drop k names) ≡ with_files m before 0 names)

pub file_more : (known next : Option Files) (before ms ns : List Member) (names : List (List ℕ)) (k : ℕ) (name : List ℕ) → next ≡ known → drop k names ≡ name ∷ drop (k + 1) names → IsLeft known before names ms k → IfSome next (λ m. with_file m ms name ≡ Ok ns) → IsLeft known before names ns (k + 1)
file_more None next before ms ns names k name same at left put = tt
file_more (Some m) next before ms ns names k name same at left put =
    let here : with_file m ms name ≡ Ok ns = rw same at put in
    sym (ap (λ r. as_file k r >>= (λ xs. with_files m xs (k + 1) (drop (k + 1) names))) here)
    ∙ sym (ap (with_files m ms k) at)
    ∙ left

file_outside : (k : ℕ) (e : LibraryFault) (P : Type 0) → Unless (is_library_system_error e) P → Unless (is_system_error (error.File k e)) P
file_outside k fault.OutOfMemory P h = tt
file_outside k fault.FileError P h = tt
file_outside k e P h = h

unless_then : {P Q : Type 0} (b : Bool) → (P → Q) → Unless b P → Unless b Q
unless_then true f h = tt
unless_then false f h = f h

pub file_none : (known next : Option Files) (before ms : List Member) (names : List (List ℕ)) (k : ℕ) (name : List ℕ) (e : LibraryFault) → next ≡ known → drop k names ≡ name ∷ drop (k + 1) names → IsLeft known before names ms k → IfSome next (λ m. RefinesErr is_library_system_error e (with_file m ms name)) → IfSome known (λ m. RefinesErr is_system_error (error.File k e) (with_files m before 0 names))
file_none None next before ms names k name e same at left put = tt
file_none (Some m) next before ms names k name e same at left put =
    let here : RefinesErr is_library_system_error e (with_file m ms name) = rw same at put in
    let whole : with_file m ms name ≡ Err e → with_files m before 0 names ≡ Err (error.File k e) = λ h.
    sym left ∙ ap (with_files m ms k) at ∙ ap (λ r. as_file k r >>= (λ xs. with_files m xs (k + 1) (drop (k + 1) names))) h in
    file_outside k e (with_files m before 0 names ≡ Err (error.File k e)) (unless_then (is_library_system_error e) whole here)

-- ---- The FILEs that were read contain bytes.

-- if the remaining FILEs contain bytes, all FILEs do
abbrev pub HaveLeft : Option Files → List (List ℕ) → ℕ → Type 0
HaveLeft known names k = IfSome known (λ m. HaveBytes m (drop k names) → HaveBytes m names)

pub left_more : (known next : Option Files) (names : List (List ℕ)) (k : ℕ) (name : List ℕ) → next ≡ known → drop k names ≡ name ∷ drop (k + 1) names → HaveLeft known names k → IfSome next (λ m. IfSome (get m name) IsBytes) → HaveLeft known names (k + 1)
left_more None next names k name same front left here = tt
left_more (Some m) next names k name same front left here =
    let there : IfSome (get m name) IsBytes = rw same at here in
    λ more. left (subst (HaveBytes m) (sym front) (there, more))

pub left_none : (known : Option Files) (names : List (List ℕ)) (k : ℕ) → length names ≤ k → HaveLeft known names k → IfSome known (λ m. HaveBytes m names)
left_none None names k h left = tt
left_none (Some m) names k h left = left (subst (HaveBytes m) (sym (drop_all k names h)) tt)
