-- Texts are printed and files are written one part at a time.
use Rattle.std.proofs.Common.{◌≡◌, ◌∙◌, ℕ, ◌<◌, ◌≤◌, arith, length-append, List, [], ◌∷◌, ◌++◌, ◌+◌, get_or, length, map, take, drop, Option, Some, None, Ok, Err, Bool, true, false, cond, ◌⊎◌, inl, inr, not, ◌||◌, refl, sym, ap, subst, append_assoc}
use Rattle.std.specs.FinMap as map
use Rattle.std.proofs.lemmas.List.{take_at, drop_at, append-nil, map-append, take-append-drop, take-append-le, take_more}
use Rattle.std.proofs.lemmas.Grind.{flat_map-append}
use Rattle.cli65.specs.Messages.{concat_texts}
use Rattle.std.specs.Io.KnownBytes.{Appends, Keeps}
use Rattle.std.specs.Ordering.{nat_cmp, eq_by_cmp}
use Rattle.std.specs.Cmp.{eq_by_cmp_equiv}
use Rattle.std.specs.Cmp.Lexicographic.{slice_cmp, nat_list_cmp_total}
use Rattle.base65.specs.Store.{Files, RelatesFiles, NoneFailed, HasFailed, AppendsToFile as Appended}
use Rattle.base65.specs.declared.store.StoreFault.{StoreFault}
use Rattle.base65.specs.declared.store.StoreFault.TheVariants.{OutOfMemory, FileNotFound, FileError}
use Rattle.output65.specs.RunEffects.{PrintsText, PrintsBothTexts, IsPartlyWritten, with_outputs, WritesPrefix, HasMemoryFailure, Streams, streams, PrintsMessage, has_accepted_both, is_failure, is_file_error}
use Rattle.output65.specs.declared.writing.WriteError.{WriteError}
use Rattle.base65.proofs.BufferFill.{take-add}
use Rattle.output65.specs.declared.outcome.Outcome.{Outcome}
use Rattle.output65.specs.declared.outcome.Status.{Status}
use Rattle.output65.specs.declared.outcome.Status.TheVariants.{Failure}
use Rattle.base65.specs.declared.output.OutputFile.{OutputFile}
use Rattle.std.specs.Prelude.{IfSome, IsErrOf}

-- the stream accepted the text up to `rest`
abbrev pub Printing : Option (List ℕ) → Option (List ℕ) → List ℕ → List ℕ → Type 0
Printing None new text rest = Unit {0}
Printing (Some old) None text rest = ⊥
Printing (Some old) (Some new) text rest = (done : List ℕ) × (text ≡ done ++ rest) × (new ≡ old ++ done)

-- the file was created and contains the bytes up to `rest`
abbrev pub Writing : Files → List ℕ → List ℕ → List ℕ → Files → Type 0
Writing old name bytes rest new = (done : List ℕ) × (bytes ≡ done ++ rest) × (new ≡ map.insert old name done)

part : (done rest text : List ℕ) → text ≡ done ++ rest → take (length done) text ≡ done
part done rest text e = ap (take (length done)) e ∙ take_at done rest (length done) refl

shorter : (done rest text : List ℕ) → text ≡ done ++ rest → 0 < length rest → length done < length text
shorter done rest text e h = omega (arith, ap length e, length-append done rest)

-- a stream that fails keeps the part that it accepted
pub printed_part : (old mid new : Option (List ℕ)) (text rest : List ℕ) → 0 < length rest → length rest ≤ length text → Printing old mid text rest → Appends mid new [] → PrintsText old new text false
printed_part None mid new text rest some within p k = omega arith
printed_part (Some o) None new text rest some within p k = absurd p
printed_part (Some o) (Some m) None text rest some within p k = absurd k
printed_part (Some o) (Some m) (Some n) text rest some within p k = (length p.0, shorter p.0 rest text p.1 some, k ∙ append-nil m ∙ p.2 ∙ ap (λ xs. o ++ xs) (sym (part p.0 rest text p.1)))

pub kept : (mid new : Option (List ℕ)) → Keeps mid new → Appends mid new []
kept None new k = tt
kept (Some m) None k = k
kept (Some m) (Some n) k = k ∙ sym (append-nil m)

equal_to_itself : (name : List ℕ) → eq_by_cmp (slice_cmp nat_cmp) name name ≡ true
equal_to_itself name = (eq_by_cmp_equiv nat_list_cmp_total).refl name

got : (m : Files) (name bytes : List ℕ) → map.get (map.insert m name bytes) name ≡ Some bytes
got m name bytes = map.get-insert nat_list_cmp_total m name bytes name ∙ rw (equal_to_itself name) refl

-- of two values under the same name, the map contains the second
replaced : (m : Files) (name a b : List ℕ) → map.insert (map.insert m name a) name b ≡ map.insert m name b
replaced m name a b =
    map.same_map nat_list_cmp_total (map.slice_cmp-IsAntisymmetric map.nat_cmp-IsAntisymmetric) _ _
    (λ q. map.get-insert nat_list_cmp_total (map.insert m name a) name b q ∙ ap (cond (eq_by_cmp (slice_cmp nat_cmp) q name) (Some b)) (map.get-insert nat_list_cmp_total m name a q) ∙ twice (eq_by_cmp (slice_cmp nat_cmp) q name) _ _ _ ∙ sym (map.get-insert nat_list_cmp_total m name b q)) where
      twice : {A : Type 0} (c : Bool) (x y z : A) → cond c x (cond c y z) ≡ cond c x z
      twice true x y z = refl
      twice false x y z = refl

-- `n` further bytes are appended to the file
pub written_more : (known mid new : Option Files) (name bytes rest : List ℕ) (n : ℕ) → RelatesFiles (λ old m. Writing old name bytes rest m) known mid → RelatesFiles (λ m x. Appended m name rest x (Ok n)) mid new → RelatesFiles (λ old x. Writing old name bytes (drop n rest) x) known new
written_more None mid new name bytes rest n p q = tt
written_more (Some o) None new name bytes rest n p q = absurd p
written_more (Some o) (Some m) None name bytes rest n p q = absurd q
written_more (Some o) (Some m) (Some x) name bytes rest n p q =
    let was : map.get m name ≡ Some p.0 = ap (λ (w : Files). map.get w name) p.2 ∙ got o name p.0 in
    let same : q.0 ≡ p.0 = cc (q.1.existing, was) in (
      p.0 ++ take n rest,
      p.1 ∙ ap (λ xs. p.0 ++ xs) (sym (take-append-drop n rest)) ∙ sym (append_assoc p.0 (take n rest) (drop n rest)),
      q.1.extended ∙ ap (λ xs. map.insert m name (xs ++ take n rest)) same ∙ ap (λ (w : Files). map.insert w name (p.0 ++ take n rest)) p.2 ∙ replaced o name p.0 (p.0 ++ take n rest),
    )

unchanged : (e : StoreFault) (m x : Files) (name rest : List ℕ) → Appended m name rest x (Err e) → x ≡ m
unchanged OutOfMemory m x name rest h = h
unchanged FileNotFound m x name rest h = h.1
unchanged FileError m x name rest h = h

-- if an append fails, the file is partly written
pub written_part : (e : StoreFault) (known mid new : Option Files) (name bytes rest : List ℕ) → RelatesFiles (λ old m. Writing old name bytes rest m) known mid → RelatesFiles (λ m x. Appended m name rest x (Err e)) mid new → RelatesFiles (λ old x. IsPartlyWritten old name bytes x) known new
written_part e None mid new name bytes rest p q = tt
written_part e (Some o) None new name bytes rest p q = absurd p
written_part e (Some o) (Some m) None name bytes rest p q = absurd q
written_part e (Some o) (Some m) (Some x) name bytes rest p q =
    inr (length p.0, unchanged e m x name rest q ∙ p.2 ∙ ap (map.insert o name) (sym (part p.0 rest bytes p.1)))

pub nothing : (mid new : Option (List ℕ)) (n : ℕ) (rest : List ℕ) → n ≡ 0 → Appends mid new (take n rest) → Appends mid new []
nothing mid new n rest e h = rw e at h

-- appending to a file that was created doesn't return `FileNotFound`
begun_there : (e : StoreFault) (o m x : Files) (name bytes rest : List ℕ) → Writing o name bytes rest m → Appended m name rest x (Err e) → e ≡ FileNotFound → ⊥
begun_there OutOfMemory o m x name bytes rest p q e = cc
begun_there FileError o m x name bytes rest p q e = cc
begun_there FileNotFound o m x name bytes rest p q e =
    let was : map.get m name ≡ Some p.0 = ap (λ (w : Files). map.get w name) p.2 ∙ got o name p.0 in
    let none : map.get m name ≡ None = q.0 in
    cc

pub still_there : (e : StoreFault) (known mid new : Option Files) (name bytes rest : List ℕ) → RelatesFiles (λ old m. Writing old name bytes rest m) known mid → RelatesFiles (λ m x. Appended m name rest x (Err e)) mid new → IfSome known (λ m. IsErrOf {T = Unit {0}} (Err e) FileNotFound → ⊥)
still_there e None mid new name bytes rest p q = tt
still_there e (Some o) None new name bytes rest p q = absurd p
still_there e (Some o) (Some m) None name bytes rest p q = absurd q
still_there e (Some o) (Some m) (Some x) name bytes rest p q = λ h. begun_there e o m x name bytes rest p q (let same : e ≡ FileNotFound = cc in same)

with_outputs-append : (os : List OutputFile) (o : OutputFile) (m : Files) → with_outputs (os ++ o ∷ []) m ≡ map.insert (with_outputs os m) o.name o.bytes
with_outputs-append [] o m = refl
with_outputs-append (p ∷ os) o m = with_outputs-append os o (map.insert m p.name p.bytes)

-- one further output is written
pub next_output : (known mid new : Option Files) (outputs : List OutputFile) (i : ℕ) (o : OutputFile) → i < length outputs → o ≡ get_or outputs i o → RelatesFiles (λ old m. m ≡ with_outputs (take i outputs) old) known mid → RelatesFiles (λ m n. n ≡ map.insert m o.name o.bytes) mid new → RelatesFiles (λ old n. n ≡ with_outputs (take (i + 1) outputs) old) known new
next_output None mid new outputs i o h is p q = tt
next_output (Some a) None new outputs i o h is p q = absurd p
next_output (Some a) (Some m) None outputs i o h is p q = absurd q
next_output (Some a) (Some m) (Some n) outputs i o h is p q =
    let more : take (i + 1) outputs ≡ take i outputs ++ o ∷ [] = take_more outputs i o h ∙ ap (λ (e : OutputFile). take i outputs ++ e ∷ []) (sym is) in
    q ∙ ap (λ (w : Files). map.insert w o.name o.bytes) p ∙ sym (with_outputs-append (take i outputs) o a) ∙ ap (λ (os : List OutputFile). with_outputs os a) (sym more)

said_more : (old mid new : Option (List ℕ)) (text more : List ℕ) (whole : Bool) → PrintsText old mid text true → PrintsText mid new more whole → PrintsText old new (text ++ more) whole
said_more None mid new text more true p q = tt
said_more None None new text more false p q = omega (arith, q, length-append text more)
said_more None (Some m) None text more false p q = absurd q
said_more None (Some m) (Some n) text more false p q = omega (arith, q.1, length-append text more)
said_more (Some o) None new text more whole p q = absurd p
said_more (Some o) (Some m) None text more whole p q = absurd q
said_more (Some o) (Some m) (Some n) text more true p q = q ∙ ap (λ xs. xs ++ more) p ∙ append_assoc o text more
said_more (Some o) (Some m) (Some n) text more false p q = (
  length text + q.0,
  omega (arith, q.1, length-append text more),
  q.2 ∙ ap (λ xs. xs ++ take q.0 more) p ∙ append_assoc o text (take q.0 more) ∙ ap (λ xs. o ++ xs) (sym (front text more q.0)),
)
  where
    front : (xs ys : List ℕ) (k : ℕ) → take (length xs + k) (xs ++ ys) ≡ xs ++ take k ys
    front xs ys k = take-add (length xs) k (xs ++ ys) ∙ rw (take_at xs ys (length xs) refl, drop_at xs ys (length xs) refl) refl

said_within : (old new : Option (List ℕ)) (text more : List ℕ) → PrintsText old new text false → PrintsText old new (text ++ more) false
said_within None new text more p = omega (arith, p, length-append text more)
said_within (Some o) None text more p = p
said_within (Some o) (Some n) text more p = (
  p.0,
  omega (arith, p.1, length-append text more),
  p.2 ∙ ap (λ xs. o ++ xs) (sym (take-append-le p.0 text more (omega (arith, p.1)))),
)

-- Texts that are printed in sequence: if one of them is cut short after the texts before it, so is the concatenation.
module _ {X : Type 0} (text : X → List ℕ) where
  abbrev all_of : List X → List ℕ
  all_of xs = concat_texts (map text xs)

  all_of-append : (xs ys : List X) → all_of (xs ++ ys) ≡ all_of xs ++ all_of ys
  all_of-append xs ys = ap concat_texts (map-append text xs ys) ∙ flat_map-append (λ p. p) (map text xs) (map text ys)

  pub stops_within : (old mid new : Option (List ℕ)) (xs : List X) (i : ℕ) (d : X) → i < length xs → PrintsText old mid (all_of (take i xs)) true → PrintsText mid new (text (get_or xs i d)) false → PrintsText old new (all_of xs) false
  stops_within old mid new xs i d h p q =
      let x : X = get_or xs i d in
      let more : take (i + 1) xs ≡ take i xs ++ x ∷ [] = take_more xs i d h in
      let last : all_of (take (i + 1) xs) ≡ all_of (take i xs) ++ text x = ap all_of more ∙ all_of-append (take i xs) (x ∷ []) ∙ ap (λ t. all_of (take i xs) ++ t) (append-nil (text x)) in
      let cut : all_of xs ≡ (all_of (take i xs) ++ text x) ++ all_of (drop (i + 1) xs) =
      ap all_of (sym (take-append-drop (i + 1) xs)) ∙ all_of-append (take (i + 1) xs) (drop (i + 1) xs) ∙ ap (λ t. t ++ all_of (drop (i + 1) xs)) last in
      subst (λ t. PrintsText old new t false) (sym cut) (said_within old new (all_of (take i xs) ++ text x) (all_of (drop (i + 1) xs)) (said_more old mid new (all_of (take i xs)) (text x) false p q))

by_cause : (u : WriteError) → is_failure u ≡ false → (u.fault ≡ FileNotFound → ⊥) → u.fault ≡ OutOfMemory
by_cause u = go u.fault refl
  where
    go : (f : StoreFault) → u.fault ≡ f → is_failure u ≡ false → (u.fault ≡ FileNotFound → ⊥) → u.fault ≡ OutOfMemory
    go OutOfMemory e a b = e
    go FileNotFound e a b = absurd (b e)
    go FileError e a b = let yes : is_file_error u.fault ≡ true = ap is_file_error e in cc

-- if not one of two streams failed, neither did
pub both_took : (out err : Bool) → not (out || err) ≡ true → (out ≡ false) × (err ≡ false)
both_took false false h = (refl, refl)
both_took false true h = absurd cc
both_took true err h = absurd cc

-- a message after the texts of both streams
pub after_both : (io mid : Streams) (out err fault : List ℕ) → mid ≡ streams io.out_old io.out_new io.out_failed io.err_old mid.err_new mid.err_failed → has_accepted_both mid ≡ true → PrintsBothTexts mid out err → PrintsText mid.err_new io.err_new fault (not io.err_failed) → PrintsMessage io out err fault
after_both io mid out err fault same took printed more =
    let none = both_took mid.out_failed mid.err_failed took in
    let taken : io.out_failed ≡ false = sym (ap (λ (x : Streams). x.out_failed) same) ∙ none.0 in
    record {
      err_mid = mid.err_new;
      printed = subst (λ (b : Bool). PrintsBothTexts (streams io.out_old io.out_new io.out_failed io.err_old mid.err_new b) out err) none.1 (subst (λ (x : Streams). PrintsBothTexts x out err) same printed);
      accepted = taken;
      following = more;
    }

-- outputs that aren't all written, although no call of the store failed: memory ran out
pub short : (known new : Option Files) (fo fm fn : ℕ) (o : Outcome) (memory : List ℕ) (u : WriteError) (io : Streams) (status : Status) (P : Files → Type 0) → status ≡ Failure → fo ≤ fm → fm ≡ fn → (is_failure u ≡ true → HasFailed fo fm) → IfSome known (λ m. u.fault ≡ FileNotFound → ⊥) → RelatesFiles (WritesPrefix o.outputs u.index) known new → (u.fault ≡ OutOfMemory → PrintsMessage io o.out o.err memory) → IfSome known (λ m. NoneFailed fo fn → P m ⊎ HasMemoryFailure o memory m new io status)
short None new fo fm fn o memory u io status P e later same cause there left printed = tt
short (Some m) new fo fm fn o memory u io status P e later same cause there left printed = λ none.
    let want : u.fault ≡ OutOfMemory = by_cause u (not_failed (is_failure u) refl none) there in
    inr (record {
      printed = printed want;
      index = u.index;
      file_effects = left;
      failed = e;
    })
  where
    not_failed : (b : Bool) → is_failure u ≡ b → NoneFailed fo fn → is_failure u ≡ false
    not_failed false h none = h
    not_failed true h none = absurd (no_cause (cause h) none)
      where
        no_cause : HasFailed fo fm → NoneFailed fo fn → ⊥
        no_cause (inl rose) none = absurd (omega (arith, rose, none.same, same))
        no_cause (inr at) none = absurd (omega (arith, at, none.before))
