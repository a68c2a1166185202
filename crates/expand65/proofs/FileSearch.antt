-- The search for files.
use Rattle.std.proofs.lemmas.Grind.{common_steps}
use Rattle.std.proofs.Common.{◌≡◌, ◌≢◌, ◌<◌, ◌≤◌, ℕ, ◌+◌, ◌-◌, Bool, true, false, List, [], ◌∷◌, ◌++◌, length, take, drop, get_or, Option, Some, None, Result, Ok, Err, ap, refl, sym, subst, ◌∙◌, arith, inl, inr, map, suc, zero}
use Rattle.std.specs.FinMap as fmap
use Rattle.std.specs.List.{list_any}
use Rattle.std.specs.Str.{IsUtf8, is_utf8}
use Rattle.std.specs.Prelude.{nat_le, ◌||◌, if◌then◌else◌}
use Rattle.std.proofs.lemmas.Bool.Decides.{nat_tests}
use Rattle.std.proofs.lemmas.List.{length-drop, take_more}
use Rattle.std.proofs.lemmas.List.Folds.{list_any-append}
use Rattle.std.proofs.lemmas.Str.{IsUtf8-from_is_utf8}
use Rattle.base65.specs.Outcome.{Unless}
use Rattle.base65.specs.Store.{Files, FailedAt, ReadsAt, LastFailure}
use Rattle.syntax65.specs.Faults.{is_system_error}
use Rattle.expand65.specs.Failures.{FailedOnOneOf}
use Rattle.expand65.specs.Expansion.{file_named, first_file, folder_of, found_or, is_slash}
use Rattle.expand65.specs.Lines.{bytes_of}
use Rattle.expand65.specs.Macros.{file_of, file_exists}
use Rattle.syntax65.specs.declared.fault.ExpandFault.{ExpandFault}
use Rattle.syntax65.specs.declared.fault.ExpandFault.TheVariants.{FileTooLong}

-- ---- The length of a file, by a read at the maximum size.

pub fits : (o : Option (List ℕ)) (buf : List ℕ) (n : ℕ) → ReadsAt o 16777216 buf (Ok n) → n ≡ 0 → 0 < length buf → file_exists o ≡ Ok true
fits None buf n h e b = absurd h
fits (Some bytes) buf n h e b =
    let none : drop 16777216 bytes ≡ [] = h.ends e b in
    let count : length bytes - 16777216 ≡ 0 = sym (length-drop 16777216 bytes) ∙ ap length none in
    let few : nat_le (length bytes) 16777216 ≡ true = grind (arith, nat_tests) in
    rw few refl

pub too_long : (o : Option (List ℕ)) (buf : List ℕ) (n : ℕ) → ReadsAt o 16777216 buf (Ok n) → n ≢ 0 → file_exists o ≡ Err FileTooLong
too_long None buf n h e = absurd h
too_long (Some bytes) buf n h e =
    let count : n ≤ length bytes - 16777216 = subst (λ k. n ≤ k) (length-drop 16777216 bytes) h.within in
    let many : nat_le (length bytes) 16777216 ≡ false = grind (arith, nat_tests) in
    rw many refl

-- ---- The folder of a file name.

pub folder_push : (xs : List ℕ) (b : ℕ) (c : Bool) → is_slash b ≡ c → folder_of (xs ++ b ∷ []) ≡ (if c then xs ++ b ∷ [] else folder_of xs)
folder_push [] b true e = rw e refl
folder_push [] b false e = rw e refl
folder_push (x ∷ xs) b true e = grind (arith, common_steps, (folder_push xs b true e), list_any-append)
folder_push (x ∷ xs) b false e =
    let same : list_any is_slash (x ∷ xs ++ b ∷ []) ≡ list_any is_slash (x ∷ xs) = list_any-append is_slash (x ∷ xs) (b ∷ []) ∙ rw e (or_false (is_slash x || list_any is_slash xs)) in
    rw (same, folder_push xs b false e) refl
  where
    or_false : (y : Bool) → (y || false) ≡ y
    or_false true = refl
    or_false false = refl

pub folder_next : (file : List ℕ) (i len n d : ℕ) → i < length file → folder_of (take i file) ≡ take len file → len ≤ i → n ≡ (if is_slash (get_or file i d) then i + 1 else len) → (folder_of (take (i + 1) file) ≡ take n file) × (n ≤ i + 1)
folder_next file i len n d l h w e = by (is_slash (get_or file i d)) refl
  where
    by : (c : Bool) → is_slash (get_or file i d) ≡ c → (folder_of (take (i + 1) file) ≡ take n file) × (n ≤ i + 1)
    by true c =
        let count : n ≡ i + 1 = e ∙ rw c refl in
        let more : take (i + 1) file ≡ take i file ++ get_or file i d ∷ [] = take_more file i d l in
        (ap folder_of more ∙ folder_push (take i file) (get_or file i d) true c ∙ sym more ∙ ap (λ k. take k file) (sym count), omega (arith, count))
    by false c =
        let count : n ≡ len = e ∙ rw c refl in
        (ap folder_of (take_more file i d l) ∙ folder_push (take i file) (get_or file i d) false c ∙ h ∙ ap (λ k. take k file) (sym count), omega (arith, count, w))

-- ---- A file that was found isn't too long.

ok_is : {a b : List ℕ × List ℕ} → ◌≡◌ {A = Result (List ℕ × List ℕ) ExpandFault} (Ok a) (Ok b) → a ≡ b
ok_is e = cc

err_is_not : {a : ExpandFault} {b : List ℕ × List ℕ} → ◌≡◌ {A = Result (List ℕ × List ℕ) ExpandFault} (Err a) (Ok b) → ⊥
err_is_not e = absurd (cc)

few_found : (m : Files) (x bytes name : List ℕ) (b : Bool) → nat_le (length bytes) 16777216 ≡ b → (if b then Ok (x, bytes) else Err FileTooLong) ≡ Ok (file_of m name) → length (bytes_of m name) ≤ 16777216
few_found m x bytes name true h e = grind (arith, common_steps, ok_is, nat_tests)
few_found m x bytes name false h e = absurd (err_is_not e)

pub found_fits : (m : Files) (names : List (List ℕ)) (name : List ℕ) → first_file m names ≡ Ok (file_of m name) → length (bytes_of m name) ≤ 16777216
found_fits m [] name e = absurd (err_is_not e)
found_fits m (x ∷ names) name e = by (file_named m x) e (λ h. found_fits m names name h)
  where
    by : (o : Option (List ℕ)) → found_or x o (first_file m names) ≡ Ok (file_of m name) → (first_file m names ≡ Ok (file_of m name) → length (bytes_of m name) ≤ 16777216) → length (bytes_of m name) ≤ 16777216
    by None e ih = ih e
    by (Some bytes) e ih = few_found m x bytes name (nat_le (length bytes) 16777216) refl e

-- ---- The file with a name.

pub not_utf8 : (bytes : List ℕ) → (IsUtf8 bytes → ⊥) → is_utf8 bytes ≡ false
not_utf8 bytes h = by (is_utf8 bytes) refl
  where
    by : (b : Bool) → is_utf8 bytes ≡ b → b ≡ false
    by true e = absurd (h (IsUtf8-from_is_utf8 bytes e))
    by false e = refl

pub is_found : (m : Files) (name found : List ℕ) (others : Result (List ℕ × List ℕ) ExpandFault) → is_utf8 name ≡ true → file_exists (fmap.get m name) ≡ Ok true → found ≡ name → found_or name (file_named m name) others ≡ Ok (file_of m found)
is_found m name found others u h e = grind (arith, common_steps)

pub is_missing : (m : Files) (name : List ℕ) (others : Result (List ℕ × List ℕ) ExpandFault) → is_utf8 name ≡ true → file_exists (fmap.get m name) ≡ Ok false → found_or name (file_named m name) others ≡ others
is_missing m name others u h = grind (arith, common_steps)

pub is_refused : (m : Files) (name : List ℕ) (others : Result (List ℕ × List ℕ) ExpandFault) (f : ExpandFault) → is_utf8 name ≡ true → Unless (is_system_error f) (file_exists (fmap.get m name) ≡ Err f) → Unless (is_system_error f) (found_or name (file_named m name) others ≡ Err f)
is_refused m name others f u h = grind (arith, common_steps)

-- ---- The name of the failed call.

pub among_at : (last_failure : LastFailure) (f : List ℕ → List ℕ) (l : List (List ℕ)) (i : ℕ) (d : List ℕ) → i < length l → FailedAt last_failure (f (get_or l i d)) 16777216 → FailedOnOneOf last_failure (map f l)
among_at last_failure f [] i d h k = absurd (omega (arith, h))
among_at last_failure f (x ∷ l) zero d h k = inl k
among_at last_failure f (x ∷ l) (suc i) d h k = inr (among_at last_failure f l i d (omega (arith, h)) k)
