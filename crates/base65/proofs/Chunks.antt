-- A file is read in chunks.
use Rattle.std.proofs.Common.{◌≡◌, ◌∙◌, ℕ, ◌+◌, ◌-◌, ◌≤◌, ◌<◌, Bool, true, false, nat_le, List, [], ◌++◌, length, take, drop, Option, Some, None, Ok, min, refl, sym, ap, subst, arith, length-drop}
use Rattle.std.specs.Prelude.{IfSome}
use Rattle.std.specs.FinMap as map
use Rattle.std.proofs.lemmas.Bool.Decides.{nat_tests}
use Rattle.std.proofs.lemmas.List.{length-take, take_all, take_min}
use Rattle.base65.specs.Store.{Files}
use Rattle.base65.proofs.BufferFill.{take-add}
use Rattle.base65.specs.Reading.{ReadsChunk, file_prefix}

-- the bytes are a prefix of the file, or empty if there is no such file
abbrev pub IsFront : Option (List ℕ) → List ℕ → Type 0
IsFront None bytes = bytes ≡ []
IsFront (Some file) bytes = bytes ≡ take (length bytes) file

longer : (file : List ℕ) (max_len n : ℕ) (old new : List ℕ) → old ≡ take (length old) file → ReadsChunk (Some file) (length old) max_len old new (Ok n) → new ≡ take (length old + max_len) file
longer file max_len n old new front read = read.0 ∙ ap (λ xs. xs ++ take max_len (drop (length old) file)) front ∙ sym (take-add (length old) max_len file)

-- one further chunk
pub more : (file : Option (List ℕ)) (max_len n : ℕ) (old new : List ℕ) → IsFront file old → length new ≡ length old + n → ReadsChunk file (length old) max_len old new (Ok n) → IsFront file new
more None max_len n old new front len read = absurd read
more (Some file) max_len n old new front len read =
    let whole : new ≡ take (length old + max_len) file = longer file max_len n old new front read in
    let few : length new ≡ min (length old + max_len) (length file) = ap length whole ∙ length-take (length old + max_len) file in
    whole ∙ sym (take_min (length old + max_len) file) ∙ ap (λ k. take k file) (sym few)

-- the last chunk
last : (b : Bool) (file : List ℕ) (max_len n most : ℕ) (old new : List ℕ) → nat_le most (length old + 4096) ≡ b → old ≡ take (length old) file → length old ≤ most → max_len ≡ min 4096 (most - length old) → n < 4096 → ReadsChunk (Some file) (length old) max_len old new (Ok n) → new ≡ take most file
last true file max_len n most old new test front within is short read =
    let near : most ≤ length old + 4096 = grind (arith, nat_tests) in
    let all : length old + max_len ≡ most = omega arith in
    longer file max_len n old new front read ∙ ap (λ k. take k file) all
last false file max_len n most old new test front within is short read =
    let far : length old + 4096 < most = grind (arith, nat_tests) in
    let full : max_len ≡ 4096 = omega arith in
    let rest : n ≡ min max_len (length file - length old) = read.1 ∙ length-take max_len (drop (length old) file) ∙ ap (min max_len) (length-drop (length old) file) in
    let ended : length file ≤ length old + max_len = omega arith in
    longer file max_len n old new front read ∙ take_all (length old + max_len) file ended ∙ sym (take_all most file (omega arith))

-- the result after the last chunk, if the files are known
pub told_whole : (known next : Option Files) (name : List ℕ) (at max_len n most : ℕ) (old new : List ℕ) → at ≡ length old → next ≡ known → length old ≤ most → max_len ≡ min 4096 (most - length old) → n < 4096 → IfSome known (λ m. IsFront (map.get m name) old) → IfSome next (λ m. ReadsChunk (map.get m name) at max_len old new (Ok n)) → IfSome known (λ m. file_prefix (map.get m name) most ≡ Ok new)
told_whole None next name at max_len n most old new there same within is short front read = tt
told_whole (Some m) next name at max_len n most old new there same within is short front read =
    let P : ℕ → Type 0 = λ k. ReadsChunk (map.get m name) k max_len old new (Ok n) in go (map.get m name) front (subst P there (rw same at read))
  where
    go : (file : Option (List ℕ)) → IsFront file old → ReadsChunk file (length old) max_len old new (Ok n) → file_prefix file most ≡ Ok new
    go None f r = absurd r
    go (Some file) f r = ap Ok (sym (last (nat_le most (length old + 4096)) file max_len n most old new refl f within is short r))
