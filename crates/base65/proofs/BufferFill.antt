-- A buffer is filled by consecutive reads.
use Rattle.std.proofs.Common.{◌≡◌, ◌∙◌, ℕ, ◌+◌, ◌-◌, ◌≤◌, List, ◌++◌, length, take, drop, Option, Some, None, Ok, refl, sym, ap, arith}
use Rattle.std.proofs.lemmas.List.{take-append-drop, take_at, drop_at, drop-drop, drop-take, length-take, length-append, length-drop, take-take, take-append-le}
use borrow.Rule.Slice.PartMut.{put_mid, post_of}
use Rattle.std.specs.Prelude.{IfSome}
use Rattle.std.specs.FinMap as map
use Rattle.base65.specs.Store.{Files, ReadsAt, ReadsFull, FilledTo}
use Rattle.std.proofs.Math.Nat.{min-eq_left}

-- a prefix in two parts
pub take-add : {X : Type 0} (m n : ℕ) (xs : List X) → take (m + n) xs ≡ take m xs ++ take n (drop m xs)
take-add m n xs =
    sym (take-append-drop m (take (m + n) xs))
    ∙ (let e : take m (take (m + n) xs) ≡ take m xs = take-take m (m + n) xs (omega arith) in rw (e, drop-take m n xs) refl)

pub filled_more : (file : Option (List ℕ)) (at done n len : ℕ) (buf new : List ℕ) → done + length new ≡ length buf → len ≡ length new → n ≤ length new → FilledTo file at done buf → ReadsAt file (at + done) new (Ok n) → FilledTo file at (done + n) (put_mid done len buf new)
filled_more None at done n len buf new e f within before read = absurd read
filled_more (Some bytes) at done n len buf new e f within before read =
    let split : drop done (drop at bytes) ≡ drop (at + done) bytes = drop-drop done at bytes in
    let capacity : done ≤ length buf = omega arith in
    let front : take done (put_mid done len buf new) ≡ take done buf = take_at (take done buf) _ done (omega (arith, length-take done buf)) in
    let rest : drop done (put_mid done len buf new) ≡ new ++ post_of done len buf = drop_at (take done buf) _ done (omega (arith, length-take done buf)) in
    let more : take n (new ++ post_of done len buf) ≡ take n new = take-append-le n new _ within in
    let l : length (drop at bytes) - done ≡ length (drop (at + done) bytes) = sym (length-drop done (drop at bytes)) ∙ ap length split in (
      omega (arith, read.within, before.0, l),
      rw (take-add done n (put_mid done len buf new), front, rest, more, take-add done n (drop at bytes), split, before.1, read.prefix) refl,
    )

-- a buffer that is filled to its end satisfies the contract
pub filled_full : (file : Option (List ℕ)) (at done n len : ℕ) (buf new : List ℕ) → done + length new ≡ length buf → len ≡ length new → n ≤ length new → done + n ≡ length (put_mid done len buf new) → FilledTo file at done buf → ReadsAt file (at + done) new (Ok n) → ReadsFull file at (put_mid done len buf new) (Ok (done + n))
filled_full None at done n len buf new e f within full before read = absurd read
filled_full (Some bytes) at done n len buf new e f within full before read =
    let more = filled_more (Some bytes) at done n len buf new e f within before read in
    let capacity : length (put_mid done len buf new) ≤ length (drop at bytes) = rw full at more.0 in
    record { count = full ∙ sym (min-eq_left capacity); prefix = more.1 }

-- the same if the files may be unknown
pub told_more : (known next : Option Files) (name : List ℕ) (at done n len : ℕ) (buf new : List ℕ) → next ≡ known → done + length new ≡ length buf → len ≡ length new → n ≤ length new → IfSome known (λ m. FilledTo (map.get m name) at done buf) → IfSome next (λ m. ReadsAt (map.get m name) (at + done) new (Ok n)) → IfSome known (λ m. FilledTo (map.get m name) at (done + n) (put_mid done len buf new))
told_more None next name at done n len buf new same e f within before read = tt
told_more (Some m) next name at done n len buf new same e f within before read =
    filled_more (map.get m name) at done n len buf new e f within before (rw same at read)

-- the same for a read that fills the buffer to its end
pub told_full : (known next : Option Files) (name : List ℕ) (at done n len : ℕ) (buf new : List ℕ) → next ≡ known → done + length new ≡ length buf → len ≡ length new → n ≤ length new → done + n ≡ length (put_mid done len buf new) → IfSome known (λ m. FilledTo (map.get m name) at done buf) → IfSome next (λ m. ReadsAt (map.get m name) (at + done) new (Ok n)) → IfSome known (λ m. ReadsFull (map.get m name) at (put_mid done len buf new) (Ok (done + n)))
told_full None next name at done n len buf new same e f within full before read = tt
told_full (Some m) next name at done n len buf new same e f within full before read =
    filled_full (map.get m name) at done n len buf new e f within full before (rw same at read)

pub length-put_mid : (done len : ℕ) (buf new : List ℕ) → done + length new ≡ length buf → len ≡ length new → length (put_mid done len buf new) ≡ length buf
length-put_mid done len buf new e f =
    simp (length-append, length-take, length-drop) (omega arith)
