-- Records between an offset and a limit, in order up to the END record.
use Rattle.std.proofs.lemmas.Grind.{common_steps}
use Rattle.std.proofs.Common.{◌≡◌, ◌∙◌, ℕ, zero, suc, ◌+◌, ◌-◌, ◌≤◌, List, [], ◌∷◌, ◌++◌, length, take, drop, Bool, true, false, cond, not, nat_lt, Result, Ok, Err, refl, sym, ap, arith, ◌<◌, get_or, if◌then◌else◌, append_assoc, length-append, ◌⊎◌, inl, inr, subst}
use Rattle.std.proofs.lemmas.List.{take-append-drop, drop-drop, length-take, drop_at}
use Rattle.std.proofs.lemmas.Bool.Decides.{nat_tests}
use borrow.Author.Tests.{ltb-false}
use Rattle.byteorder.specs.Endian.{little_number, little_bytes}
use Rattle.object65.specs.declared.fault.ObjectError.{ObjectError}
use Rattle.object65.specs.declared.fault.ObjectError.TheVariants.{CutShort, UnknownRecord, BadSize, OutOfOrder, FailedBefore}
use Rattle.object65.specs.Record.{IsBytes, ◌>>=◌, RawRecord, is_record_kind}
use Rattle.object65.specs.Reading.{record_header, body_or_cut_short, record_with_end, bytes_between, record_at, file_limit, records_at}
use Rattle.object65.specs.Spelling.{record_bytes, body_limit}
use Rattle.object65.proofs.Numbers.{two_bytes}
use Rattle.std.specs.List.{flat_map, AllByRecursion}
use Rattle.object65.specs.declared.record.Item.{Item}
use Rattle.object65.specs.Items.{State}
use Rattle.object65.specs.Scanning.{Outline, scan_step, state_after_record, state_after_records}

-- ---- A record between an offset and a limit, and its bytes there.

pub passes : {A : Type 0} (b : Bool) (f : ObjectError) (r : Result A ObjectError) (y : A) → cond b (Err f) r ≡ Ok y → (b ≡ false) × (r ≡ Ok y)
passes true f r y e = cc
passes false f r y e = (refl, e)

pub bound : {A B : Type 0} (r : Result A ObjectError) (f : A → Result B ObjectError) (y : B) → (r >>= f) ≡ Ok y → (x : A) × (r ≡ Ok x) × (f x ≡ Ok y)
bound x f y e = grind (arith, common_steps)

take_none : (n : ℕ) → take n (let none : List ℕ = [] in none) ≡ []
take_none zero = refl
take_none (suc n) = refl

drop_taken : (n k : ℕ) (xs : List ℕ) → drop n (take k xs) ≡ take (k - n) (drop n xs)
drop_taken zero k xs = let same : k - zero ≡ k = omega arith in rw same refl
drop_taken (suc n) zero xs = let none : zero - suc n ≡ zero = omega arith in rw none refl
drop_taken (suc n) (suc k) [] = sym (take_none (suc k - suc n))
drop_taken (suc n) (suc k) (x ∷ xs) = let less : suc k - suc n ≡ k - n = omega arith in rw less (drop_taken n k xs)

-- the bytes from a later offset up to the limit
pub room_on : (bytes : List ℕ) (at n limit : ℕ) → bytes_between bytes (at + n) limit ≡ drop n (bytes_between bytes at limit)
room_on bytes at n limit =
    let less : limit - (at + n) ≡ limit - at - n = omega arith in
    rw (less, ← drop-drop n at bytes) (sym (drop_taken n (limit - at) (drop at bytes)))

front_takes : (v : ℕ) (xs : List ℕ) (f : ℕ × ℕ) → IsBytes xs → record_header v (take 3 xs) ≡ Ok f → (xs ≡ f.0 ∷ (little_bytes 2 f.1 ++ drop 3 xs)) × (f.1 ≤ body_limit)
front_takes v [] f bytes e = cc
front_takes v (a ∷ []) f bytes e = cc
front_takes v (a ∷ b ∷ []) f bytes e = cc
front_takes v (a ∷ b ∷ c ∷ xs) f bytes e =
    let k = passes (not (is_record_kind v a)) UnknownRecord _ _ e in
    let l = passes (nat_lt 4096 (little_number 2 (b ∷ c ∷ []))) BadSize _ _ k.1 in
    let is : (a, little_number 2 (b ∷ c ∷ [])) ≡ f = cc (l.1) in (
      rw (← is) (ap (λ ys. a ∷ (ys ++ xs)) (sym (two_bytes b c (bytes 1) (bytes 2)))),
      rw (← is) (ltb-false _ _ l.0),
    )

taken_all : (n : ℕ) (xs : List ℕ) → nat_lt (length (take n xs)) n ≡ false → length (take n xs) ≡ n
taken_all n xs h = omega (arith, ltb-false _ _ h, length-take n xs)

-- the bytes of a record that was read, and the rest
pub record TakesRecord (bytes : List ℕ) (at limit : ℕ) (x : RawRecord × ℕ) : Type 0 where
  pub spelled : bytes_between bytes at limit ≡ record_bytes x.0 ++ bytes_between bytes x.1 limit
  pub short : length x.0.body ≤ body_limit

joined : (v : ℕ) (bytes : List ℕ) (at limit : ℕ) (f : ℕ × ℕ) (body : List ℕ) (x : RawRecord × ℕ) → IsBytes (bytes_between bytes at limit) → record_header v (take 3 (bytes_between bytes at limit)) ≡ Ok f → body_or_cut_short f.1 (take f.1 (bytes_between bytes (at + 3) limit)) ≡ Ok body → record_with_end at f.0 f.1 body ≡ Ok x → TakesRecord bytes at limit x
joined v bytes at limit f body x is e g h =
    let front = front_takes v (bytes_between bytes at limit) f is e in
    let w = passes (nat_lt (length (take f.1 (bytes_between bytes (at + 3) limit))) f.1) CutShort _ _ g in
    let body_is : body ≡ take f.1 (bytes_between bytes (at + 3) limit) = sym (cc (w.1)) in
    let len : length body ≡ f.1 = ap length body_is ∙ taken_all f.1 (bytes_between bytes (at + 3) limit) w.0 in
    let last = passes (nat_lt file_limit (at + 3 + f.1)) BadSize _ _ h in
    let x_is : ◌≡◌ {A = RawRecord × ℕ} (record { kind = f.0; body = body }, at + 3 + f.1) x = cc (last.1) in
    let state_after_record : drop 3 (bytes_between bytes at limit) ≡ body ++ bytes_between bytes (at + 3 + f.1) limit =
    sym (room_on bytes at 3 limit) ∙ sym (take-append-drop f.1 (bytes_between bytes (at + 3) limit)) ∙ rw (← body_is, ← room_on bytes (at + 3) f.1 limit) refl in
    rw (← x_is) (record {
      spelled = front.0 ∙ ap (λ ys. f.0 ∷ (little_bytes 2 f.1 ++ ys)) state_after_record ∙ ap (λ n. f.0 ∷ (little_bytes 2 n ++ (body ++ bytes_between bytes (at + 3 + f.1) limit))) (sym len);
      short = omega (arith, len, front.1);
    })

pub record_takes : (v : ℕ) (bytes : List ℕ) (at limit : ℕ) (x : RawRecord × ℕ) → IsBytes (bytes_between bytes at limit) → record_at v at limit bytes ≡ Ok x → TakesRecord bytes at limit x
unfolding record_at
record_takes v bytes at limit x is e =
    let f = bound (record_header v (take 3 (bytes_between bytes at limit))) _ _ e in
    let b = bound (body_or_cut_short f.0.1 (take f.0.1 (bytes_between bytes (at + 3) limit))) _ _ f.2 in
    joined v bytes at limit f.0 b.0 x is f.1 b.1 b.2

front_again : (v kind n : ℕ) (ys : List ℕ) → is_record_kind v kind ≡ true → n ≤ body_limit → record_header v (take 3 (kind ∷ (little_bytes 2 n ++ ys))) ≡ Ok (kind, n)
front_again v kind n ys known short = grind (arith, common_steps)

whole_again : (body rest : List ℕ) → body_or_cut_short (length body) (take (length body) (body ++ rest)) ≡ Ok body
whole_again body rest = grind (arith, common_steps)

-- an encoded record at an offset is read, and the rest remains
pub record_again : (v : ℕ) (bytes : List ℕ) (at limit : ℕ) (e : RawRecord) (rest : List ℕ) → bytes_between bytes at limit ≡ record_bytes e ++ rest → is_record_kind v e.kind ≡ true → length e.body ≤ body_limit → at + 3 + length e.body ≤ file_limit → (record_at v at limit bytes ≡ Ok (e, at + 3 + length e.body)) × (bytes_between bytes (at + 3 + length e.body) limit ≡ rest)
unfolding record_at
record_again v bytes at limit e rest is known short within = grind (arith, common_steps, front_again, room_on, whole_again, nat_tests, drop_at)

-- ---- The records in order up to the END record.

-- a record that was read
pub record IsReadEntry (e : RawRecord) : Type 0 where
  pub short : length e.body ≤ body_limit
  pub bytes : IsBytes e.body

pub record Trail (bytes : List ℕ) (limit at end : ℕ) (s t : State) (es : List RawRecord) : Type 0 where
  pub taken : state_after_records s es ≡ Ok t
  pub ended : t.ended ≡ true
  pub spelled : bytes_between bytes at limit ≡ flat_map record_bytes es ++ bytes_between bytes end limit
  pub each : AllByRecursion IsReadEntry es

bytes_front : (xs ys : List ℕ) → IsBytes (xs ++ ys) → IsBytes xs
bytes_front [] ys is i = omega arith
bytes_front (x ∷ xs) ys is zero = is zero
bytes_front (x ∷ xs) ys is (suc i) = bytes_front xs ys (λ j. is (suc j)) i

bytes_back : (xs ys : List ℕ) → IsBytes (xs ++ ys) → IsBytes ys
bytes_back [] ys is = is
bytes_back (x ∷ xs) ys is = bytes_back xs ys (λ j. is (suc j))

either : (b : Bool) → (b ≡ true) ⊎ (b ≡ false)
either true = inl refl
either false = inr refl

chosen : {A : Type 0} (b : Bool) (x y : A) → b ≡ true → (if b then x else y) ≡ x
chosen true x y e = refl
chosen false x y e = cc

other : {A : Type 0} (b : Bool) (x y : A) → b ≡ false → (if b then x else y) ≡ y
other true x y e = cc
other false x y e = refl

read_entry : (bytes : List ℕ) (limit at : ℕ) (x : RawRecord × ℕ) → IsBytes (bytes_between bytes at limit) → TakesRecord bytes at limit x → IsReadEntry x.0
read_entry bytes limit at x is read =
    let inside : IsBytes (record_bytes x.0 ++ bytes_between bytes x.1 limit) = λ i. subst (λ (ys : List ℕ). get_or ys i 0 < 256) read.spelled (is i) in
    record {
      short = read.short;
      bytes = bytes_back (x.0.kind ∷ little_bytes 2 (length x.0.body)) x.0.body (bytes_front (record_bytes x.0) (bytes_between bytes x.1 limit) inside);
    }

bytes_on : (bytes : List ℕ) (limit at : ℕ) (x : RawRecord × ℕ) → IsBytes (bytes_between bytes at limit) → TakesRecord bytes at limit x → IsBytes (bytes_between bytes x.1 limit)
bytes_on bytes limit at x is read = bytes_back (record_bytes x.0) (bytes_between bytes x.1 limit) (λ i. subst (λ (ys : List ℕ). get_or ys i 0 < 256) read.spelled (is i))

last_one : (bytes : List ℕ) (limit at end : ℕ) (s t u : State) (x : RawRecord × ℕ) → IsReadEntry x.0 → TakesRecord bytes at limit x → state_after_record s x.0 ≡ Ok u → u.ended ≡ true → u ≡ t → x.1 ≡ end → Trail bytes limit at end s t (x.0 ∷ [])
last_one bytes limit at end s t u x one read h over t_is end_is = grind (arith, common_steps)

one_more : (bytes : List ℕ) (limit at end : ℕ) (s t u : State) (x : RawRecord × ℕ) (es : List RawRecord) → IsReadEntry x.0 → TakesRecord bytes at limit x → state_after_record s x.0 ≡ Ok u → Trail bytes limit x.1 end u t es → Trail bytes limit at end s t (x.0 ∷ es)
one_more bytes limit at end s t u x es one read h rest = grind (arith, common_steps)

-- records that were read up to the END record are a prefix of the bytes
pub trail : (left : ℕ) (bytes : List ℕ) (limit at : ℕ) (s t : State) (end : ℕ) → IsBytes (bytes_between bytes at limit) → records_at left s at limit bytes ≡ Ok (t, end) → (es : List RawRecord) × Trail bytes limit at end s t es
trail zero bytes limit at s t end is e = cc
trail (suc left) bytes limit at s t end is e =
    let r = bound (record_at s.version at limit bytes) _ _ e in
    let u = bound (state_after_record s r.0.0) _ _ r.2 in
    let read = record_takes s.version bytes at limit r.0 is r.1 in
    let one = read_entry bytes limit at r.0 is read in
    elim (either u.0.ended) [
      | inl over ↦
          let same : ◌≡◌ {A = Result (State × ℕ) ObjectError} (Ok (u.0, r.0.1)) (Ok (t, end)) = sym (chosen u.0.ended _ _ over) ∙ u.2 in
          let last : ◌≡◌ {A = State × ℕ} (u.0, r.0.1) (t, end) = cc in
          (r.0.0 ∷ [], last_one bytes limit at end s t u.0 r.0 one read u.1 over (ap (λ p. p.0) last) (ap (λ p. p.1) last))
      | inr not_yet ↦
          let rest = trail left bytes limit r.0.1 u.0 t end (bytes_on bytes limit at r.0 is read) (sym (other u.0.ended _ _ not_yet) ∙ u.2) in
          (r.0.0 ∷ rest.0, one_more bytes limit at end s t u.0 r.0 rest.0 one read u.1 rest.1)
    ]

-- a record is accepted only before an END record
pub going : (o : Outline) (e : RawRecord) (x : Outline × Item) → scan_step o e ≡ Ok x → o.ended ≡ false
unfolding scan_step
going o e x h = let a = passes o.failed FailedBefore _ _ h in (passes o.ended OutOfOrder _ _ a.1).0

pub ended_stops : (s : State) (e : RawRecord) (u : State) → s.ended ≡ true → state_after_record s e ≡ Ok u → ⊥
unfolding state_after_record
ended_stops s e u over h = grind (arith, common_steps, bound, going)

-- a record doesn't change the version
pub version_kept : (s u : State) (e : RawRecord) → state_after_record s e ≡ Ok u → u.version ≡ s.version
unfolding state_after_record
version_kept s u e h = grind (arith, common_steps)

pub versions_kept : (es : List RawRecord) (s t : State) → state_after_records s es ≡ Ok t → t.version ≡ s.version
versions_kept [] s t h = let here : s ≡ t = cc in ap (λ (u : State). u.version) (sym here)
versions_kept (e ∷ es) s t h = let u = bound (state_after_record s e) _ _ h in versions_kept es u.0 t u.2 ∙ version_kept s u.0 e u.1

-- accepted records whose encoding is a prefix of the bytes are read
pub trail_again : (v : ℕ) (es : List RawRecord) (left : ℕ) (bytes : List ℕ) (limit at : ℕ) (s t : State) (rest : List ℕ) → s.version ≡ v → length es ≤ left → state_after_records s es ≡ Ok t → s.ended ≡ false → t.ended ≡ true → bytes_between bytes at limit ≡ flat_map record_bytes es ++ rest → AllByRecursion (λ e. (is_record_kind v e.kind ≡ true) × (length e.body ≤ body_limit)) es → at + length (flat_map record_bytes es) ≤ file_limit → (end : ℕ) × (records_at left s at limit bytes ≡ Ok (t, end)) × (bytes_between bytes end limit ≡ rest)
trail_again v [] left bytes limit at s t rest same_version long taken running ended spelled each within =
    let same : s ≡ t = cc in
    cc (ap (λ (v : State). v.ended) same)
trail_again v (e ∷ es) zero bytes limit at s t rest same_version long taken running ended spelled each within = absurd (omega arith)
trail_again v (e ∷ es) (suc left) bytes limit at s t rest same_version long taken running ended spelled each within =
    let u = bound (state_after_record s e) _ _ taken in
    let n = length (flat_map record_bytes es) in
    let whole_len : length (flat_map record_bytes (e ∷ es)) ≡ 3 + length e.body + n = omega (arith, length-append (record_bytes e) (flat_map record_bytes es)) in
    let inside : bytes_between bytes at limit ≡ record_bytes e ++ (flat_map record_bytes es ++ rest) = spelled ∙ append_assoc (record_bytes e) (flat_map record_bytes es) rest in
    let again = record_again v bytes at limit e (flat_map record_bytes es ++ rest) inside each.0.0 each.0.1 (omega arith) in
    let read : record_at s.version at limit bytes ≡ Ok (e, at + 3 + length e.body) = ap (λ k. record_at k at limit bytes) same_version ∙ again.0 in
    elim (either u.0.ended) [
      | inl over ↦
          let last = no_more es u.0 t over u.2 in (
            at + 3 + length e.body,
            ap (λ r. r >>= (λ x. state_after_record s x.0 >>= (λ v. if v.ended then Ok (v, x.1) else records_at left v x.1 limit bytes))) read
                ∙ ap (λ r. r >>= (λ v. if v.ended then Ok (v, at + 3 + length e.body) else records_at left v (at + 3 + length e.body) limit bytes)) u.1
                ∙ chosen u.0.ended _ _ over
                ∙ ap (λ v. Ok (v, at + 3 + length e.body)) last.1,
            again.1 ∙ ap (λ xs. flat_map record_bytes xs ++ rest) last.0,
          )
      | inr not_yet ↦
          let more = trail_again v es left bytes limit (at + 3 + length e.body) u.0 t rest (version_kept s u.0 e u.1 ∙ same_version) (omega arith) u.2 not_yet ended again.1 each.1 (omega arith) in (
            more.0,
            ap (λ r. r >>= (λ x. state_after_record s x.0 >>= (λ v. if v.ended then Ok (v, x.1) else records_at left v x.1 limit bytes))) read
                ∙ ap (λ r. r >>= (λ v. if v.ended then Ok (v, at + 3 + length e.body) else records_at left v (at + 3 + length e.body) limit bytes)) u.1
                ∙ other u.0.ended _ _ not_yet
                ∙ more.1,
            more.2,
          )
    ]
  where
    no_more : (es : List RawRecord) (u t : State) → u.ended ≡ true → state_after_records u es ≡ Ok t → (es ≡ []) × (u ≡ t)
    no_more [] u t over h = (refl, cc)
    no_more (e ∷ es) u t over h = let v = bound (state_after_record u e) _ _ h in absurd (ended_stops u e v.0 over v.1)
