-- A file longer than the file size limit contains no object, and its first bytes determine that.
use Rattle.std.proofs.Common.{◌≡◌, ◌∙◌, ℕ, zero, suc, ◌+◌, ◌-◌, ◌<◌, ◌≤◌, Bool, true, false, nat_lt, List, length, take, drop, Result, Ok, Err, refl, sym, ap, arith, min, if◌then◌else◌}
use Rattle.std.proofs.lemmas.Bool.Decides.{nat_tests}
use Rattle.std.proofs.lemmas.List.{take_all, length-take, length-drop}
use Rattle.object65.specs.declared.fault.ObjectFault.{ObjectFault}
use Rattle.object65.specs.declared.fault.ObjectFault.TheVariants.{BadSize, BytesAfterEnd}
use Rattle.object65.specs.declared.object.Object.{Object}
use Rattle.base65.specs.Outcome.{◌>>=◌}
use Rattle.object65.specs.Reading.{end_at, file_limit, record_header, head_at, record_at, bytes_between, body_or_cut_short, object_at, records_at}
use Rattle.object65.specs.Record.{RawRecord}
use Rattle.object65.specs.Scanning.{State, state_after_record, object_of_state, start}
use Rattle.object65.proofs.RecordSequences.{bound, passes}
use Rattle.library65.specs.declared.fault.LibraryFault.{LibraryFault}
use Rattle.library65.specs.declared.fault.LibraryFault.TheVariants.{BadMemberName, NotAnObject}
use Rattle.library65.specs.Libraries.{as_member, member_contents, contents_from, contents_in, object_in, with_new_member, with_member}
use Rattle.library65.specs.Spelling.{is_member_name, Member}

-- a record ends within the file size limit
record_ends : (v : ℕ) (bytes : List ℕ) (at limit : ℕ) (x : RawRecord × ℕ) → record_at v at limit bytes ≡ Ok x → x.1 ≤ file_limit
unfolding record_at
record_ends v bytes at limit x e =
    let f = bound (record_header v (take 3 (bytes_between bytes at limit))) _ _ e in
    let b = bound (body_or_cut_short f.0.1 (take f.0.1 (bytes_between bytes (at + 3) limit))) _ _ f.2 in
    let last = passes (nat_lt file_limit (at + 3 + f.0.1)) BadSize _ _ b.2 in
    let x_is : ◌≡◌ {A = RawRecord × ℕ} (record { kind = f.0.0; body = b.0 }, at + 3 + f.0.1) x = cc (last.1) in
    let end : at + 3 + f.0.1 ≡ x.1 = ap (λ p. p.1) x_is in
    let within : nat_lt file_limit (at + 3 + f.0.1) ≡ false = last.0 in
    let least : at + 3 + f.0.1 ≤ file_limit = grind (arith, nat_tests) in
    omega (arith, end, least)

-- the records up to the END record end within the limit
records_end : (left : ℕ) (s : State) (at limit : ℕ) (bytes : List ℕ) (x : State × ℕ) → records_at left s at limit bytes ≡ Ok x → x.1 ≤ file_limit
records_end zero s at limit bytes x e = absurd cc
records_end (suc left) s at limit bytes x e =
    let r = bound (record_at s.version at limit bytes) _ _ e in
    let u = bound (state_after_record s r.0.0) _ _ r.2 in
    go u.0.ended r.0 u.0 (record_ends s.version bytes at limit r.0 r.1) (λ t next h. records_end left t next limit bytes x h) u.2
  where
    go : (b : Bool) (r : RawRecord × ℕ) (t : State) → r.1 ≤ file_limit → ((t : State) (next : ℕ) → records_at left t next limit bytes ≡ Ok x → x.1 ≤ file_limit) → (if b then Ok (t, r.1) else records_at left t r.1 limit bytes) ≡ Ok x → x.1 ≤ file_limit
    go true r t h further e = let same : ◌≡◌ {A = State × ℕ} (t, r.1) x = cc in let end : r.1 ≡ x.1 = ap (λ p. p.1) same in omega (arith, h, end)
    go false r t h further e = further t r.1 e

-- if bytes follow the object's end, the file is rejected
more_after : (end : ℕ) (bytes : List ℕ) → end < length bytes → end_at end (length bytes) bytes ≡ Err BytesAfterEnd
more_after end bytes h =
    let left : length (take 1 (bytes_between bytes end (length bytes))) ≡ min 1 (min (length bytes - end) (length bytes - end)) =
    length-take 1 (bytes_between bytes end (length bytes)) ∙ ap (min 1) (length-take (length bytes - end) (drop end bytes) ∙ ap (min (length bytes - end)) (length-drop end bytes)) in
    let some : nat_lt 0 (length (take 1 (bytes_between bytes end (length bytes)))) ≡ true = grind (arith, nat_tests) in
    rw some refl

pub long_file : (bytes : List ℕ) → file_limit < length bytes → object_in bytes ≡ Err NotAnObject
unfolding object_at
long_file bytes h = from_head (head_at 0 (length bytes) bytes)
  where
    n : ℕ
    n = length bytes

    from_end : (x : State × ℕ) → x.1 ≤ file_limit → as_member (end_at x.1 n bytes >>= (λ u. object_of_state x.0)) ≡ Err NotAnObject
    from_end x within = let more : end_at x.1 n bytes ≡ Err BytesAfterEnd = more_after x.1 bytes (omega (arith, h, within)) in rw more refl

    from_records : (r : Result (State × ℕ) ObjectFault) → ((x : State × ℕ) → r ≡ Ok x → x.1 ≤ file_limit) → as_member (r >>= (λ x. end_at x.1 n bytes >>= (λ u. object_of_state x.0))) ≡ Err NotAnObject
    from_records (Err e) ends = refl
    from_records (Ok x) ends = from_end x (ends x refl)

    from_head : (r : Result (ℕ × ℕ) ObjectFault) → as_member (r >>= (λ first. records_at n (start first.0) first.1 n bytes >>= (λ x. end_at x.1 n bytes >>= (λ u. object_of_state x.0)))) ≡ Err NotAnObject
    from_head (Err e) = refl
    from_head (Ok first) = from_records (records_at n (start first.0) first.1 n bytes) (λ x e. records_end n (start first.0) first.1 n bytes x e)

-- the first `file_limit + 1` bytes of a file determine its effect on the members
pub told_by_front : (ms : List Member) (name bytes : List ℕ) → with_new_member ms name (take (file_limit + 1) bytes) ≡ with_new_member ms name bytes
unfolding with_new_member member_contents contents_in
told_by_front ms name bytes = go (nat_lt file_limit (length bytes)) refl
  where
    front : List ℕ
    front = take (file_limit + 1) bytes

    go : (b : Bool) → nat_lt file_limit (length bytes) ≡ b → with_new_member ms name front ≡ with_new_member ms name bytes
    go false e =
        let short : length bytes ≤ file_limit = grind (arith, nat_tests) in
        ap (with_new_member ms name) (take_all (file_limit + 1) bytes (omega (arith, short)))
    go true e =
        let long : file_limit < length bytes = grind (arith, nat_tests) in
        let len : length front ≡ min (file_limit + 1) (length bytes) = length-take (file_limit + 1) bytes in
        let still : file_limit < length front = omega (arith, long, len) in
        step (is_member_name name) (object_in front) (object_in bytes) (long_file front still) (long_file bytes long)
      where
        by : Bool → Result Object LibraryFault → List ℕ → Result (List Member) LibraryFault
        by good r b = (if good then (r >>= (λ o. Ok (contents_from o))) else Err BadMemberName) >>= (λ c. Ok (with_member ms name b))

        neither : (good : Bool) → by good (Err NotAnObject) front ≡ by good (Err NotAnObject) bytes
        neither true = refl
        neither false = refl

        step : (good : Bool) (x y : Result Object LibraryFault) → x ≡ Err NotAnObject → y ≡ Err NotAnObject → by good x front ≡ by good y bytes
        step good x y p q = ap (λ r. by good r front) p ∙ neither good ∙ ap (λ r. by good r bytes) (sym q)
