-- The number of bytes that each stream accepts and the last output written determine all effects of a run.
use Rattle.std.proofs.Common.{◌≡◌, ◌∙◌, ℕ, ◌<◌, ◌≤◌, inl, inr, min, Bool, true, false, not, ◌&&◌, List, ◌++◌, length, take, slice_get, Option, Some, None, refl, sym, ap, subst, arith}
use Rattle.std.specs.Prelude.{◌==◌, if◌then◌else◌}
use Rattle.std.specs.FinMap as map
use Rattle.std.specs.Io.KnownBytes.{Keeps}
use Rattle.std.proofs.lemmas.Bool.Decides.{nat_tests}
use Rattle.std.proofs.lemmas.List.{take_all, take_min}
use Rattle.base65.specs.Store.{Files, FailedOn, RelatesFiles}
use Rattle.base65.specs.declared.output.OutputFile.{OutputFile}
use Rattle.output65.specs.declared.outcome.Outcome.{Outcome}
use Rattle.output65.specs.declared.outcome.Status.{Status}
use Rattle.output65.specs.declared.outcome.Status.TheVariants.{Failure}
use Rattle.output65.specs.Laws.{HasInitialContents, IsWrittenPart, WriteNamingIsUnique, CommitEffectsAreExact, PrintEffectsAreExact, MessageEffectsAreExact, PrintBothEffectsAreExact, MemoryFailureEffectsAreExact, WriteFailureEffectsAreExact, CommitEffectsOnWritersAreExact, MessageEffectsOnWritersAreExact}
use Rattle.output65.specs.RunEffects.{IsPartlyWritten, CommitsOutcome, PrintsText, PrintsMessage, PrintsBothTexts, PrintsSecondText, FilesAfterRun, WritesPrefix, Streams, with_outputs, streams, has_accepted_both}
use Rattle.output65.specs.CountedEffects.{streams_after, streams_after_message, files_with_part}
use Rattle.output65.specs.WriteFailures.{file_error_line}

-- ---- One stream.

-- the stream accepted the first `count` bytes of the text, and `whole` states whether these are all
record Took (old text : List ℕ) (new : Option (List ℕ)) (whole : Bool) : Type 0 where
  count : ℕ
  within : count ≤ length text
  now : new ≡ Some (old ++ take count text)
  all : whole ≡ (count == length text)

same_count : (n : ℕ) → true ≡ (n == n)
same_count n = grind (arith, nat_tests)

other_count : (k n : ℕ) → k < n → false ≡ (k == n)
other_count k n less = grind (arith, nat_tests)

took : (old text : List ℕ) (new : Option (List ℕ)) (whole : Bool) → PrintsText (Some old) new text whole → Took old text new whole
took old text None whole p = absurd p
took old text (Some n) true p = record {
  count = length text;
  within = omega arith;
  now = ap Some (p ∙ ap (λ (xs : List ℕ). old ++ xs) (sym (take_all (length text) text (omega arith))));
  all = same_count (length text);
}
took old text (Some n) false p = record { count = p.0; within = omega (arith, p.1); now = ap Some p.2; all = other_count p.0 (length text) p.1 }

prints_true : (old text : List ℕ) (k : ℕ) → k ≤ length text → (k == length text) ≡ true → PrintsText (Some old) (Some (old ++ take k text)) text true
prints_true old text k le all = let whole : length text ≤ k = grind (arith, nat_tests) in ap (λ (xs : List ℕ). old ++ xs) (take_all k text whole)

prints_false : (old text : List ℕ) (k : ℕ) → k ≤ length text → (k == length text) ≡ false → PrintsText (Some old) (Some (old ++ take k text)) text false
prints_false old text k le few = let less : k < length text = grind (arith, nat_tests) in (k, less, refl)

prints : (old text : List ℕ) (k : ℕ) (whole : Bool) → k ≤ length text → whole ≡ (k == length text) → PrintsText (Some old) (Some (old ++ take k text)) text whole
prints old text k true le is = prints_true old text k le (sym is)
prints old text k false le is = prints_false old text k le (sym is)

pub prints_exactly : PrintEffectsAreExact
prints_exactly old text new whole = (λ p. let t = took old text new whole p in (t.count, t.within, t.now, t.all), λ q. subst (λ (n : Option (List ℕ)). PrintsText (Some old) n text whole) (sym q.2) (prints old text q.0 whole q.1 q.3))

-- ---- Two streams.

same_streams : (io : Streams) (a b : Option (List ℕ)) (r : Bool) (c d : Option (List ℕ)) (s : Bool) → io.out_old ≡ a → io.out_new ≡ b → io.out_failed ≡ r → io.err_old ≡ c → io.err_new ≡ d → io.err_failed ≡ s → io ≡ streams a b r c d s
same_streams io a b r c d s e f g h i j = rw (← e, ← f, ← g, ← h, ← i, ← j) refl

turned : (x y : Bool) → not x ≡ y → x ≡ not y
turned true true e = absurd cc
turned true false e = refl
turned false true e = refl
turned false false e = absurd cc

twice : (x : Bool) → not (not x) ≡ x
twice true = refl
twice false = refl

kept : (b : List ℕ) (new : Option (List ℕ)) → Keeps (Some b) new → new ≡ Some b
kept b None k = absurd k
kept b (Some c) k = ap Some k

-- the number of bytes that each stream accepted
record Said (io : Streams) (a b out err : List ℕ) : Type 0 where
  first : ℕ
  second : ℕ
  first_within : first ≤ length out
  second_within : second ≤ length err
  now : io ≡ streams_after a b out err first second

said_whole : (a b out err : List ℕ) (i j : ℕ) → (i == length out) ≡ true → streams_after a b out err i j ≡ streams (Some a) (Some (a ++ out)) false (Some b) (Some (b ++ take j err)) (not (j == length err))
said_whole a b out err i j e = rw e refl

said_part : (a b out err : List ℕ) (i j : ℕ) → (i == length out) ≡ false → streams_after a b out err i j ≡ streams (Some a) (Some (a ++ take i out)) true (Some b) (Some b) false
said_part a b out err i j e = rw e refl

module _ (io : Streams) (a b out err : List ℕ) (held : HasInitialContents io a b) where
  first_took : PrintsBothTexts io out err → Took a out io.out_new (not io.out_failed)
  first_took s = took a out io.out_new (not io.out_failed) (subst (λ (x : Option (List ℕ)). PrintsText x io.out_new out (not io.out_failed)) held.0 s.0)

  says_to : PrintsBothTexts io out err → Said io a b out err
  says_to s = go io.out_failed refl s.1
    where
      t : Took a out io.out_new (not io.out_failed)
      t = first_took s

      go : (r : Bool) → io.out_failed ≡ r → PrintsSecondText r io err → Said io a b out err
      go false is next =
          let all : (t.count == length out) ≡ true = sym t.all ∙ ap not is in
          let whole : length out ≤ t.count = grind (arith, nat_tests) in
          let u = took b err io.err_new (not io.err_failed) (subst (λ (x : Option (List ℕ)). PrintsText x io.err_new err (not io.err_failed)) held.1 next) in
          record {
            first = t.count;
            second = u.count;
            first_within = t.within;
            second_within = u.within;
            now = same_streams io _ _ _ _ _ _ held.0 (t.now ∙ ap (λ (xs : List ℕ). Some (a ++ xs)) (take_all t.count out whole)) is held.1 u.now (turned io.err_failed _ u.all) ∙ sym (said_whole a b out err t.count u.count all);
          }
      go true is next =
          let few : (t.count == length out) ≡ false = sym t.all ∙ ap not is in
          record {
            first = t.count;
            second = 0;
            first_within = t.within;
            second_within = omega arith;
            now = same_streams io _ _ _ _ _ _ held.0 t.now is held.1 (kept b io.err_new (subst (λ (x : Option (List ℕ)). Keeps x io.err_new) held.1 next.0)) next.1 ∙ sym (said_part a b out err t.count 0 few);
          }

says_from : (a b out err : List ℕ) (i j : ℕ) → i ≤ length out → j ≤ length err → PrintsBothTexts (streams_after a b out err i j) out err
says_from a b out err i j le more = go (i == length out) refl
  where
    go : (r : Bool) → (i == length out) ≡ r → PrintsBothTexts (streams_after a b out err i j) out err
    go true e = subst (λ (x : Streams). PrintsBothTexts x out err) (sym (said_whole a b out err i j e)) (refl, prints b err j (not (not (j == length err))) more (twice (j == length err)))
    go false e = subst (λ (x : Streams). PrintsBothTexts x out err) (sym (said_part a b out err i j e)) (prints_false a out i le e, (refl, refl))

pub says_exactly : PrintBothEffectsAreExact
says_exactly io a b out err held = (
  λ s. let t = says_to io a b out err held s in (t.first, t.second, t.first_within, t.second_within, t.now),
  λ q. subst (λ (x : Streams). PrintsBothTexts x out err) (sym q.4) (says_from a b out err q.0 q.1 q.2 q.3),
)

-- ---- A run.

took_of : (a b out err : List ℕ) (i j : ℕ) → has_accepted_both (streams_after a b out err i j) ≡ ((i == length out) && (j == length err))
took_of a b out err i j = go (i == length out) refl
  where
    go : (r : Bool) → (i == length out) ≡ r → has_accepted_both (streams_after a b out err i j) ≡ ((i == length out) && (j == length err))
    go true e = ap has_accepted_both (said_whole a b out err i j e) ∙ twice (j == length err) ∙ sym (ap (λ (x : Bool). x && (j == length err)) e)
    go false e = ap has_accepted_both (said_part a b out err i j e) ∙ sym (ap (λ (x : Bool). x && (j == length err)) e)

module _ (o : Outcome) (old : Files) (new : Option Files) (status : Status) where
  settles_to : (r : Bool) → FilesAfterRun o old new status r → (new ≡ Some (if r then with_outputs o.outputs old else old)) × (status ≡ (if r then o.status else Failure))
  settles_to true s = s
  settles_to false s = s

  settles_from : (r : Bool) → (new ≡ Some (if r then with_outputs o.outputs old else old)) → (status ≡ (if r then o.status else Failure)) → FilesAfterRun o old new status r
  settles_from true s t = (s, t)
  settles_from false s t = (s, t)

pub performs_exactly : CommitEffectsAreExact
performs_exactly o old new io status a b held = (
  λ p.
      let t = says_to io a b o.out o.err held p.printed in
      let r : has_accepted_both io ≡ ((t.first == length o.out) && (t.second == length o.err)) = ap has_accepted_both t.now ∙ took_of a b o.out o.err t.first t.second in
      let s = settles_to o old new status _ (subst (FilesAfterRun o old new status) r p.file_effects) in
      (t.first, t.second, t.first_within, t.second_within, t.now, s.0, s.1),
  λ q. record {
    printed = subst (λ (x : Streams). PrintsBothTexts x o.out o.err) (sym q.4) (says_from a b o.out o.err q.0 q.1 q.2 q.3);
    file_effects = subst (FilesAfterRun o old new status) (sym (ap has_accepted_both q.4 ∙ took_of a b o.out o.err q.0 q.1)) (settles_from o old new status _ q.5 q.6);
  },
)

-- ---- A message after both texts.

-- the number of bytes of the message that standard error accepted
record Following (io : Streams) (a b out err fault : List ℕ) : Type 0 where
  count : ℕ
  within : count ≤ length fault
  now : io ≡ streams_after_message a b out err fault count

module _ (io : Streams) (a b out err fault : List ℕ) (held : HasInitialContents io a b) where
  after_to : PrintsMessage io out err fault → Following io a b out err fault
  after_to s =
      let first : PrintsText (Some a) io.out_new out true = subst (λ (r : Bool). PrintsText (Some a) io.out_new out (not r)) s.accepted (subst (λ (x : Option (List ℕ)). PrintsText x io.out_new out (not io.out_failed)) held.0 s.printed.0) in
      let next : PrintsSecondText false (streams io.out_old io.out_new io.out_failed io.err_old s.err_mid false) err = subst (λ (r : Bool). PrintsSecondText r (streams io.out_old io.out_new io.out_failed io.err_old s.err_mid false) err) s.accepted s.printed.1 in
      let second : PrintsText (Some b) s.err_mid err true = subst (λ (x : Option (List ℕ)). PrintsText x s.err_mid err true) held.1 next in
      let t = whole a out io.out_new first in
      let u = whole b err s.err_mid second in
      let v = took (b ++ err) fault io.err_new (not io.err_failed) (subst (λ (x : Option (List ℕ)). PrintsText x io.err_new fault (not io.err_failed)) u s.following) in
      record { count = v.count; within = v.within; now = same_streams io _ _ _ _ _ _ held.0 t s.accepted held.1 v.now (turned io.err_failed _ v.all) }
    where
      whole : (old text : List ℕ) (new : Option (List ℕ)) → PrintsText (Some old) new text true → new ≡ Some (old ++ text)
      whole old text None p = absurd p
      whole old text (Some n) p = ap Some p

after_from : (a b out err fault : List ℕ) (k : ℕ) → k ≤ length fault → PrintsMessage (streams_after_message a b out err fault k) out err fault
after_from a b out err fault k le = record {
  err_mid = Some (b ++ err);
  printed = (refl, refl);
  accepted = refl;
  following = prints (b ++ err) fault k (not (not (k == length fault))) le (twice (k == length fault));
}

pub says_after_exactly : MessageEffectsAreExact
says_after_exactly io a b out err fault held = (
  λ s. let t = after_to io a b out err fault held s in (t.count, t.within, t.now),
  λ q. subst (λ (x : Streams). PrintsMessage x out err fault) (sym q.2) (after_from a b out err fault q.0 q.1),
)

-- ---- An output that is written in part, or not at all.

record Stopped (outputs : List OutputFile) (index : ℕ) (old : Files) (new : Option Files) : Type 0 where
  output : OutputFile
  there : slice_get outputs index ≡ Some output
  part : Option ℕ
  within : IsWrittenPart output part
  now : new ≡ Some (files_with_part outputs index output part old)

stopped : (outputs : List OutputFile) (index : ℕ) (old : Files) (new : Option Files) → RelatesFiles (WritesPrefix outputs index) (Some old) new → Stopped outputs index old new
stopped outputs index old None left = absurd left
stopped outputs index old (Some n) left = go left.2
  where
    go : IsPartlyWritten (with_outputs (take index outputs) old) left.0.name left.0.bytes n → Stopped outputs index old (Some n)
    go (inl same) = record { output = left.0; there = left.1; part = None; within = tt; now = ap Some same }
    go (inr some) = record {
      output = left.0;
      there = left.1;
      part = Some (min some.0 (length left.0.bytes));
      within = omega arith;
      now = ap Some (some.1 ∙ ap (map.insert (with_outputs (take index outputs) old) left.0.name) (sym (take_min some.0 left.0.bytes)));
    }

stops_at : (outputs : List OutputFile) (index : ℕ) (output : OutputFile) (part : Option ℕ) (old : Files) → slice_get outputs index ≡ Some output → WritesPrefix outputs index old (files_with_part outputs index output part old)
stops_at outputs index output None old there = (output, there, inl refl)
stops_at outputs index output (Some n) old there = (output, there, inr (n, refl))

left_at : (outputs : List OutputFile) (index : ℕ) (output : OutputFile) (part : Option ℕ) (old : Files) (new : Option Files) → slice_get outputs index ≡ Some output → new ≡ Some (files_with_part outputs index output part old) → RelatesFiles (WritesPrefix outputs index) (Some old) new
left_at outputs index output part old new there is = subst (λ (f : Option Files). RelatesFiles (WritesPrefix outputs index) (Some old) f) (sym is) (stops_at outputs index output part old there)

pub stops_short_exactly : MemoryFailureEffectsAreExact
stops_short_exactly o memory old new io status a b held = (
  λ s.
      let t = stopped o.outputs s.index old new s.file_effects in
      let u = after_to io a b o.out o.err memory held s.printed in
      (s.index, t.output, t.part, u.count, t.there, t.within, t.now, u.within, u.now, s.failed),
  λ q. record {
    printed = subst (λ (x : Streams). PrintsMessage x o.out o.err memory) (sym q.8) (after_from a b o.out o.err memory q.3 q.7);
    index = q.0;
    file_effects = left_at o.outputs q.0 q.1 q.2 old new q.4 q.6;
    failed = q.9;
  },
)

pub stops_writing_exactly : WriteFailureEffectsAreExact
stops_writing_exactly o old new last_failure io status a b held = (
  λ s.
      let t = stopped o.outputs s.index old new s.file_effects in
      let same : s.output ≡ t.output = let both : Some s.output ≡ Some t.output = sym s.at ∙ t.there in cc in
      let line = file_error_line t.output.name in
      let u = after_to io a b o.out o.err line held (subst (λ (x : OutputFile). PrintsMessage io o.out o.err (file_error_line x.name)) same s.printed) in
      (s.index, t.output, t.part, u.count, t.there, t.within, t.now, subst (λ (x : OutputFile). FailedOn last_failure x.name) same s.requested, u.within, u.now, s.failed),
  λ q. record {
    index = q.0;
    file_effects = left_at o.outputs q.0 q.1 q.2 old new q.4 q.6;
    output = q.1;
    at = q.4;
    requested = q.7;
    printed = subst (λ (x : Streams). PrintsMessage x o.out o.err (file_error_line q.1.name)) (sym q.9) (after_from a b o.out o.err (file_error_line q.1.name) q.3 q.8);
    failed = q.10;
  },
)

-- ---- Two writers.

pub writers_perform_exactly : CommitEffectsOnWritersAreExact
writers_perform_exactly o old new status a b out err = (
  λ w.
      let io = streams (Some a) out w.0 (Some b) err w.1 in
      let t = (performs_exactly o old new io status a b (refl, refl)).0 w.2 in
      (t.0, t.1, t.2, t.3, ap (λ (x : Streams). x.out_new) t.4, ap (λ (x : Streams). x.err_new) t.4, t.5, t.6),
  λ q.
      let io = streams_after a b o.out o.err q.0 q.1 in
      let p = (performs_exactly o old new io status a b (held_before a b o.out o.err q.0 q.1)).1 (q.0, q.1, q.2, q.3, refl, q.6, q.7) in
      let same : io ≡ streams (Some a) out io.out_failed (Some b) err io.err_failed = same_streams io _ _ _ _ _ _ (held_before a b o.out o.err q.0 q.1).0 (sym q.4) refl (held_before a b o.out o.err q.0 q.1).1 (sym q.5) refl in
      (io.out_failed, io.err_failed, subst (λ (x : Streams). CommitsOutcome o old new x status) same p),
)
  where
    held_before : (a b out err : List ℕ) (i j : ℕ) → HasInitialContents (streams_after a b out err i j) a b
    held_before a b out err i j = go (i == length out) refl
      where
        go : (r : Bool) → (i == length out) ≡ r → HasInitialContents (streams_after a b out err i j) a b
        go true e = subst (λ (x : Streams). HasInitialContents x a b) (sym (said_whole a b out err i j e)) (refl, refl)
        go false e = subst (λ (x : Streams). HasInitialContents x a b) (sym (said_part a b out err i j e)) (refl, refl)

pub writers_stop_exactly : MessageEffectsOnWritersAreExact
writers_stop_exactly out_text err_text fault a b out err = (
  λ w.
      let io = streams (Some a) out w.0 (Some b) err w.1 in
      let t = after_to io a b out_text err_text fault (refl, refl) w.2 in
      (t.count, t.within, ap (λ (x : Streams). x.out_new) t.now, ap (λ (x : Streams). x.err_new) t.now),
  λ q.
      let io = streams_after_message a b out_text err_text fault q.0 in
      let p = after_from a b out_text err_text fault q.0 q.1 in
      let same : io ≡ streams (Some a) out false (Some b) err io.err_failed = same_streams io _ _ _ _ _ _ refl (sym q.2) refl refl (sym q.3) refl in
      (false, io.err_failed, subst (λ (x : Streams). PrintsMessage x out_text err_text fault) same p),
)

pub one_naming : WriteNamingIsUnique
one_naming o old new c io status s = subst (λ (n : List ℕ). PrintsMessage io o.out o.err (file_error_line n)) (sym s.requested) s.printed
