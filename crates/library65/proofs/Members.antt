-- The objects in members' bytes, and their exports and imports.
use Rattle.std.proofs.lemmas.Grind.{common_steps}
use Rattle.std.proofs.Common.{arith, ◌≡◌, ◌∙◌, ◌<◌, ℕ, Bool, true, false, not, List, length, drop, take, get_or, Ok, Err, refl, sym, ap, []}
use Rattle.std.specs.Str.{bytes_eq}
use Rattle.base65.specs.Outcome.{RefinesErr, Unless}
use Rattle.object65.specs.declared.fault.ObjectFault.{ObjectFault}
use Rattle.object65.specs.Reading.{end_at, head_of, object_at, record_at, records_at}
use Rattle.object65.specs.declared.fault.ObjectFault.TheVariants as object
use Rattle.std.proofs.lemmas.Bool.Decides.{nat_tests}
use Rattle.library65.specs.Fault.{is_memory}
use Rattle.library65.specs.declared.fault.LibraryFault.{LibraryFault}
use Rattle.library65.specs.declared.fault.LibraryFault.TheVariants as library
use Rattle.library65.specs.declared.fault.LibraryFault.TheVariants.{BadMemberName}
use Rattle.library65.specs.Libraries.{are_same, member_contents, contents_from, contents_in}
use Rattle.library65.specs.Spelling.{is_member_name, HasValidSymbols}
use Rattle.object65.specs.declared.record.Item.{Item}
use Rattle.object65.specs.Record.{is_memory as is_object_memory, RawRecord as Record, is_version}
use Rattle.object65.specs.Items.{with_item}
use Rattle.object65.specs.Scanning.{Outline, outline_of, IsReached, State, state_after_record, object_from, start}
use Rattle.object65.proofs.ItemLimits.{reached_next, reached_parts, reached_start}
use Rattle.object65.proofs.Records.{Goes, begins, ends, goes_on, stops_reading, stops_taking}
use Rattle.library65.specs.declared.contents.Contents.{Contents}
use Rattle.library65.specs.Internal.Contents.{HasObjectContents}
use Rattle.library65.proofs.WrittenLibraries.{all_names}

-- ---- The objects in members' bytes.

-- if two names at the same index differ, so do the lists
pub differ : (names others : List (List ℕ)) (i : ℕ) (x y : List ℕ) → i < length names → i < length others → x ≡ get_or names i x → y ≡ get_or others i y → bytes_eq x y ≡ false → are_same (drop i names) (drop i others) ≡ false
differ names others i x y lt lt2 at at2 e = grind (arith, common_steps)

pub turned : (b : Bool) → not b ≡ true → b ≡ false
turned true e = cc
turned false e = refl

-- ---- A member's bytes never have the error `FileError`.

not_a_file : (name bytes : List ℕ) → member_contents name bytes ≡ Err library.FileError → ⊥
unfolding member_contents contents_in
not_a_file name bytes e = grind (arith, common_steps)

pub not_stored : (name bytes : List ℕ) (e : LibraryFault) → RefinesErr is_memory e (member_contents name bytes) → e ≡ library.FileError → ⊥
not_stored name bytes e refused is = not_a_file name bytes (rw is at refused)

-- ---- Bytes after an object.

following : (end : ℕ) (bytes : List ℕ) → end < length bytes → end_at end (length bytes) bytes ≡ Err object.BytesAfterEnd
following end bytes less = grind (arith, common_steps, nat_tests)

pub trailing : (name bytes : List ℕ) (version first end : ℕ) (c : Contents) → is_member_name name ≡ true → Ok (version, first) ≡ head_of 0 (take 5 bytes) → HasObjectContents bytes version first c end → end < length bytes → member_contents name bytes ≡ Err library.NotAnObject
unfolding member_contents contents_in object_at
trailing name bytes version first end c named head ends less = grind (arith, common_steps, following)

-- ---- Records are scanned in order for the exports and imports of their object.

unless : (b : Bool) {P Q : Type 0} → (P → Q) → Unless b P → Unless b Q
unless true h p = tt
unless false h p = h p

-- the records up to `next` were scanned, and the object in their state has these exports and imports
pub record IsTaken (v : ℕ) (bytes : List ℕ) (at next : ℕ) (scan : Outline) (c : Contents) : Type 0 where
  pub state : State
  pub goes : Goes v bytes (length bytes) at next state
  pub outline : scan ≡ outline_of state
  pub contents : c ≡ contents_from (object_from state)
  pub reached : IsReached state

pub nothing_taken : (v : ℕ) (bytes : List ℕ) (at : ℕ) → is_version v ≡ true → IsTaken v bytes at at (outline_of (start v)) (record { exports = []; imports = [] })
nothing_taken v bytes at known = record { state = start v; goes = begins v bytes (length bytes) at; outline = refl; contents = refl; reached = reached_start v known }

module _ (v : ℕ) (bytes : List ℕ) (at next : ℕ) (scan : Outline) (c : Contents) (was : IsTaken v bytes at next scan c) where
  pub reading_refused : (e : ObjectFault) → RefinesErr is_object_memory e (record_at v next (length bytes) bytes) → RefinesErr is_object_memory e (records_at (length bytes) (start v) at (length bytes) bytes)
  reading_refused e refused = unless (is_object_memory e) (stops_reading v bytes (length bytes) at next was.state e was.goes) refused

  pub taking_refused : (r : Record × ℕ) (e : ObjectFault) → record_at v next (length bytes) bytes ≡ Ok r → ((s : State) → scan ≡ outline_of s → RefinesErr is_object_memory e (state_after_record s r.0)) → RefinesErr is_object_memory e (records_at (length bytes) (start v) at (length bytes) bytes)
  taking_refused r e read refused = unless (is_object_memory e) (stops_taking v bytes (length bytes) at next was.state r e was.goes read) (refused was.state was.outline)

  module _ (r : Record × ℕ) (item : Item) (further : Outline) (more : Contents) (read : record_at v next (length bytes) bytes ≡ Ok r) (taken : (s : State) → scan ≡ outline_of s → state_after_record s r.0 ≡ Ok (with_item s item)) (kept : (s : State) → scan ≡ outline_of s → further ≡ outline_of (with_item s item)) (added : (s : State) → c ≡ contents_from (object_from s) → more ≡ contents_from (object_from (with_item s item))) where
    next_reached : IsReached (with_item was.state item)
    next_reached = reached_next was.state (with_item was.state item) r.0 was.reached (taken was.state was.outline)

    pub more_taken : next < r.1 → further.ended ≡ false → IsTaken v bytes at r.1 further more
    more_taken later open_yet = record {
      state = with_item was.state item;
      goes = goes_on v bytes (length bytes) at next was.state (with_item was.state item) r was.goes read later (taken was.state was.outline) (sym (ap (λ (o : Outline). o.ended) (kept was.state was.outline)) ∙ open_yet);
      outline = kept was.state was.outline;
      contents = added was.state was.contents;
      reached = next_reached;
    }

    pub all_taken : further.ended ≡ true → HasObjectContents bytes v at more r.1
    all_taken closed =
        let ended : (with_item was.state item).ended ≡ true = sym (ap (λ (o : Outline). o.ended) (kept was.state was.outline)) ∙ closed in
        record {
          state = with_item was.state item;
          read = ends v bytes (length bytes) at next was.state (with_item was.state item) r was.goes read (taken was.state was.outline) ended;
          whole = rw ((reached_parts (with_item was.state item) next_reached).failed, ended) refl;
          contents = added was.state was.contents;
        }

    pub good_taken : HasValidSymbols more
    good_taken = grind (arith, common_steps, reached_parts, next_reached, all_names)
