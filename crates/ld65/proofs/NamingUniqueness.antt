-- At most one message reports a call that failed while files were read.
use Rattle.std.proofs.Common.{◌≡◌, ◌∙◌, ◌<◌, ◌≤◌, ◌⊎◌, inl, inr, ℕ, zero, suc, ◌+◌, ◌-◌, true, false, List, [], ◌∷◌, length, slice_get, Option, Some, None, Result, Ok, refl, sym, ap, subst, arith}
use Rattle.std.specs.Prelude.{◌≢◌, IfSome, codes}
use Rattle.std.specs.FinMap.{get}
use Rattle.std.specs.List.{AllByRecursion}
use Rattle.std.proofs.Math.Nat.{eq-or-lt_of_le}
use Rattle.std.proofs.lemmas.Option.{get_or_from_slice_get}
use Rattle.base65.specs.Store.{FailedCall, Files}
use Rattle.object65.specs.declared.fault.ObjectFault.TheVariants as object
use Rattle.library65.specs.declared.fault.LibraryFault.{LibraryFault}
use Rattle.library65.specs.declared.fault.LibraryFault.TheVariants as library
use Rattle.library65.specs.declared.index.Entry.{Entry}
use Rattle.library65.specs.FailedRequests.{IsIndexOffset, members_offset}
use Rattle.library65.specs.Reading.{in_file, index_at}
use Rattle.library65.proofs.MemberOffsets.{IsRow, index_stands, stand_apart, stands_within}
use Rattle.script65.specs.declared.script.Script.{Script}
use Rattle.link65.specs.Programs.{Module}
use Rattle.cli65.specs.Line.{LinkView}
use Rattle.cli65.specs.Messages.{file_message}
use Rattle.ld65.specs.declared.fault.LinkCommandFault.{LinkCommandFault}
use Rattle.ld65.specs.declared.fault.LinkCommandFault.TheVariants as error
use Rattle.ld65.specs.Laws.{LinkNamingIsUnique, IdentifiesPart}
use Rattle.ld65.specs.Linkage.{index_in, is_library_in, member_module}
use Rattle.ld65.specs.Naming.{IsHeaderFailure, IsIndexFailure, IsInputFailure, IsLibraryFailure, IsCommandFailure, IsNeededMemberFailure, IsObjectFailure, IsScriptFailure, IsScriptIn}
use Rattle.ld65.specs.Faults.{input_name_at, error_message}
use Rattle.ld65.proofs.LibraryIsNoScript.{script_is_no_library}

abbrev failure_of : List ℕ → List ℕ
failure_of name = file_message name (codes "file error")

-- ---- What a failure refers to.

-- the failed call requested an offset within this member of a library, or its end
record IsInMember (m : Files) (l : LinkView) (c : FailedCall) (i : ℕ) (entry : Entry) : Type 0 where
  script : Script
  read : IsScriptIn m l.script script
  kind : is_library_in m c.name ≡ true
  entries : List Entry
  index : index_in m c.name ≡ Ok entries
  at_index : slice_get entries i ≡ Some entry
  at : ℕ
  asked : c.at ≡ Some at
  begin : entry.place ≤ at
  end : at ≤ entry.place + entry.size

-- the message names the member
record NamesMember (m : Files) (l : LinkView) (c : FailedCall) (e : LinkCommandFault) : Type 0 where
  entry_index : ℕ
  entry : Entry
  within : IsInMember m l c entry_index entry
  says : error_message l e ≡ failure_of (member_module c.name entry.name)

-- the message names a file, and the failed call requested no member
record NamesFile (m : Files) (l : LinkView) (c : FailedCall) (e : LinkCommandFault) : Type 0 where
  says : error_message l e ≡ failure_of c.name
  apart : (i : ℕ) (entry : Entry) → IsInMember m l c i entry → ⊥

-- a library with an index has bytes
indexed_bytes : (m : Files) (name : List ℕ) (es : List Entry) → index_in m name ≡ Ok es → (bytes : List ℕ) × (get m name ≡ Some bytes) × (index_at bytes ≡ Ok es)
indexed_bytes m name es e = go (get m name) refl e
  where
    go : (f : Option (List ℕ)) → get m name ≡ f → in_file f index_at ≡ Ok es → (bytes : List ℕ) × (get m name ≡ Some bytes) × (index_at bytes ≡ Ok es)
    go None is e = absurd cc
    go (Some bytes) is e = (bytes, is, e)

same_place : (c : FailedCall) (j k : ℕ) → c.at ≡ Some j → c.at ≡ Some k → j ≡ k
same_place c j k a b = let both : Some j ≡ Some k = sym a ∙ b in cc

-- the order of two indices
in_order : (i j : ℕ) → (i < j) ⊎ ((i ≡ j) ⊎ (j < i))
in_order zero zero = inr (inl refl)
in_order zero (suc j) = inl (omega arith)
in_order (suc i) zero = inr (inr (omega arith))
in_order (suc i) (suc j) = more (in_order i j)
  where
    more : (i < j) ⊎ ((i ≡ j) ⊎ (j < i)) → (suc i < suc j) ⊎ ((suc i ≡ suc j) ⊎ (suc j < suc i))
    more (inl h) = inl (omega (arith, h))
    more (inr (inl h)) = inr (inl (ap suc h))
    more (inr (inr h)) = inr (inr (omega (arith, h)))

-- two members that contain the same offset are equal
within_one : (at : ℕ) (es : List Entry) (end k i j : ℕ) (d e : Entry) → IsRow at es end → slice_get es i ≡ Some d → slice_get es j ≡ Some e → d.place ≤ k → k < d.place + d.size → e.place ≤ k → k < e.place + e.size → d ≡ e
within_one at es end k i j d e row one other low high other_low other_high = go (in_order i j)
  where
    go : (i < j) ⊎ ((i ≡ j) ⊎ (j < i)) → d ≡ e
    go (inl less) = absurd (omega (arith, stand_apart at es end i j d e row one other less))
    go (inr (inl same)) = let both : Some d ≡ Some e = sym one ∙ subst (λ (n : ℕ). slice_get es n ≡ Some e) (sym same) other in cc
    go (inr (inr less)) = absurd (omega (arith, stand_apart at es end j i e d row other one less))

module _ (m : Files) (l : LinkView) (c : FailedCall) (tells : IdentifiesPart m c) where
  -- the member is after the index, and the requested offset is inside the member and isn't the file's last byte
  record Following (i : ℕ) (entry : Entry) (w : IsInMember m l c i entry) : Type 0 where
    bytes : List ℕ
    has : get m c.name ≡ Some bytes
    index : index_at bytes ≡ Ok w.entries
    following : 8 < entry.place
    first : members_offset w.entries (length bytes) ≤ entry.place
    before : w.at < entry.place + entry.size
    within : w.at < length bytes
    unlike : w.at ≡ length bytes - 1 → ⊥

  all_at : (P : Entry → Type 0) (es : List Entry) (i : ℕ) (e : Entry) → AllByRecursion P es → slice_get es i ≡ Some e → P e
  all_at P [] i e all there = absurd cc
  all_at P (x ∷ es) zero e all there = let same : x ≡ e = cc there in subst P same all.0
  all_at P (x ∷ es) (suc i) e all there = all_at P es i e all.1 there

  following : (i : ℕ) (entry : Entry) (w : IsInMember m l c i entry) → Following i entry w
  following i entry w =
      let b = indexed_bytes m c.name w.entries w.index in
      let s = index_stands b.0 w.entries b.2 in
      let r = stands_within (members_offset w.entries (length b.0)) w.entries (length b.0) i entry s.row w.at_index in
      let t = tells w.entries w.index in
      let no_end : c.at ≢ Some (entry.place + entry.size) = all_at (λ (x : Entry). c.at ≢ Some (x.place + x.size)) w.entries i entry t.0 w.at_index in
      let before : w.at < entry.place + entry.size = not_end no_end (eq-or-lt_of_le w.end) in
      let last : c.at ≢ Some (length b.0 - 1) = subst (λ (f : Option (List ℕ)). IfSome f (λ bytes. c.at ≢ Some (length bytes - 1))) b.1 t.1 in
      record {
        bytes = b.0;
        has = b.1;
        index = b.2;
        following = omega (arith, s.following, r.0);
        first = r.0;
        before = before;
        within = omega (arith, before, r.1);
        unlike = λ h. last (w.asked ∙ ap Some h);
      }
    where
      not_end : c.at ≢ Some (entry.place + entry.size) → (w.at ≡ entry.place + entry.size) ⊎ (w.at < entry.place + entry.size) → w.at < entry.place + entry.size
      not_end unlike (inl h) = absurd (unlike (w.asked ∙ ap Some h))
      not_end unlike (inr h) = h

  one_member : (i j : ℕ) (d e : Entry) → IsInMember m l c i d → IsInMember m l c j e → d ≡ e
  one_member i j d e v w =
      let same : v.entries ≡ w.entries = let both : ◌≡◌ {A = Result (List Entry) LibraryFault} (Ok v.entries) (Ok w.entries) = sym v.index ∙ w.index in cc in
      let there : slice_get w.entries i ≡ Some d = subst (λ (es : List Entry). slice_get es i ≡ Some d) same v.at_index in
      let a = following i d v in
      let b = following j e w in
      let at : v.at ≡ w.at = same_place c v.at w.at v.asked w.asked in
      within_one (members_offset w.entries (length b.bytes)) w.entries (length b.bytes) w.at i j d e (index_stands b.bytes w.entries b.index).row there w.at_index
      (omega (arith, v.begin, at)) (omega (arith, a.before, at)) w.begin b.before

  -- ---- The message of each error.

  -- the name of the input at index `k`
  input_at : (k : ℕ) (name : List ℕ) → slice_get l.inputs k ≡ Some name → c.name ≡ name → input_name_at l.inputs k ≡ c.name
  input_at k name there is = get_or_from_slice_get l.inputs k name [] there ∙ sym is

  says_object : (k : ℕ) (name : List ℕ) (e : LinkCommandFault) → slice_get l.inputs k ≡ Some name → c.name ≡ name → e ≡ error.Object k object.FileError → error_message l e ≡ failure_of c.name
  says_object k name e there is same = ap (error_message l) same ∙ ap failure_of (input_at k name there is)

  says_library : (k : ℕ) (name : List ℕ) (e : LinkCommandFault) → slice_get l.inputs k ≡ Some name → c.name ≡ name → e ≡ error.Library k library.FileError → error_message l e ≡ failure_of c.name
  says_library k name e there is same = ap (error_message l) same ∙ ap failure_of (input_at k name there is)

  of_script : (e : LinkCommandFault) → IsScriptFailure (Some c) l.script e → NamesFile m l c e
  of_script e h = record {
    says = ap (error_message l) h.0 ∙ ap failure_of (sym h.1);
    apart = λ i entry w. script_is_no_library m l.script w.script w.read (subst (λ (n : List ℕ). is_library_in m n ≡ true) h.1 w.kind);
  }

  of_front : (k : ℕ) (name : List ℕ) (e : LinkCommandFault) → slice_get l.inputs k ≡ Some name → IsHeaderFailure (Some c) k name e → NamesFile m l c e
  of_front k name e there h = record {
    says = says_object k name e there h.1.0 h.0;
    apart = λ i entry w. absurd (omega (arith, (following i entry w).following, w.begin, same_place c w.at h.1.1 w.asked h.1.2, h.1.4));
  }

  of_object : (k : ℕ) (name : List ℕ) (e : LinkCommandFault) → slice_get l.inputs k ≡ Some name → is_library_in m name ≡ false → IsObjectFailure (Some c) k name e → NamesFile m l c e
  of_object k name e there kind h = record {
    says = says_object k name e there h.1 h.0;
    apart = λ i entry w. let both : true ≡ false = sym (subst (λ (n : List ℕ). is_library_in m n ≡ true) h.1 w.kind) ∙ kind in absurd cc;
  }

  of_index : (k : ℕ) (name : List ℕ) (e : LinkCommandFault) → slice_get l.inputs k ≡ Some name → IsIndexFailure (Some m) (Some c) k name e → NamesFile m l c e
  of_index k name e there h = record {
    says = says_library k name e there h.1 h.0;
    apart = λ i entry w.
        let b = following i entry w in
        let has : get m name ≡ Some b.bytes = subst (λ (n : List ℕ). get m n ≡ Some b.bytes) h.1 b.has in
        let asks = subst (λ (f : Option (List ℕ)). IfSome f (λ bytes. (at : ℕ) × (c.at ≡ Some at) × IsIndexOffset bytes at)) has h.2 in
        let at : w.at ≡ asks.0 = same_place c w.at asks.0 w.asked asks.1 in
        beyond i entry w b asks.0 at (asks.2 w.entries b.index);
  }
    where
      beyond : (i : ℕ) (entry : Entry) (w : IsInMember m l c i entry) (b : Following i entry w) (at : ℕ) → w.at ≡ at → (at < members_offset w.entries (length b.bytes)) ⊎ (length b.bytes ≡ at + 1) ⊎ (length b.bytes ≡ at) → ⊥
      beyond i entry w b at is (inl h) = omega (arith, b.first, w.begin, is)
      beyond i entry w b at is (inr (inl h)) = b.unlike (omega (arith, is, h))
      beyond i entry w b at is (inr (inr h)) = omega (arith, b.within, is, h)

  of_needed : (s : Script) (before : List Module) (name : List ℕ) (e : LinkCommandFault) → IsScriptIn m l.script s → is_library_in m name ≡ true → IsNeededMemberFailure (Some m) s before (Some c) name e → NamesMember m l c e
  of_needed s before name e read kind h =
      let p = h.named in
      let is : name ≡ c.name = sym p.1.0 in
      record {
        entry_index = h.entry_index;
        entry = h.entry;
        within = record {
          script = s;
          read = read;
          kind = subst (λ (n : List ℕ). is_library_in m n ≡ true) is kind;
          entries = h.entries;
          index = subst (λ (n : List ℕ). index_in m n ≡ Ok h.entries) is h.index;
          at_index = h.at_index;
          at = p.1.1;
          asked = p.1.2;
          begin = p.1.3;
          end = p.1.4;
        };
        says = ap (error_message l) p.0 ∙ ap (λ (n : List ℕ). failure_of (member_module n h.entry.name)) is;
      }

  of_input : (s : Script) (before : List Module) (k : ℕ) (name : List ℕ) (e : LinkCommandFault) → IsScriptIn m l.script s → slice_get l.inputs k ≡ Some name → IsInputFailure (Some m) s before (Some c) k name e → NamesFile m l c e ⊎ NamesMember m l c e
  of_input s before k name e read there (inl h) = inl (of_front k name e there h)
  of_input s before k name e read there (inr (inl h)) = inl (of_object k name e there h.0 h.1)
  of_input s before k name e read there (inr (inr h)) = of_library h.1
    where
      of_library : IsLibraryFailure (Some m) s before (Some c) k name e → NamesFile m l c e ⊎ NamesMember m l c e
      of_library (inl i) = inl (of_index k name e there i)
      of_library (inr n) = inr (of_needed s before name e read h.0 n)

  of_line : (e : LinkCommandFault) → IsCommandFailure (Some m) (Some c) l e → NamesFile m l c e ⊎ NamesMember m l c e
  of_line e (inl h) = inl (of_script e h)
  of_line e (inr h) = of_input h.0 h.2.3 h.2.0 h.2.1 e h.1 h.2.2 h.2.5

  one_message : (e f : LinkCommandFault) → NamesFile m l c e ⊎ NamesMember m l c e → NamesFile m l c f ⊎ NamesMember m l c f → error_message l e ≡ error_message l f
  one_message e f (inl x) (inl y) = x.says ∙ sym y.says
  one_message e f (inl x) (inr y) = absurd (x.apart y.entry_index y.entry y.within)
  one_message e f (inr x) (inl y) = absurd (y.apart x.entry_index x.entry x.within)
  one_message e f (inr x) (inr y) = x.says ∙ ap (λ (d : Entry). failure_of (member_module c.name d.name)) (one_member x.entry_index y.entry_index x.entry y.entry x.within y.within) ∙ sym y.says

pub one_naming : LinkNamingIsUnique
one_naming m l c e f tells a b = one_message m l c tells e f (of_line m l c tells e a) (of_line m l c tells f b)
