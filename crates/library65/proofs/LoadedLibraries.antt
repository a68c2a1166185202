-- Bytes that are loaded as a library are its encoding, and edits preserve lists of members that can form a library.
use Rattle.std.proofs.lemmas.Grind.{common_steps}
use Rattle.std.proofs.Common.{◌≡◌, ◌∙◌, ◌≤◌, ℕ, true, false, nat_lt, List, [], ◌∷◌, ◌++◌, length, take, drop, map, Ok, Err, refl, sym, ap, subst, arith, append_assoc, length-append, if◌then◌else◌, ◌-◌, Result}
use Rattle.std.specs.Str.{bytes_eq}
use Rattle.std.proofs.lemmas.List.{append-nil, map-append, take_all}
use Rattle.std.proofs.lemmas.Slice.Eq.{bytes_eq-Decides}
use Rattle.object65.specs.Reading.{file_limit, bytes_between, object_at}
use Rattle.base65.specs.Outcome.{◌>>=◌}
use Rattle.library65.specs.declared.contents.Contents.{Contents}
use Rattle.library65.specs.declared.index.Entry.{Entry}
use Rattle.library65.specs.declared.fault.LibraryFault.TheVariants.{CutShort, IndexDisagrees}
use Rattle.library65.specs.Laws.{LibraryEncodingIsLoaded, LoadedLibraryIsEncoded, EditsPreserveMemberList}
use Rattle.library65.specs.Libraries.{indexed_contents, are_same, member_contents, contents_from, contents_in, with_library_entry, with_library_entries, library_at, member_names, member_bytes_at, with_member, with_entry, has_index_names, as_member, without_named_member, object_in, with_new_member, without_member}
use Rattle.library65.specs.Spelling.{are_member_names, is_among, is_member_name, AreMembers, IsMember, Member, index_bytes, IsLibrary, IsMemberList}
use Rattle.library65.proofs.IndexEncodings.{Fresh, fresh_none, fresh_on, index_again}
use Rattle.library65.proofs.Edits.{good_names, checked_good, left, right, with_good, without_good}
use Rattle.library65.proofs.WrittenLibraries.{AllFit, Fits, bodies, object_there, stand, HasObject, checked_contents}
use Rattle.std.specs.List.{AllByRecursion}
use Rattle.object65.specs.declared.fault.ObjectFault.{ObjectFault}
use Rattle.object65.specs.declared.object.Object.{Object}
use Rattle.object65.specs.Record.{IsBytes}
use Rattle.object65.specs.Spelling.{IsObject}
use Rattle.object65.proofs.Numbers.{bytes_drop, bytes_take}
use Rattle.object65.proofs.Encodings.{read_is_object}
use Rattle.library65.specs.Reading.{index_at}
use Rattle.library65.proofs.ReadIndexes.{index_takes, admits, bound, passes}

-- ---- The encoding of a library is loaded.

same_bytes : (bs : List ℕ) → bytes_eq bs bs ≡ true
same_bytes bs = (bytes_eq-Decides bs bs).1 refl

same_names : (names : List (List ℕ)) → are_same names names ≡ true
same_names [] = refl
same_names (n ∷ ns) = rw (same_bytes n) (same_names ns)

pub put_last : (ms : List Member) (name bytes : List ℕ) → is_among (member_names ms) name ≡ false → with_member ms name bytes ≡ ms ++ (name, bytes) ∷ []
put_last [] name bytes new = refl
put_last (m ∷ ms) name bytes new = grind (arith, common_steps, (put_last ms name bytes))

piece_again : (bytes : List ℕ) (e : Entry) (m : Member) → m.1 ≡ take e.size (drop e.place bytes) → length m.1 ≡ e.size → member_bytes_at e.size e.place bytes ≡ Ok m.1
piece_again bytes e m is len = grind (arith, common_steps)

checked_again : (name bytes : List ℕ) (c : Contents) → is_member_name name ≡ true → contents_in bytes ≡ Ok c → member_contents name bytes ≡ Ok c
unfolding member_contents
checked_again name bytes c good is = rw good is

agreed_again : (e : Entry) (m : Member) → is_member_name e.name ≡ true → length m.1 ≤ file_limit → (f : Fits e m) → indexed_contents e m.1 ≡ Ok (contents_from f.object)
unfolding indexed_contents
agreed_again e m good short f =
    let c : member_contents e.name m.1 ≡ Ok (contents_from f.object) = checked_again e.name m.1 (contents_from f.object) good (object_there m.1 f.object short f.is_object) in
    let x : are_same e.exports (contents_from f.object).exports ≡ true = rw f.exports (same_names (map (λ x. x.name) f.object.exports)) in
    let i : are_same e.imports (contents_from f.object).imports ≡ true = rw f.imports (same_names f.object.imports) in
    rw (c, x, i) refl

joined_again : (bytes : List ℕ) (before : List Member) (e : Entry) (m : Member) → is_member_name e.name ≡ true → is_among (member_names before) e.name ≡ false → length m.1 ≤ file_limit → IsMember bytes e m → Fits e m → with_library_entry before e bytes ≡ Ok (before ++ m ∷ [])
unfolding with_library_entry
joined_again bytes before e m good new short is f = grind (arith, common_steps, piece_again, agreed_again, put_last)

all_again : (bytes : List ℕ) (before : List Member) (es : List Entry) (ms : List Member) → are_member_names (map (λ (e : Entry). e.name) es) ≡ true → Fresh (member_names before) es → length (bodies ms) ≤ file_limit → AreMembers bytes es ms → AllFit es ms → with_library_entries before es bytes ≡ Ok (before ++ ms)
all_again bytes before [] [] good fresh short are f = ap (λ (ms : List Member). Ok ms) (sym (append-nil before))
all_again bytes before [] (m ∷ ms) good fresh short are f = absurd f
all_again bytes before (e ∷ es) [] good fresh short are f = absurd f
all_again bytes before (e ∷ es) (m ∷ ms) good fresh short are f =
    let g = good_names e.name (map (λ (x : Entry). x.name) es) good in
    let len = length-append m.1 (bodies ms) in
    let named : member_names (before ++ m ∷ []) ≡ member_names before ++ e.name ∷ [] = map-append (λ (x : Member). x.0) before (m ∷ []) ∙ ap (λ (n : List ℕ). member_names before ++ n ∷ []) f.0.name in
    let fresh2 : Fresh (member_names (before ++ m ∷ [])) es = subst (λ ns. Fresh ns es) (sym named) (fresh_on (member_names before) e.name es fresh.1 g.new) in
    ap (λ r. r >>= (λ ns. with_library_entries ns es bytes)) (joined_again bytes before e m g.good fresh.0 (omega arith) are.0 f.0)
    ∙ all_again bytes (before ++ m ∷ []) es ms g.rest fresh2 (omega arith) are.1 f.1
    ∙ ap (λ (xs : List Member). Ok xs) (append_assoc before (m ∷ []) ms)

pub library_loaded : LibraryEncodingIsLoaded
unfolding library_at
library_loaded bytes ms is =
    let x = is.is_index in
    let both = stand (index_bytes is.index) x.members is.index ms x.contiguous x.sizes (subst (λ bs. AreMembers bs is.index ms) x.spelled is.members) in
    let short : length (bodies ms) ≤ file_limit = omega (arith, x.limit, ap (length {A = ℕ}) x.spelled, length-append (index_bytes is.index) x.members, ap (length {A = ℕ}) both.0) in
    ap (λ r. r >>= (λ es. with_library_entries [] es bytes)) (index_again bytes is.index x)
    ∙ all_again bytes [] is.index ms x.names (fresh_none is.index) short is.members both.1

-- ---- The object in a member's bytes.

all_room : (bytes : List ℕ) → bytes_between bytes 0 (length bytes) ≡ bytes
all_room bytes = take_all (length bytes - 0) bytes (omega arith)

read_one : (r : Result Object ObjectFault) (o : Object) → as_member r ≡ Ok o → r ≡ Ok o
read_one x o e = grind (arith, common_steps)

pub record HasContents (bytes : List ℕ) (c : Contents) : Type 0 where
  pub object : Object
  pub is_object : IsObject bytes object
  pub contents : c ≡ contents_from object

pub contents_read : (bytes : List ℕ) (c : Contents) → IsBytes bytes → contents_in bytes ≡ Ok c → HasContents bytes c
unfolding contents_in
contents_read bytes c is e =
    let b = bound (object_in bytes) (λ o. Ok (contents_from o)) c e in
    let whole = read_is_object bytes 0 (length bytes) b.0 (subst IsBytes (sym (all_room bytes)) is) (read_one (object_at 0 (length bytes) bytes) b.0 b.1) in
    record { object = b.0; is_object = subst (λ bs. IsObject bs b.0) (all_room bytes) whole; contents = sym (let same : contents_from b.0 ≡ c = cc (b.2) in same) }

-- ---- Loading.

names_are_one : (a b : List (List ℕ)) → are_same a b ≡ true → a ≡ b
names_are_one [] [] e = refl
names_are_one [] (y ∷ b) e = cc
names_are_one (x ∷ a) [] e = cc
names_are_one (x ∷ a) (y ∷ b) e =
    let head = (bytes_eq-Decides x y).0 (left (bytes_eq x y) (are_same a b) e) in
    let tail = names_are_one a b (right (bytes_eq x y) (are_same a b) e) in
    λ i. head i ∷ tail i

record TakesMember (bytes : List ℕ) (before : List Member) (e : Entry) (x : List Member) : Type 0 where
  body : List ℕ
  members : x ≡ before ++ (e.name, body) ∷ []
  member : IsMember bytes e (e.name, body)

agreed_takes : (e : Entry) (found : List ℕ) (c : Contents) → IsBytes found → indexed_contents e found ≡ Ok c → HasContents found c × (has_index_names e c ≡ true)
unfolding indexed_contents
agreed_takes e found c is h =
    let b = bound (member_contents e.name found) (λ d. if has_index_names e d then Ok d else Err IndexDisagrees) c h in
    let g = admits (has_index_names e b.0) IndexDisagrees b.0 c b.2 in
    subst (λ d. HasContents found d × (has_index_names e d ≡ true)) g.1 (contents_read found b.0 is (checked_contents e.name found b.0 b.1), g.0)

joined_takes : (bytes : List ℕ) (before : List Member) (e : Entry) (x : List Member) → IsBytes bytes → is_among (member_names before) e.name ≡ false → with_library_entry before e bytes ≡ Ok x → TakesMember bytes before e x
unfolding with_library_entry
joined_takes bytes before e x is new h =
    let p = bound (member_bytes_at e.size e.place bytes) (λ f. with_entry before e f) x h in
    let g = passes (nat_lt (length (take e.size (drop e.place bytes))) e.size) CutShort (Ok (take e.size (drop e.place bytes))) p.0 p.1 in
    let found : p.0 ≡ take e.size (drop e.place bytes) = sym (let same : take e.size (drop e.place bytes) ≡ p.0 = cc (g.1) in same) in
    let c = bound (indexed_contents e p.0) (λ d. Ok (with_member before e.name p.0)) x p.2 in
    let inside : IsBytes p.0 = subst IsBytes (sym found) (bytes_take e.size (drop e.place bytes) (bytes_drop e.place bytes is)) in
    let a = agreed_takes e p.0 c.0 inside c.1 in
    let made : with_member before e.name p.0 ≡ x = cc (c.2) in
    record {
      body = p.0;
      members = sym made ∙ put_last before e.name p.0 new;
      member = record {
        name = refl;
        bytes = found;
        object = a.0.object;
        is_object = a.0.is_object;
        exports = names_are_one e.exports c.0.exports (left (are_same e.exports c.0.exports) (are_same e.imports c.0.imports) a.1) ∙ ap (λ (d : Contents). d.exports) a.0.contents;
        imports = names_are_one e.imports c.0.imports (right (are_same e.exports c.0.exports) (are_same e.imports c.0.imports) a.1) ∙ ap (λ (d : Contents). d.imports) a.0.contents;
      };
    }

record TakesMembers (bytes : List ℕ) (before : List Member) (es : List Entry) (x : List Member) : Type 0 where
  new : List Member
  members : x ≡ before ++ new
  are : AreMembers bytes es new

all_take : (bytes : List ℕ) (before : List Member) (es : List Entry) (x : List Member) → IsBytes bytes → are_member_names (map (λ (e : Entry). e.name) es) ≡ true → Fresh (member_names before) es → with_library_entries before es bytes ≡ Ok x → TakesMembers bytes before es x
all_take bytes before [] x is good fresh h = let made : before ≡ x = cc in record { new = []; members = sym made ∙ sym (append-nil before); are = tt }
all_take bytes before (e ∷ es) x is good fresh h =
    let g = good_names e.name (map (λ (y : Entry). y.name) es) good in
    let a = bound (with_library_entry before e bytes) (λ ms. with_library_entries ms es bytes) x h in
    let m = joined_takes bytes before e a.0 is fresh.0 a.1 in
    let named : member_names a.0 ≡ member_names before ++ e.name ∷ [] = ap member_names m.members ∙ map-append (λ (y : Member). y.0) before ((e.name, m.body) ∷ []) in
    let rest = all_take bytes a.0 es x is g.rest (subst (λ ns. Fresh ns es) (sym named) (fresh_on (member_names before) e.name es fresh.1 g.new)) a.2 in
    record {
      new = (e.name, m.body) ∷ rest.new;
      members = rest.members ∙ ap (λ xs. xs ++ rest.new) m.members ∙ append_assoc before ((e.name, m.body) ∷ []) rest.new;
      are = (m.member, rest.are);
    }

pub library_taken : LoadedLibraryIsEncoded
unfolding library_at
library_taken bytes ms is h =
    let i = bound (index_at bytes) (λ es. with_library_entries [] es bytes) ms h in
    let x = index_takes bytes i.0 is i.1 in
    let all = all_take bytes [] i.0 ms is x.names (fresh_none i.0) i.2 in
    record { index = i.0; is_index = x; members = subst (λ ns. AreMembers bytes i.0 ns) (sym all.members) all.are }

-- ---- Members that can form a library.

with_objects : (ms : List Member) (name bytes : List ℕ) → AllByRecursion HasObject ms → HasObject (name, bytes) → AllByRecursion HasObject (with_member ms name bytes)
with_objects [] name bytes all one = (one, tt)
with_objects (m ∷ ms) name bytes all one = grind (arith, common_steps, (with_objects ms name bytes all.1 one))

without_objects : (ms : List Member) (name : List ℕ) → AllByRecursion HasObject ms → AllByRecursion HasObject (without_member ms name)
without_objects [] name all = tt
without_objects (m ∷ ms) name all = grind (arith, common_steps, (without_objects ms name all.1))

replaced_stock : (ms ns : List Member) (name bytes : List ℕ) → IsBytes bytes → IsMemberList ms → with_new_member ms name bytes ≡ Ok ns → IsMemberList ns
unfolding with_new_member
replaced_stock ms ns name bytes is stock h =
    let c = bound (member_contents name bytes) (λ d. Ok (with_member ms name bytes)) ns h in
    let made : with_member ms name bytes ≡ ns = cc (c.2) in
    let o = contents_read bytes c.0 is (checked_contents name bytes c.0 c.1) in
    subst IsMemberList made (record { names = with_good ms name bytes (checked_good name bytes c.0 c.1) stock.names; objects = with_objects ms name bytes stock.objects (o.object, o.is_object) })

deleted_stock : (ms ns : List Member) (name : List ℕ) → IsMemberList ms → without_named_member ms name ≡ Ok ns → IsMemberList ns
deleted_stock ms ns name stock h = grind (arith, common_steps, admits, without_good, without_objects)

all_named : (bytes : List ℕ) (es : List Entry) (ms : List Member) → AreMembers bytes es ms → member_names ms ≡ map (λ (e : Entry). e.name) es
all_named bytes [] [] are = refl
all_named bytes [] (m ∷ ms) are = absurd are
all_named bytes (e ∷ es) [] are = absurd are
all_named bytes (e ∷ es) (m ∷ ms) are =
    let head = are.0.name in
    let tail = all_named bytes es ms are.1 in
    λ i. head i ∷ tail i

all_objects : (bytes : List ℕ) (es : List Entry) (ms : List Member) → AreMembers bytes es ms → AllByRecursion HasObject ms
all_objects bytes [] [] are = tt
all_objects bytes [] (m ∷ ms) are = absurd are
all_objects bytes (e ∷ es) [] are = absurd are
all_objects bytes (e ∷ es) (m ∷ ms) are = ((are.0.object, are.0.is_object), all_objects bytes es ms are.1)

library_stock : (bytes : List ℕ) (ms : List Member) → IsLibrary bytes ms → IsMemberList ms
library_stock bytes ms l = record { names = ap are_member_names (all_named bytes l.index ms l.members) ∙ l.is_index.names; objects = all_objects bytes l.index ms l.members }

pub stock_law : EditsPreserveMemberList
stock_law = record {
  none = record { names = refl; objects = tt };
  loaded = library_stock;
  replaced = replaced_stock;
  deleted = deleted_stock;
}
