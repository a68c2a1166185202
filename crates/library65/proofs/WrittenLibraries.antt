-- The bytes that are written for members encode a library of these members.
use Rattle.std.proofs.lemmas.Grind.{common_steps}
use Rattle.std.proofs.Common.{◌≡◌, ◌∙◌, ◌<◌, ℕ, true, not, ◌&&◌, List, [], ◌∷◌, length, get_or, map, refl, sym, ap, subst, arith, zero, suc, ◌≤◌, ◌+◌, ◌++◌, Ok, Err, length-append, append_assoc, ◌-◌, take, drop}
use Rattle.std.proofs.lemmas.Bool.Decides.{nat_tests}
use Rattle.std.specs.List.{list_all, flat_map, AllByRecursion}
use Rattle.object65.specs.declared.object.Export.{Export}
use Rattle.object65.specs.declared.object.Object.{Object}
use Rattle.object65.specs.Objects.{are_names, is_among, is_well_formed_object, is_name}
use Rattle.object65.proofs.SmallParts.{parts}
use Rattle.library65.specs.Spelling.{HasValidSymbols, AppendsBytes, are_member_names, Member, index_entry_bytes, name_bytes, AreMembers, IsLibrary, AreContiguous, entry_bytes, index_bytes, library_head, IsWellFormedEntry, IsIndex, names_bytes}
use Rattle.library65.proofs.Edits.{and, left, right}
use Rattle.std.specs.Global.{Vec}
use Rattle.library65.specs.declared.contents.Contents.{Contents}
use Rattle.library65.specs.declared.fault.LibraryFault.{LibraryFault}
use Rattle.library65.specs.declared.library.StoredMember.{StoredMember}
use Rattle.library65.specs.Libraries.{member_contents, contents_in, member_entry_bytes, member_names, contents_from, library_bytes, bytes_within_limit, HasMatchingContents, member_of}
use Rattle.std.specs.Prelude.{sum_by}
use Rattle.std.proofs.lemmas.List.{drop_at, length-take, take-append-drop, take_all, take_at}
use Rattle.std.proofs.lemmas.List.Sums.{sum_by-cons}
use Rattle.byteorder.specs.Endian.{little_bytes}
use Rattle.object65.specs.Reading.{file_limit, bytes_between}
use Rattle.object65.specs.Spelling.{IsObject}
use Rattle.object65.proofs.Encodings.{object_is_read}
use Rattle.library65.specs.declared.index.Entry.{Entry}
use Rattle.library65.specs.Laws.{LibraryEncodingIsUnique, WrittenBytesAreLibrary}

-- ---- The names in an object are valid.

pub all_names : (names : List (List ℕ)) → are_names names ≡ true → list_all is_name names ≡ true
all_names [] e = refl
all_names (n ∷ ns) e = grind (arith, common_steps, (all_names ns (right (is_name n && not (is_among ns n)) (are_names ns) e)), left, and, right)

pub symbols_good : (o : Object) (exports : List (List ℕ)) → is_well_formed_object o ≡ true → exports ≡ map (λ (e : Export). e.name) o.exports → HasValidSymbols (record { exports = exports; imports = o.imports })
symbols_good o exports good same = grind (arith, common_steps, parts, all_names)

-- the length of a valid name is below 256
pub name_short : (names : List (List ℕ)) (i : ℕ) (name : List ℕ) → list_all is_name names ≡ true → i < length names → name ≡ get_or names i name → length name < 256
name_short [] i name all lt at = absurd (omega arith)
name_short (n ∷ ns) zero name all lt at = grind (arith, common_steps, left, right, nat_tests)
name_short (n ∷ ns) (suc i) name all lt at = name_short ns i name (right (is_name n) (list_all is_name ns) all) (omega arith) at

-- ---- The parts of a library that are written.

pub many_names : (names : List (List ℕ)) → length names ≤ length (flat_map name_bytes names)
many_names [] = omega arith
many_names (n ∷ ns) = omega (arith, many_names ns, length-append (name_bytes n) (flat_map name_bytes ns))

pub many_members : (ms : List Member) → length ms ≤ length (flat_map member_entry_bytes ms)
many_members [] = omega arith
many_members (m ∷ ms) = omega (arith, many_members ms, length-append (member_entry_bytes m) (flat_map member_entry_bytes ms), some m) where
  some : (m : Member) → 1 ≤ length (member_entry_bytes m)
  some m = omega arith

pub bodies_seen : (es : List (Vec ℕ × StoredMember)) → flat_map (λ (s : StoredMember). s.bytes.items) (map (λ (e : Vec ℕ × StoredMember). e.1) es) ≡ flat_map (λ (m : Member). m.1) (map member_of es)
bodies_seen [] = refl
bodies_seen (e ∷ es) = ap (λ xs. e.1.bytes.items ++ xs) (bodies_seen es)

-- ---- One member.

pub checked_contents : (name bytes : List ℕ) (c : Contents) → member_contents name bytes ≡ Ok c → contents_in bytes ≡ Ok c
unfolding member_contents
checked_contents name bytes c e = grind (arith, common_steps)

pub its_listing : (k : Vec ℕ) (v : StoredMember) → HasMatchingContents (k, v) → member_entry_bytes (member_of (k, v)) ≡ index_entry_bytes k.items (length v.bytes.items) v.contents.exports v.contents.imports
its_listing k v is = grind (arith, common_steps, checked_contents)

abbrev pub Stock : Type 0
Stock = List (Vec ℕ × StoredMember)

pub names_next : (all : Stock) (k : Vec ℕ) (v : StoredMember) (es : Stock) → all ≡ (k, v) ∷ es → are_member_names (member_names (map member_of all)) ≡ true → are_member_names (member_names (map member_of es)) ≡ true
names_next all k v es split good = grind (arith, common_steps)

pub out_next : (all : Stock) (k : Vec ℕ) (v : StoredMember) (es : Stock) (name old new whole : List ℕ) → all ≡ (k, v) ∷ es → HasMatchingContents (k, v) → name ≡ k.items → new ≡ old ++ index_entry_bytes name (length v.bytes.items) v.contents.exports v.contents.imports → old ++ flat_map member_entry_bytes (map member_of all) ≡ whole → new ++ flat_map member_entry_bytes (map member_of es) ≡ whole
out_next all k v es name old new whole split is same put so_far = grind (arith, common_steps, its_listing, append_assoc)

abbrev pub written_len : Stock → ℕ
written_len es = length (flat_map member_entry_bytes (map member_of es)) + length (flat_map (λ (m : Member). m.1) (map member_of es))

pub size_next : (all : Stock) (k : Vec ℕ) (v : StoredMember) (es : Stock) (total : ℕ) → all ≡ (k, v) ∷ es → written_len all ≤ total → written_len es ≤ total
size_next all k v es total split le = grind (arith, common_steps)

pub size_first : (all : Stock) (k : Vec ℕ) (v : StoredMember) (es : Stock) (name : List ℕ) (total : ℕ) → all ≡ (k, v) ∷ es → HasMatchingContents (k, v) → name ≡ k.items → written_len all ≤ total → length (index_entry_bytes name (length v.bytes.items) v.contents.exports v.contents.imports) + length v.bytes.items ≤ total
size_first all k v es name total split is same le = grind (arith, common_steps, its_listing, length-append)

-- if a part exceeds the size limit of a file, so does the whole
pub passed_on : (e : LibraryFault) (part whole old base new after : List ℕ) (n total : ℕ) → AppendsBytes part n old new (Err e) → n ≤ total → AppendsBytes whole total base after (Err e)
passed_on x part whole old base new after n total put le = grind (arith, common_steps)

-- ---- The bytes of a library, from those of its members.

abbrev pub entry_size : Entry → ℕ
entry_size e = e.size

abbrev pub bodies : List Member → List ℕ
bodies ms = flat_map (λ m. m.1) ms

-- ---- A member's bytes.

all_room : (bytes : List ℕ) → bytes_between bytes 0 (length bytes) ≡ bytes
all_room bytes = take_all (length bytes - 0) bytes (omega arith)

pub object_there : (bytes : List ℕ) (o : Object) → length bytes ≤ file_limit → IsObject bytes o → contents_in bytes ≡ Ok (contents_from o)
unfolding contents_in
object_there bytes o short is = grind (arith, common_steps, all_room, object_is_read)

-- an entry has the size, name, exports and imports of a member
pub record Fits (e : Entry) (m : Member) : Type 0 where
  pub name : m.0 ≡ e.name
  pub size : length m.1 ≡ e.size
  pub object : Object
  pub is_object : IsObject m.1 object
  pub exports : e.exports ≡ map (λ x. x.name) object.exports
  pub imports : e.imports ≡ object.imports

abbrev pub AllFit : List Entry → List Member → Type 0
AllFit [] [] = Unit {0}
AllFit [] (m ∷ ms) = ⊥
AllFit (e ∷ es) [] = ⊥
AllFit (e ∷ es) (m ∷ ms) = Fits e m × AllFit es ms

fits_listing : (e : Entry) (m : Member) → length m.1 ≤ file_limit → Fits e m → entry_bytes e ≡ member_entry_bytes m
fits_listing e m short f = grind (arith, common_steps, object_there)

pub all_listings : (es : List Entry) (ms : List Member) → length (bodies ms) ≤ file_limit → AllFit es ms → flat_map entry_bytes es ≡ flat_map member_entry_bytes ms
all_listings [] [] short f = refl
all_listings [] (m ∷ ms) short f = absurd f
all_listings (e ∷ es) [] short f = absurd f
all_listings (e ∷ es) (m ∷ ms) short f =
    let len = length-append m.1 (bodies ms) in
    ap (λ xs. xs ++ flat_map entry_bytes es) (fits_listing e m (omega arith) f.0)
    ∙ ap (λ xs. member_entry_bytes m ++ xs) (all_listings es ms (omega arith) f.1)

pub same_count : (es : List Entry) (ms : List Member) → AllFit es ms → length es ≡ length ms
same_count [] [] f = refl
same_count [] (m ∷ ms) f = absurd f
same_count (e ∷ es) [] f = absurd f
same_count (e ∷ es) (m ∷ ms) f = let rest = same_count es ms f.1 in omega arith

-- ---- The offsets of members.

piece_in : (front members : List ℕ) (at size : ℕ) → at ≡ length front → take size (drop at (front ++ members)) ≡ take size members
piece_in front members at size is = ap (take size) (drop_at front members at (sym is))

-- contiguous members are all of these bytes, and fit their entries
pub stand : (front members : List ℕ) (es : List Entry) (ms : List Member) → AreContiguous (length front) es → length members ≡ sum_by entry_size es → AreMembers (front ++ members) es ms → (members ≡ bodies ms) × AllFit es ms
stand front members [] [] stands sizes are = grind (arith, common_steps)
stand front members [] (m ∷ ms) stands sizes are = absurd are
stand front members (e ∷ es) [] stands sizes are = absurd are
stand front members (e ∷ es) (m ∷ ms) stands sizes are =
    let total : length members ≡ e.size + sum_by entry_size es = sizes ∙ sum_by-cons entry_size e es in
    let body : m.1 ≡ take e.size members = are.0.bytes ∙ piece_in front members e.place e.size stands.0 in
    let len : length m.1 ≡ e.size = ap (length {A = ℕ}) body ∙ (let t = length-take e.size members in omega arith) in
    let split : members ≡ m.1 ++ drop e.size members = sym (take-append-drop e.size members) ∙ ap (λ xs. xs ++ drop e.size members) (sym body) in
    let on : front ++ members ≡ (front ++ m.1) ++ drop e.size members = ap (λ xs. front ++ xs) split ∙ sym (append_assoc front m.1 (drop e.size members)) in
    let further : length front + e.size ≡ length (front ++ m.1) = omega (arith, length-append front m.1) in
    let left : length (drop e.size members) ≡ sum_by entry_size es = omega (arith, ap (length {A = ℕ}) split, length-append m.1 (drop e.size members)) in
    let rest = stand (front ++ m.1) (drop e.size members) es ms (subst (λ n. AreContiguous n es) further stands.1) left (subst (λ bs. AreMembers bs es ms) on are.1) in (
      split ∙ ap (λ xs. m.1 ++ xs) rest.0,
      (record { name = are.0.name; size = len; object = are.0.object; is_object = are.0.is_object; exports = are.0.exports; imports = are.0.imports }, rest.1),
    )

-- the bytes of a library are `library_bytes` of its members
pub library_is : (a : List ℕ) (ms : List Member) → IsLibrary a ms → a ≡ library_bytes ms
library_is a ms is =
    let x = is.is_index in
    let both = stand (index_bytes is.index) x.members is.index ms x.contiguous x.sizes (subst (λ bs. AreMembers bs is.index ms) x.spelled is.members) in
    let short : length (bodies ms) ≤ file_limit = omega (arith, x.limit, ap (length {A = ℕ}) x.spelled, length-append (index_bytes is.index) x.members, ap (length {A = ℕ}) both.0) in
    x.spelled
    ∙ ap (λ xs. index_bytes is.index ++ xs) both.0
    ∙ ap (λ n. (library_head ++ (little_bytes 4 n ++ flat_map entry_bytes is.index)) ++ bodies ms) (same_count is.index ms both.1)
    ∙ ap (λ xs. (library_head ++ (little_bytes 4 (length ms) ++ xs)) ++ bodies ms) (all_listings is.index ms short both.1)

pub one_library : LibraryEncodingIsUnique
one_library a b ms first second = library_is a ms first ∙ sym (library_is b ms second)

-- ---- The bytes that are written are a library.

abbrev pub HasObject : Member → Type 0
HasObject m = (o : Object) × IsObject m.1 o

abbrev entry_for : ℕ → Member → Object → Entry
entry_for at m o = record { name = m.0; place = at; size = length m.1; exports = map (λ x. x.name) o.exports; imports = o.imports }

-- the entries of members from an offset on
abbrev entries : ℕ → (ms : List Member) → AllByRecursion HasObject ms → List Entry
entries at [] os = []
entries at (m ∷ ms) os = entry_for at m os.0.0 ∷ entries (at + length m.1) ms os.1

all_fit : (at : ℕ) (ms : List Member) (os : AllByRecursion HasObject ms) → AllFit (entries at ms os) ms
all_fit at [] os = tt
all_fit at (m ∷ ms) os = (record { name = refl; size = refl; object = os.0.0; is_object = os.0.1; exports = refl; imports = refl }, all_fit (at + length m.1) ms os.1)

all_stand : (at : ℕ) (ms : List Member) (os : AllByRecursion HasObject ms) → AreContiguous at (entries at ms os)
all_stand at [] os = tt
all_stand at (m ∷ ms) os = (refl, all_stand (at + length m.1) ms os.1)

all_sizes : (at : ℕ) (ms : List Member) (os : AllByRecursion HasObject ms) → length (bodies ms) ≡ sum_by entry_size (entries at ms os)
all_sizes at [] os = refl
all_sizes at (m ∷ ms) os =
    let rest = all_sizes (at + length m.1) ms os.1 in
    omega (arith, rest, length-append m.1 (bodies ms), sum_by-cons entry_size (entry_for at m os.0.0) (entries (at + length m.1) ms os.1))

all_named : (at : ℕ) (ms : List Member) (os : AllByRecursion HasObject ms) → map (λ (e : Entry). e.name) (entries at ms os) ≡ member_names ms
all_named at [] os = refl
all_named at (m ∷ ms) os = ap (λ ns. m.0 ∷ ns) (all_named (at + length m.1) ms os.1)

all_good : (at : ℕ) (ms : List Member) (os : AllByRecursion HasObject ms) → length (bodies ms) ≤ file_limit → length (flat_map entry_bytes (entries at ms os)) ≤ file_limit → AllByRecursion IsWellFormedEntry (entries at ms os)
all_good at [] os short few = tt
all_good at (m ∷ ms) os short few =
    let e = entry_for at m os.0.0 in
    let rest = entries (at + length m.1) ms os.1 in
    let len = length-append m.1 (bodies ms) in
    let a = length-append (entry_bytes e) (flat_map entry_bytes rest) in
    let b = length-append (name_bytes m.0) (little_bytes 4 (length m.1) ++ (names_bytes e.exports ++ names_bytes e.imports)) in
    let c = length-append (little_bytes 4 (length m.1)) (names_bytes e.exports ++ names_bytes e.imports) in
    let d = length-append (names_bytes e.exports) (names_bytes e.imports) in
    let f = length-append (little_bytes 4 (length e.exports)) (flat_map name_bytes e.exports) in
    let g = length-append (little_bytes 4 (length e.imports)) (flat_map name_bytes e.imports) in
    let symbols = symbols_good os.0.0 e.exports os.0.1.well_formed refl in (
      record {
        exports = symbols.exports;
        imports = symbols.imports;
        size = omega arith;
        export_count = omega (arith, many_names e.exports);
        import_count = omega (arith, many_names e.imports);
      },
      all_good (at + length m.1) ms os.1 (omega arith) (omega arith),
    )

all_there : (front : List ℕ) (at : ℕ) (ms : List Member) (os : AllByRecursion HasObject ms) → at ≡ length front → AreMembers (front ++ bodies ms) (entries at ms os) ms
all_there front at [] os is = tt
all_there front at (m ∷ ms) os is =
    let on : front ++ bodies (m ∷ ms) ≡ (front ++ m.1) ++ bodies ms = sym (append_assoc front m.1 (bodies ms)) in
    let further : at + length m.1 ≡ length (front ++ m.1) = omega (arith, length-append front m.1) in (
      record {
        name = refl;
        bytes = sym (ap (take (length m.1)) (drop_at front (m.1 ++ bodies ms) at (sym is)) ∙ take_at m.1 (bodies ms) (length m.1) refl);
        object = os.0.0;
        is_object = os.0.1;
        exports = refl;
        imports = refl;
      },
      subst (λ bs. AreMembers bs (entries (at + length m.1) ms os.1) ms) (sym on) (all_there (front ++ m.1) (at + length m.1) ms os.1 further),
    )

within_limit : (ms : List Member) (bytes : List ℕ) → bytes_within_limit ms ≡ Ok bytes → (length (library_bytes ms) ≤ file_limit) × (bytes ≡ library_bytes ms)
within_limit ms bytes e = grind (arith, common_steps)

pub written_is : WrittenBytesAreLibrary
written_is ms bytes stock e =
    let w = within_limit ms bytes e in
    let os = stock.objects in
    let front = library_head ++ (little_bytes 4 (length ms) ++ flat_map member_entry_bytes ms) in
    let at = length front in
    let es = entries at ms os in
    let fit = all_fit at ms os in
    let len : length (library_bytes ms) ≡ length front + length (bodies ms) = length-append front (bodies ms) in
    let listed : flat_map entry_bytes es ≡ flat_map member_entry_bytes ms = all_listings es ms (omega (arith, w.0, len)) fit in
    let index : index_bytes es ≡ front = ap (λ n. library_head ++ (little_bytes 4 n ++ flat_map entry_bytes es)) (same_count es ms fit) ∙ ap (λ xs. library_head ++ (little_bytes 4 (length ms) ++ xs)) listed in
    let front_len : length front ≡ 9 + length (flat_map member_entry_bytes ms) = omega arith in
    let is_index : IsIndex bytes es = record {
      names = ap are_member_names (all_named at ms os) ∙ stock.names;
      entries = all_good at ms os (omega (arith, w.0, len)) (omega (arith, w.0, len, ap (length {A = ℕ}) listed, front_len));
      count = omega (arith, same_count es ms fit, many_members ms, w.0, len, front_len);
      contiguous = subst (λ n. AreContiguous n es) (ap (length {A = ℕ}) (sym index)) (all_stand at ms os);
      members = bodies ms;
      spelled = w.1 ∙ ap (λ xs. xs ++ bodies ms) (sym index);
      sizes = all_sizes at ms os;
      limit = omega (arith, w.0, ap (length {A = ℕ}) w.1);
    } in
    record { index = es; is_index = is_index; members = subst (λ bs. AreMembers bs es ms) (sym w.1) (all_there front at ms os refl) }
