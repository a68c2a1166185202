-- The librarian writes only valid libraries.
use Rattle.std.proofs.Common.{◌≡◌, ◌∙◌, ℕ, ◌+◌, List, [], ◌∷◌, Option, Some, None, Result, Ok, Err, refl, ap, subst}
use Rattle.std.specs.Prelude.{IfSome}
use Rattle.std.specs.FinMap.{get}
use Rattle.base65.specs.Outcome.{◌>>=◌}
use Rattle.base65.specs.Store.{Files}
use Rattle.object65.specs.Record.{IsBytes}
use Rattle.library65.specs.declared.fault.LibraryFault.{LibraryFault}
use Rattle.library65.specs.Libraries.{without_named_member, library_at, with_new_member, bytes_within_limit}
use Rattle.library65.specs.Reading.{in_file}
use Rattle.library65.specs.Spelling.{IsLibrary, IsMemberList, Member}
use Rattle.library65.proofs.WrittenLibraries.{written_is}
use Rattle.library65.proofs.LoadedLibraries.{library_taken, stock_law}
use Rattle.cli65.specs.declared.line.Operation.{Operation}
use Rattle.cli65.specs.declared.line.Operation.TheVariants as operation
use Rattle.cli65.specs.Line.{ArchiveView}
use Rattle.ar65.specs.declared.archiving.ArchiveResult.TheVariants as archived
use Rattle.ar65.specs.Laws.{HaveBytes, EditsPreserveLibrary, files_read}
use Rattle.ar65.specs.Librarian.{as_file, as_library, library_or_empty, delete_result, operation_result, extracted_files, extract_result, list_result, member_name, members_in, replace_result, rewritten_library, with_file, with_files, without_files}

bound : {E A B : Type 0} (r : Result A E) (f : A → Result B E) (y : B) → (r >>= f) ≡ Ok y → (x : A) × (r ≡ Ok x) × (f x ≡ Ok y)
bound (Ok x) f y e = (x, refl, e)
bound (Err g) f y e = absurd cc

of_library : {A : Type 0} (r : Result A LibraryFault) (x : A) → as_library r ≡ Ok x → r ≡ Ok x
of_library (Ok y) x e = let same : y ≡ x = cc in ap (λ z. Ok z) same
of_library (Err f) x e = absurd cc

of_file : {A : Type 0} (k : ℕ) (r : Result A LibraryFault) (x : A) → as_file k r ≡ Ok x → r ≡ Ok x
of_file k (Ok y) x e = let same : y ≡ x = cc in ap (λ z. Ok z) same
of_file k (Err f) x e = absurd cc

-- ---- The members form a valid library after every operation.

read_stock : (file : Option (List ℕ)) (ms : List Member) → IfSome file IsBytes → in_file file library_at ≡ Ok ms → IsMemberList ms
read_stock None ms is e = absurd cc
read_stock (Some bytes) ms is e = stock_law.loaded bytes ms (library_taken bytes ms is e)

begun_stock : (file : Option (List ℕ)) (ms : List Member) → IfSome file IsBytes → library_or_empty file ≡ Ok ms → IsMemberList ms
begun_stock None ms is e = let same : [] ≡ ms = cc in subst IsMemberList same stock_law.none
begun_stock (Some bytes) ms is e = read_stock (Some bytes) ms is e

put_stock : (file : Option (List ℕ)) (name : List ℕ) (ms ns : List Member) → IfSome file IsBytes → IsMemberList ms → in_file file (with_new_member ms name) ≡ Ok ns → IsMemberList ns
put_stock None name ms ns is stock e = absurd cc
put_stock (Some bytes) name ms ns is stock e = stock_law.replaced ms ns name bytes is stock e

with_stock : (m : Files) (ms ns : List Member) (k : ℕ) (files : List (List ℕ)) → HaveBytes m files → IsMemberList ms → with_files m ms k files ≡ Ok ns → IsMemberList ns
with_stock m ms ns k [] hold stock e = let same : ms ≡ ns = cc in subst IsMemberList same stock
with_stock m ms ns k (file ∷ files) hold stock e =
    let one = bound (as_file k (with_file m ms file)) _ _ e in
    let put = of_file k (with_file m ms file) one.0 one.1 in
    with_stock m one.0 ns (k + 1) files hold.1 (put_stock (get m file) (member_name file) ms one.0 hold.0 stock put) one.2

without_stock : (ms ns : List Member) (files : List (List ℕ)) → IsMemberList ms → without_files ms files ≡ Ok ns → IsMemberList ns
without_stock ms ns [] stock e = let same : ms ≡ ns = cc in subst IsMemberList same stock
without_stock ms ns (file ∷ files) stock e =
    let one = bound (without_named_member ms (member_name file)) _ _ e in
    without_stock one.0 ns files (stock_law.deleted ms one.0 (member_name file) stock one.1) one.2

-- ---- The bytes that are written are a valid library.

written_anew : (ns : List Member) (bytes : List ℕ) → IsMemberList ns → as_library (rewritten_library ns) ≡ Ok (archived.Library bytes) → (ms : List Member) × IsLibrary bytes ms
written_anew ns bytes stock e =
    let made = bound (bytes_within_limit ns) _ _ (of_library (rewritten_library ns) (archived.Library bytes) e) in
    let same : made.0 ≡ bytes = cc (made.2) in
    (ns, written_is ns bytes stock (made.1 ∙ ap (λ b. Ok b) same))

by_replacing : (m : Files) (a : ArchiveView) (bytes : List ℕ) → HaveBytes m (a.library ∷ a.files) → replace_result m a ≡ Ok (archived.Library bytes) → (ms : List Member) × IsLibrary bytes ms
unfolding replace_result
by_replacing m a bytes hold e =
    let old = bound (as_library (library_or_empty (get m a.library))) _ _ e in
    let new = bound (with_files m old.0 0 a.files) _ _ old.2 in
    let first = begun_stock (get m a.library) old.0 hold.0 (of_library (library_or_empty (get m a.library)) old.0 old.1) in
    written_anew new.0 bytes (with_stock m old.0 new.0 0 a.files hold.1 first new.1) new.2

by_deleting : (m : Files) (a : ArchiveView) (bytes : List ℕ) → IfSome (get m a.library) IsBytes → delete_result m a ≡ Ok (archived.Library bytes) → (ms : List Member) × IsLibrary bytes ms
unfolding delete_result
by_deleting m a bytes hold e =
    let old = bound (as_library (members_in m a.library)) _ _ e in
    let new = bound (as_library (without_files old.0 a.files)) _ _ old.2 in
    let first = read_stock (get m a.library) old.0 hold (of_library (members_in m a.library) old.0 old.1) in
    written_anew new.0 bytes (without_stock old.0 new.0 a.files first (of_library (without_files old.0 a.files) new.0 new.1)) new.2

not_listed : (m : Files) (a : ArchiveView) (bytes : List ℕ) → list_result m a ≡ Ok (archived.Library bytes) → ⊥
unfolding list_result
not_listed m a bytes e = let old = bound (as_library (members_in m a.library)) _ _ e in cc (old.2)

not_extracted : (m : Files) (a : ArchiveView) (bytes : List ℕ) → extract_result m a ≡ Ok (archived.Library bytes) → ⊥
unfolding extract_result
not_extracted m a bytes e =
    let old = bound (as_library (members_in m a.library)) _ _ e in
    let files = bound (as_library (extracted_files old.0 a.files)) _ _ old.2 in
    cc (files.2)

by_operation : (op : Operation) (m : Files) (a : ArchiveView) (bytes : List ℕ) → HaveBytes m (a.library ∷ files_read op a.files) → operation_result op m a ≡ Ok (archived.Library bytes) → (ms : List Member) × IsLibrary bytes ms
by_operation operation.Replace m a bytes hold e = by_replacing m a bytes hold e
by_operation operation.Delete m a bytes hold e = by_deleting m a bytes hold.0 e
by_operation operation.List m a bytes hold e = absurd (not_listed m a bytes e)
by_operation operation.Extract m a bytes hold e = absurd (not_extracted m a bytes e)

pub kept_library : EditsPreserveLibrary
kept_library m a bytes hold e = by_operation a.operation m a bytes hold e
