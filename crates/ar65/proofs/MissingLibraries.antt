-- Parsing a library's bytes never returns `FileNotFound`, so a library that isn't found has no bytes and is created empty.
use Rattle.std.proofs.Common.{◌≡◌, ℕ, zero, suc, ◌+◌, ◌++◌, ◌&&◌, ◌||◌, not, nat_lt, Bool, true, false, cond, List, [], ◌∷◌, length, map, take, drop, get_or, Option, Some, None, Result, Ok, Err, refl, sym, ap, ◌∙◌}
use Rattle.std.specs.Prelude.{IfSome}
use Rattle.std.specs.FinMap.{get}
use Rattle.std.specs.Str.{bytes_eq}
use Rattle.base65.specs.Outcome.{◌>>=◌, RefinesErr}
use Rattle.base65.specs.Store.{Files, IsBytes}
use Rattle.object65.specs.declared.fault.ObjectFault.{ObjectFault}
use Rattle.object65.specs.declared.object.Object.{Object}
use Rattle.object65.specs.Reading.{file_limit, object_at}
use Rattle.library65.specs.declared.index.Entry.{Entry}
use Rattle.library65.specs.declared.index.UnplacedEntry.{UnplacedEntry}
use Rattle.library65.specs.declared.fault.LibraryFault.{LibraryFault}
use Rattle.library65.specs.declared.fault.LibraryFault.TheVariants.{FileNotFound, BadIndex, BadMemberName, CutShort, IndexDisagrees, NotALibrary}
use Rattle.library65.specs.Fault.{is_system_error}
use Rattle.library65.specs.Libraries.{indexed_contents, has_index_names, as_member, member_contents, contents_in, with_library_entry, with_library_entries, library_at, object_in, member_bytes_at}
use Rattle.library65.specs.Spelling.{is_among, is_member_name, is_name, Member, library_head}
use Rattle.library65.specs.Reading.{count_at, counted_names_at, end_at, entry_at, field_at, head_at, in_file, index_at, member_entries_at, unplaced_entry_at, unplaced_entries_at, member_name_at, name_at, number_at, members_with_offsets, symbol_at, symbols_at}
use Rattle.ar65.specs.Librarian.{library_or_empty}

abbrev is_missing : LibraryFault → Bool
is_missing FileNotFound = true
is_missing _ = false

-- whether a result is the error `FileNotFound`
abbrev Speaks : {A : Type 0} → Result A LibraryFault → Bool
Speaks (Ok x) = false
Speaks (Err e) = is_missing e

abbrev IsThere : {A : Type 0} → Result A LibraryFault → Type 0
IsThere r = Speaks r ≡ false

then : {A B : Type 0} (r : Result A LibraryFault) (f : A → Result B LibraryFault) → IsThere r → ((x : A) → IsThere (f x)) → IsThere (r >>= f)
then (Ok x) f h k = k x
then (Err e) f h k = h

one_of : {A : Type 0} (b : Bool) (r s : Result A LibraryFault) → IsThere r → IsThere s → IsThere (cond b r s)
one_of true r s h k = h
one_of false r s h k = k

field_there : (n at : ℕ) (bytes : List ℕ) → IsThere (field_at n at bytes)
field_there n at bytes =
    let found = take n (drop at bytes) in
    one_of (nat_lt file_limit (at + length found)) (Err BadIndex) _ refl (one_of (nat_lt (length found) n) (Err CutShort) (Ok found) refl refl)

number_there : (at : ℕ) (bytes : List ℕ) → IsThere (number_at at bytes)
unfolding number_at
number_there at bytes = then (field_at 4 at bytes) _ (field_there 4 at bytes) (λ f. refl)

name_there : (at : ℕ) (bytes : List ℕ) → IsThere (name_at at bytes)
unfolding name_at
name_there at bytes =
    then (field_at 1 at bytes) _ (field_there 1 at bytes) (λ len.
    then (field_at (get_or len 0 0) (at + 1) bytes) _ (field_there (get_or len 0 0) (at + 1) bytes) (λ f. refl))

symbol_there : (at : ℕ) (bytes : List ℕ) → IsThere (symbol_at at bytes)
unfolding symbol_at
symbol_there at bytes = then (name_at at bytes) _ (name_there at bytes) (λ n. one_of (is_name n.0) (Ok n) (Err BadIndex) refl refl)

symbols_there : (n : ℕ) (before : List (List ℕ)) (at : ℕ) (bytes : List ℕ) → IsThere (symbols_at n before at bytes)
symbols_there zero before at bytes = refl
symbols_there (suc n) before at bytes = then (symbol_at at bytes) _ (symbol_there at bytes) (λ s. symbols_there n (before ++ s.0 ∷ []) s.1 bytes)

counted_there : (at : ℕ) (bytes : List ℕ) → IsThere (counted_names_at at bytes)
unfolding counted_names_at
counted_there at bytes = then (number_at at bytes) _ (number_there at bytes) (λ n. symbols_there n [] (at + 4) bytes)

member_name_there : (names : List (List ℕ)) (at : ℕ) (bytes : List ℕ) → IsThere (member_name_at names at bytes)
unfolding member_name_at
member_name_there names at bytes =
    then (name_at at bytes) _ (name_there at bytes) (λ n. one_of (is_member_name n.0 && not (is_among names n.0)) (Ok n) (Err BadIndex) refl refl)

listing_there : (names : List (List ℕ)) (at : ℕ) (bytes : List ℕ) → IsThere (unplaced_entry_at names at bytes)
unfolding unplaced_entry_at
listing_there names at bytes =
    then (member_name_at names at bytes) _ (member_name_there names at bytes) (λ n.
    then (number_at n.1 bytes) _ (number_there n.1 bytes) (λ size.
    then (counted_names_at (n.1 + 4) bytes) _ (counted_there (n.1 + 4) bytes) (λ e.
    then (counted_names_at e.1 bytes) _ (counted_there e.1 bytes) (λ i. refl))))

listings_there : (n : ℕ) (before : List UnplacedEntry) (at : ℕ) (bytes : List ℕ) → IsThere (unplaced_entries_at n before at bytes)
listings_there zero before at bytes = refl
listings_there (suc n) before at bytes =
    then (unplaced_entry_at (map (λ m. m.name) before) at bytes) _ (listing_there (map (λ m. m.name) before) at bytes) (λ m. listings_there n (before ++ m.0 ∷ []) m.1 bytes)

placed_there : (before : List Entry) (at : ℕ) (ms : List UnplacedEntry) → IsThere (members_with_offsets before at ms)
placed_there before at [] = refl
placed_there before at (m ∷ ms) = one_of (nat_lt file_limit (at + m.size)) (Err BadIndex) _ refl (placed_there (before ++ entry_at at m ∷ []) (at + m.size) ms)

end_there : (end : ℕ) (bytes : List ℕ) → IsThere (end_at end bytes)
end_there end bytes = one_of (nat_lt (length bytes) end) (Err CutShort) _ refl (one_of (nat_lt end (length bytes)) (Err BadIndex) (Ok tt) refl refl)

head_there : (bytes : List ℕ) → IsThere (head_at bytes)
head_there bytes = one_of (nat_lt (length (take 5 bytes)) 5 || not (bytes_eq (take 5 bytes) library_head)) (Err NotALibrary) (Ok tt) refl refl

list_there : (bytes : List ℕ) → IsThere (member_entries_at bytes)
unfolding member_entries_at
list_there bytes =
    then (count_at bytes) _ (then (head_at bytes) _ (head_there bytes) (λ u. number_there 5 bytes)) (λ n. listings_there n [] 9 bytes)

index_there : (bytes : List ℕ) → IsThere (index_at bytes)
unfolding index_at
index_there bytes =
    then (member_entries_at bytes) _ (list_there bytes) (λ l.
    then (members_with_offsets [] l.1 l.0) _ (placed_there [] l.1 l.0) (λ es.
    then (end_at es.1 bytes) _ (end_there es.1 bytes) (λ u. refl)))

object_there : (bytes : List ℕ) → IsThere (object_in bytes)
object_there bytes = go (object_at 0 (length bytes) bytes) where
  go : (r : Result Object ObjectFault) → IsThere (as_member r)
  go (Ok o) = refl
  go (Err e) = refl

checked_there : (name bytes : List ℕ) → IsThere (member_contents name bytes)
unfolding member_contents contents_in
checked_there name bytes = one_of (is_member_name name) _ (Err BadMemberName) (then (object_in bytes) _ (object_there bytes) (λ o. refl)) refl

agreed_there : (e : Entry) (bytes : List ℕ) → IsThere (indexed_contents e bytes)
unfolding indexed_contents
agreed_there e bytes = then (member_contents e.name bytes) _ (checked_there e.name bytes) (λ c. one_of (has_index_names e c) (Ok c) (Err IndexDisagrees) refl refl)

joined_there : (before : List Member) (e : Entry) (bytes : List ℕ) → IsThere (with_library_entry before e bytes)
unfolding with_library_entry
joined_there before e bytes =
    let piece = take e.size (drop e.place bytes) in
    then (member_bytes_at e.size e.place bytes) _ (one_of (nat_lt (length piece) e.size) (Err CutShort) (Ok piece) refl refl) (λ found.
    then (indexed_contents e found) _ (agreed_there e found) (λ c. refl))

all_there : (before : List Member) (es : List Entry) (bytes : List ℕ) → IsThere (with_library_entries before es bytes)
all_there before [] bytes = refl
all_there before (e ∷ es) bytes = then (with_library_entry before e bytes) _ (joined_there before e bytes) (λ ms. all_there ms es bytes)

library_there : (bytes : List ℕ) → IsThere (library_at bytes)
unfolding library_at
library_there bytes = then (index_at bytes) _ (index_there bytes) (λ es. all_there [] es bytes)

no_such : (bytes : List ℕ) → library_at bytes ≡ Err FileNotFound → ⊥
no_such bytes e = let bad : Speaks {A = List Member} (Err FileNotFound) ≡ false = rw e at (library_there bytes) in absurd cc

-- if the library isn't found, it is created empty
pub begun_anew : (file : Option (List ℕ)) → in_file file library_at ≡ Err FileNotFound → library_or_empty file ≡ Ok []
begun_anew None e = refl
begun_anew (Some bytes) e = absurd (no_such bytes e)

pub begun_empty : (known : Option Files) (name : List ℕ) (new : List Member) (e : LibraryFault) → new ≡ [] → e ≡ FileNotFound → IfSome known (λ m. RefinesErr is_system_error e (in_file (get m name) library_at)) → IfSome known (λ m. library_or_empty (get m name) ≡ Ok new)
begun_empty None name new e none is h = tt
begun_empty (Some m) name new e none is h = begun_anew (get m name) (rw is at h) ∙ ap (λ ms. Ok ms) (sym none)

missing : (file : Option (List ℕ)) → in_file file library_at ≡ Err FileNotFound → IfSome file IsBytes
missing None e = tt
missing (Some bytes) e = absurd (no_such bytes e)

-- a file that isn't found has no invalid bytes
pub missing_bytes : (known : Option Files) (name : List ℕ) (e : LibraryFault) → e ≡ FileNotFound → IfSome known (λ m. RefinesErr is_system_error e (in_file (get m name) library_at)) → IfSome known (λ m. IfSome (get m name) IsBytes)
missing_bytes None name e is h = tt
missing_bytes (Some m) name e is h = missing (get m name) (rw is at h)
