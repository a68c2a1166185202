-- Reading any bytes as an index or a library, and any edit, succeeds or returns an error that isn't a system error.
use Rattle.std.proofs.Common.{◌+◌, ◌++◌, ℕ, zero, suc, List, [], ◌∷◌, map, get_or, Result, Ok, Err, refl}
use Rattle.base65.proofs.SystemErrors.{Own, bad, choice, good, next}
use Rattle.object65.specs.declared.fault.ObjectFault.{ObjectFault}
use Rattle.object65.specs.declared.object.Object.{Object}
use Rattle.library65.specs.declared.index.Entry.{Entry}
use Rattle.library65.specs.declared.index.UnplacedEntry.{UnplacedEntry}
use Rattle.library65.specs.Fault.{is_system_error}
use Rattle.library65.specs.Laws.{EditExists, IndexExists, LibraryExists}
use Rattle.library65.specs.Libraries.{indexed_contents, as_member, member_contents, contents_in, without_named_member, with_library_entry, with_library_entries, library_at, object_in, member_bytes_at, with_new_member, bytes_within_limit}
use Rattle.library65.specs.Reading.{count_at, counted_names_at, end_at, entry_at, field_at, head_at, index_at, member_entries_at, unplaced_entry_at, unplaced_entries_at, member_name_at, name_at, number_at, members_with_offsets, symbol_at, symbols_at}
use Rattle.library65.specs.Spelling.{Member}

-- ---- An index.

field_own : (n at : ℕ) (bytes : List ℕ) → Own is_system_error (field_at n at bytes)
field_own n at bytes = search (choice, bad, good)

number_own : (at : ℕ) (bytes : List ℕ) → Own is_system_error (number_at at bytes)
unfolding number_at
number_own at bytes = next (field_at 4 at bytes) _ (field_own 4 at bytes) (λ x. good _)

name_own : (at : ℕ) (bytes : List ℕ) → Own is_system_error (name_at at bytes)
unfolding name_at
name_own at bytes =
    next (field_at 1 at bytes) _ (field_own 1 at bytes) (λ len.
    next (field_at (get_or len 0 0) (at + 1) bytes) _ (field_own (get_or len 0 0) (at + 1) bytes) (λ x. good _))

symbol_own : (at : ℕ) (bytes : List ℕ) → Own is_system_error (symbol_at at bytes)
unfolding symbol_at
symbol_own at bytes = next (name_at at bytes) _ (name_own at bytes) (λ name. choice _ _ _ (good _) (bad _ refl))

symbols_own : (n : ℕ) (before : List (List ℕ)) (at : ℕ) (bytes : List ℕ) → Own is_system_error (symbols_at n before at bytes)
symbols_own zero before at bytes = good _
symbols_own (suc n) before at bytes = next (symbol_at at bytes) _ (symbol_own at bytes) (λ s. symbols_own n (before ++ s.0 ∷ []) s.1 bytes)

counted_own : (at : ℕ) (bytes : List ℕ) → Own is_system_error (counted_names_at at bytes)
unfolding counted_names_at
counted_own at bytes = next (number_at at bytes) _ (number_own at bytes) (λ count. symbols_own count [] (at + 4) bytes)

member_own : (names : List (List ℕ)) (at : ℕ) (bytes : List ℕ) → Own is_system_error (member_name_at names at bytes)
unfolding member_name_at
member_own names at bytes = next (name_at at bytes) _ (name_own at bytes) (λ name. choice _ _ _ (good _) (bad _ refl))

listing_own : (names : List (List ℕ)) (at : ℕ) (bytes : List ℕ) → Own is_system_error (unplaced_entry_at names at bytes)
unfolding unplaced_entry_at
listing_own names at bytes =
    next (member_name_at names at bytes) _ (member_own names at bytes) (λ name.
    next (number_at name.1 bytes) _ (number_own name.1 bytes) (λ size.
    next (counted_names_at (name.1 + 4) bytes) _ (counted_own (name.1 + 4) bytes) (λ exports.
    next (counted_names_at exports.1 bytes) _ (counted_own exports.1 bytes) (λ imports. good _))))

listings_own : (n : ℕ) (before : List UnplacedEntry) (at : ℕ) (bytes : List ℕ) → Own is_system_error (unplaced_entries_at n before at bytes)
listings_own zero before at bytes = good _
listings_own (suc n) before at bytes =
    next (unplaced_entry_at (map (λ m. m.name) before) at bytes) _ (listing_own (map (λ m. m.name) before) at bytes) (λ m. listings_own n (before ++ m.0 ∷ []) m.1 bytes)

placed_own : (before : List Entry) (at : ℕ) (ms : List UnplacedEntry) → Own is_system_error (members_with_offsets before at ms)
placed_own before at [] = good _
placed_own before at (m ∷ ms) = choice _ _ _ (bad _ refl) (placed_own (before ++ entry_at at m ∷ []) (at + m.size) ms)

count_own : (bytes : List ℕ) → Own is_system_error (count_at bytes)
count_own bytes = next (head_at bytes) _ (choice _ _ _ (bad _ refl) (good _)) (λ u. number_own 5 bytes)

list_own : (bytes : List ℕ) → Own is_system_error (member_entries_at bytes)
unfolding member_entries_at
list_own bytes = next (count_at bytes) _ (count_own bytes) (λ count. listings_own count [] 9 bytes)

end_own : (end : ℕ) (bytes : List ℕ) → Own is_system_error (end_at end bytes)
end_own end bytes = search (choice, bad, good)

pub index_own : (bytes : List ℕ) → Own is_system_error (index_at bytes)
unfolding index_at
index_own bytes =
    next (member_entries_at bytes) _ (list_own bytes) (λ listed.
    next (members_with_offsets [] listed.1 listed.0) _ (placed_own [] listed.1 listed.0) (λ entries.
    next (end_at entries.1 bytes) _ (end_own entries.1 bytes) (λ u. good _)))

-- ---- A library, and its edits.

as_member_own : (r : Result Object ObjectFault) → Own is_system_error (as_member r)
as_member_own (Ok o) = good o
as_member_own (Err e) = bad _ refl

contents_own : (bytes : List ℕ) → Own is_system_error (contents_in bytes)
unfolding contents_in
contents_own bytes = next (object_in bytes) _ (as_member_own _) (λ o. good _)

checked_own : (name bytes : List ℕ) → Own is_system_error (member_contents name bytes)
unfolding member_contents
checked_own name bytes = choice _ _ _ (contents_own bytes) (bad _ refl)

agreed_own : (e : Entry) (found : List ℕ) → Own is_system_error (indexed_contents e found)
unfolding indexed_contents
agreed_own e found = next (member_contents e.name found) _ (checked_own e.name found) (λ contents. choice _ _ _ (good _) (bad _ refl))

joined_own : (before : List Member) (e : Entry) (bytes : List ℕ) → Own is_system_error (with_library_entry before e bytes)
unfolding with_library_entry
joined_own before e bytes =
    next (member_bytes_at e.size e.place bytes) _ (choice _ _ _ (bad _ refl) (good _)) (λ found.
    next (indexed_contents e found) _ (agreed_own e found) (λ c. good _))

joined_all_own : (before : List Member) (es : List Entry) (bytes : List ℕ) → Own is_system_error (with_library_entries before es bytes)
joined_all_own before [] bytes = good _
joined_all_own before (e ∷ es) bytes = next (with_library_entry before e bytes) _ (joined_own before e bytes) (λ ms. joined_all_own ms es bytes)

pub library_own : (bytes : List ℕ) → Own is_system_error (library_at bytes)
unfolding library_at
library_own bytes = next (index_at bytes) _ (index_own bytes) (λ es. joined_all_own [] es bytes)

pub replaced_own : (ms : List Member) (name bytes : List ℕ) → Own is_system_error (with_new_member ms name bytes)
unfolding with_new_member
replaced_own ms name bytes = next (member_contents name bytes) _ (checked_own name bytes) (λ contents. good _)

pub deleted_own : (ms : List Member) (name : List ℕ) → Own is_system_error (without_named_member ms name)
deleted_own ms name = choice _ _ _ (good _) (bad _ refl)

pub written_own : (ms : List Member) → Own is_system_error (bytes_within_limit ms)
written_own ms = choice _ _ _ (bad _ refl) (good _)

-- ---- The laws.

pub some_index : IndexExists
some_index bytes = (index_own bytes).own

pub some_library : LibraryExists
some_library bytes = (library_own bytes).own

pub some_edit : EditExists
some_edit = record {
  replaced = λ ms name bytes. (replaced_own ms name bytes).own;
  deleted = λ ms name. (deleted_own ms name).own;
  written = λ before ms. (next (bytes_within_limit ms) (λ bytes. Ok (before ++ bytes)) (written_own ms) (λ bytes. good _)).own;
}
