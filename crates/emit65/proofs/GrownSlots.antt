-- The slots that entries represent, if files or entries are added.
use Rattle.std.proofs.lemmas.Grind.{common_steps}
use Rattle.std.proofs.Common.{◌≡◌, ◌∙◌, ℕ, zero, suc, ◌<◌, ◌≤◌, true, List, [], ◌∷◌, ◌++◌, length, map, refl, ap, arith}
use Rattle.std.specs.Prelude.{nat_lt}
use Rattle.std.specs.List.{list_all}
use Rattle.std.proofs.lemmas.List.Folds.{list_all-append}
use Rattle.std.proofs.lemmas.Bool.Decides.{nat_tests}
use Rattle.semantics65.specs.Views.{location_in}
use Rattle.semantics65.specs.Numbering.{name_of}
use Rattle.emit65.specs.declared.entries.SectionEntry.{SectionEntry}
use Rattle.emit65.specs.declared.entries.SourcePos.{SourcePos}
use Rattle.emit65.specs.SectionContents.{IsPrefix, HaveFilesBelow, content_of, location_of_pos, slot_of, content_so_far, has_file_below}
use Rattle.object65.proofs.SmallParts.{and, left, right}

-- the contents so far of the slots of entries are the contents of the entries
pub contents_of_slots : (files : List (List ℕ)) (es : List SectionEntry) → map content_so_far (map (slot_of files) es) ≡ map (content_of files) es
contents_of_slots files [] = refl
contents_of_slots files (x ∷ es) = grind (arith, common_steps, (contents_of_slots files es))

-- ---- Further files.

name_grown : (files later : List (List ℕ)) (k : ℕ) → nat_lt k (length files) ≡ true → name_of (files ++ later) k ≡ name_of files k
name_grown [] later k h = let lt : k < 0 = grind (arith, nat_tests) in absurd (omega (arith, lt))
name_grown (n ∷ files) later zero h = refl
name_grown (n ∷ files) later (suc k) h = name_grown files later k (let lt : nat_lt k (length files) ≡ true = grind (arith, nat_tests) in lt)

pub place_grown : (files later : List (List ℕ)) (o : SourcePos) → nat_lt o.file (length files) ≡ true → location_of_pos (files ++ later) o ≡ location_of_pos files o
place_grown files later o h = ap (λ n. location_in n o.line) (name_grown files later o.file h)

pub slot_grown : (files later : List (List ℕ)) (e : SectionEntry) → has_file_below (length files) e ≡ true → slot_of (files ++ later) e ≡ slot_of files e
slot_grown files later x h = grind (arith, common_steps, place_grown)

pub slots_grown : (files later : List (List ℕ)) (es : List SectionEntry) → HaveFilesBelow (length files) es → map (slot_of (files ++ later)) es ≡ map (slot_of files) es
slots_grown files later [] h = refl
slots_grown files later (e ∷ es) h =
    let one = slot_grown files later e (left (has_file_below (length files) e) (list_all (has_file_below (length files)) es) h) in
    let rest = slots_grown files later es (right (has_file_below (length files) e) (list_all (has_file_below (length files)) es) h) in
    λ n. one n ∷ rest n

-- ---- Entries whose file index is below a bound.

stands_grown : (m n : ℕ) (e : SectionEntry) → m ≤ n → has_file_below m e ≡ true → has_file_below n e ≡ true
stands_grown m n x le h = grind (arith, common_steps)

pub standing_grown : (m n : ℕ) (es : List SectionEntry) → m ≤ n → HaveFilesBelow m es → HaveFilesBelow n es
standing_grown m n [] le h = refl
standing_grown m n (e ∷ es) le h = grind (arith, common_steps, (standing_grown m n es le (right (has_file_below m e) (list_all (has_file_below m) es) h)), and, stands_grown, left, right)

pub standing_more : (n : ℕ) (es : List SectionEntry) (e : SectionEntry) → has_file_below n e ≡ true → HaveFilesBelow n es → HaveFilesBelow n (es ++ e ∷ [])
standing_more n es e h all = list_all-append (has_file_below n) es (e ∷ []) ∙ and (list_all (has_file_below n) es) (list_all (has_file_below n) (e ∷ [])) all (and (has_file_below n e) true h refl)

-- a prefix is at most as long as the whole list
pub begins_long : (names more : List (List ℕ)) → IsPrefix names more → length names ≤ length more
begins_long names more h = grind (arith, common_steps)
