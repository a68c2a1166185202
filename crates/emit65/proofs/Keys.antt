-- Distinct keys, in the order of their first occurrence.
use Rattle.ast65.proofs.Lists.{drop_item as at_first}
use Rattle.std.proofs.lemmas.Grind.{common_steps}
use Rattle.std.proofs.Common.{◌≡◌, ◌∙◌, ℕ, ◌+◌, ◌<◌, List, [], ◌∷◌, ◌++◌, drop, length, get_or, map, position, nat_eq, refl, arith, add-one}
use Rattle.std.specs.List.{list_any, flat_map}
use Rattle.std.specs.Str.{bytes_eq}
use Rattle.std.specs.Prelude.{if◌then◌else◌}
use Rattle.std.specs.Global.{Vec}
use Rattle.std.proofs.lemmas.Cmp.{nat_list_eq_equiv}
use Rattle.indexmap.specs.IndexSet.{IndexSet}
use Rattle.ast65.proofs.Lists.{position_mapped}
use Rattle.syntax65.specs.declared.source_location.SourceLocation.{SourceLocation}
use Rattle.semantics65.specs.declared.contents.Declaration as said
use Rattle.semantics65.specs.Numbering.{content_imports, key_of, distinct_keys, declaration_imports}
use Rattle.semantics65.specs.Views.{declaration_at}
use Rattle.emit65.specs.declared.entries.SectionEntry.{SectionEntry}
use Rattle.emit65.specs.SectionContents.{content_of, names_of}

pub once_append : (ks found ls : List ℕ) → distinct_keys (distinct_keys found ks) ls ≡ distinct_keys found (ks ++ ls)
once_append [] found ls = refl
once_append (k ∷ ks) found ls = once_append ks (if list_any (nat_eq k) found then found else found ++ k ∷ []) ls

pub drop_item : {A : Type 0} (xs : List A) (i : ℕ) (x : A) → i < length xs → x ≡ get_or xs i x → drop i xs ≡ x ∷ drop (i + 1) xs
drop_item xs i x lt e = rw add-one (at_first xs i x lt e)

-- a step of the loop: after the keys of an item are appended, those of the rest remain
pub once_step : {A : Type 0} (f : A → List ℕ) (xs : List A) (i : ℕ) (x : A) (old all : List ℕ) → i < length xs → x ≡ get_or xs i x → distinct_keys old (flat_map f (drop i xs)) ≡ all → distinct_keys (distinct_keys old (f x)) (flat_map f (drop (i + 1) xs)) ≡ all
once_step f xs i x old all lt at inv = grind (arith, common_steps, once_append, drop_item)

-- ---- Keys by name.

-- the key of a name is its position in the set of imports
pub key_found : {S : Type 0} (imports : IndexSet (Vec ℕ) S) (name : List ℕ) → key_of (names_of imports) name ≡ position (λ k. bytes_eq name k.items) imports.keys
key_found imports name = position_mapped (λ m. bytes_eq m name) (λ k. k.items) imports.keys ∙ (λ i. position (λ k. nat_list_eq_equiv.symm k.items name i) imports.keys)

-- ---- Imports don't depend on locations.

pub said_anywhere : (names : List (List ℕ)) (p q : SourceLocation) (x : said.Declaration) → declaration_imports names (declaration_at p x) ≡ declaration_imports names (declaration_at q x)
said_anywhere names p q x = grind (arith, common_steps)

-- the imports of entries don't depend on the files
pub imports_anyhow : (names files more : List (List ℕ)) (es : List SectionEntry) → flat_map (content_imports names) (map (content_of files) es) ≡ flat_map (content_imports names) (map (content_of more) es)
imports_anyhow names files more [] = refl
imports_anyhow names files more (x ∷ es) = grind (arith, common_steps, (imports_anyhow names files more es), said_anywhere)
