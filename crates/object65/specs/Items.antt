-- Unfinished objects, and the effect of items on them.
use Rattle.std.specs.Prelude.{ℕ, ◌+◌, List, [], ◌∷◌, ◌++◌, length, map, slice_get, slice_set, Option, Some, None, Bool, true, false, ◌==◌, if◌then◌else◌}
use Rattle.object65.specs.declared.builder.Draft.{Draft}
use Rattle.object65.specs.declared.record.Item.{Item}
use Rattle.object65.specs.declared.record.Item.TheVariants.{File, Import, Section, Part, Export, Assert, End}
use Rattle.object65.specs.declared.object.Assert as assert
use Rattle.object65.specs.declared.object.Export as export
use Rattle.object65.specs.declared.object.Fragment.{Fragment}
use Rattle.object65.specs.declared.object.Fragment.TheVariants.{Literal, Fill, Value}
use Rattle.object65.specs.declared.object.Object.{Object}
use Rattle.object65.specs.declared.object.Section as section
use Rattle.object65.specs.Objects.{fragment_len}
use Rattle.object65.specs.Small.{is_small_text}

-- an unfinished object
pub record State : Type 0 where
  pub version : ℕ
  -- the names of the files
  pub files : List (List ℕ)
  pub imports : List (List ℕ)
  pub drafts : List Draft
  -- whether there was a fragment
  pub has_fragment : Bool
  pub exports : List export.Export
  pub asserts : List assert.Assert
  pub ended : Bool
  pub failed : Bool

-- the unfinished object of this version before its first item
abbrev pub start : ℕ → State
start version = record { version = version; files = []; imports = []; drafts = []; has_fragment = false; exports = []; asserts = []; ended = false; failed = false }

-- ---- A section and its fragments.

abbrev pub is_none : {A : Type 0} → List A → Bool
is_none xs = length xs == 0

abbrev pub nonempty_literal : List ℕ → List Fragment
nonempty_literal bytes = if is_none bytes then [] else Literal bytes ∷ []

-- the fragments, followed by the unfinished literal
abbrev pub closed_fragments : Draft → List Fragment
closed_fragments d = d.fragments ++ nonempty_literal d.literal

-- the draft with one more fragment, which is no literal
abbrev pub with_fragment : Draft → ℕ → Fragment → Draft
with_fragment d len f = record d { filled = d.filled + len; fragments = closed_fragments d ++ f ∷ []; literal = [] }

-- a section with one more fragment; a literal extends the unfinished literal
abbrev pub draft_with_fragment : Draft → Fragment → Draft
draft_with_fragment d (Literal bytes) = record d { filled = d.filled + length bytes; literal = d.literal ++ bytes }
draft_with_fragment d (Fill n) = with_fragment d n (Fill n)
draft_with_fragment d (Value width origin form) = with_fragment d (fragment_len (Value width origin form)) (Value width origin form)

abbrev pub drafts_with_fragment_at : List Draft → ℕ → Fragment → Option Draft → List Draft
drafts_with_fragment_at ds k f None = ds
drafts_with_fragment_at ds k f (Some d) = slice_set ds k (draft_with_fragment d f)

-- the sections, with one more fragment in the one at this index
abbrev pub drafts_with_fragment : List Draft → ℕ → Fragment → List Draft
drafts_with_fragment ds k f = drafts_with_fragment_at ds k f (slice_get ds k)

-- a section that has no fragment yet
abbrev pub empty_draft : List ℕ → ℕ → ℕ → Draft
empty_draft name size align = record { name = name; align = align; size = size; filled = 0; fragments = []; literal = [] }

-- ---- One item, and many.

-- the unfinished object after one more item
abbrev pub with_item : State → Item → State
with_item s (File name) = record s { files = s.files ++ name ∷ [] }
with_item s (Import name) = record s { imports = s.imports ++ name ∷ [] }
with_item s (Section name size align) = record s { drafts = s.drafts ++ empty_draft name size align ∷ [] }
with_item s (Part k offset f) = record s { drafts = drafts_with_fragment s.drafts k f; has_fragment = true }
with_item s (Export name origin form) = record s { exports = s.exports ++ (record { name = name; origin = origin; form = form }) ∷ [] }
with_item s (Assert action origin text form) = record s { asserts = s.asserts ++ (record { action = action; origin = origin; text = text; form = form }) ∷ [] }
with_item s End = record s { ended = true }

-- the unfinished object after these items
abbrev pub with_items : State → List Item → State
with_items s [] = s
with_items s (i ∷ is) = with_items (with_item s i) is

-- the length of an assertion's text fits one byte
abbrev pub has_small_text : Item → Bool
has_small_text (Assert action origin text form) = is_small_text text
has_small_text _ = true

-- ---- The finished object.

abbrev pub section_from : Draft → section.Section
section_from d = record { name = d.name; align = d.align; fragments = closed_fragments d }

abbrev pub object_from : State → Object
object_from s = record { version = s.version; files = s.files; imports = s.imports; sections = map section_from s.drafts; exports = s.exports; asserts = s.asserts }
