-- The statements of all modules in a segment, as one list, and their positions in it.
use Rattle.std.specs.Prelude.{ℕ, suc, ◌+◌, max, Bool, ◌==◌, ◌&&◌, false, List, [], ◌∷◌, ◌++◌, map, filter, length, if◌then◌else◌}
use Rattle.std.specs.List.{flat_map, list_any}
use Rattle.std.specs.Str.{bytes_eq}
use Rattle.std.specs.Int.{next_multiple_of}
use Rattle.script65.specs.declared.placement.SegmentNeed.{SegmentNeed}
use Rattle.semantics65.specs.Symbols.{LaidOutStatement, needs_section, symbols_of, with_new_names}
use Rattle.ast65.specs.declared.language.Statement.{Statement}
use Rattle.ast65.specs.declared.language.Statement.TheVariants.{Align}
use Rattle.semantics65.specs.Layout.{Layout, statement_alignment, segment_at}

-- a statement, the index of its module, and its index in the module
pub record ModuleStatement : Type 0 where
  pub owner : ℕ
  pub index : ℕ
  -- the operand of an `.align`; 1 for other statements
  pub alignment : ℕ
  pub laid : LaidOutStatement

-- an item in the list of a segment
pub data SegmentItem : Type 0 where
  -- before a module's statements: the position is rounded up to a multiple
  rounding : ℕ → SegmentItem
  statement_item : ModuleStatement → SegmentItem

-- ---- The list of a segment.

abbrev pub segment_name_at : Layout → ℕ → List ℕ
segment_name_at y g = (segment_at y.cursor.segments g).name

-- a statement of a module, given the statements before it
abbrev pub module_statement : ℕ → List LaidOutStatement → LaidOutStatement → ModuleStatement
module_statement owner before l = record {
  owner = owner;
  index = length before;
  alignment = statement_alignment (symbols_of before) l.context l.stated;
  laid = l;
}

-- statements of a module, given the statements before them
abbrev pub module_statements_after : ℕ → List LaidOutStatement → List LaidOutStatement → List ModuleStatement
module_statements_after owner before [] = []
module_statements_after owner before (l ∷ ls) = module_statement owner before l ∷ module_statements_after owner (before ++ l ∷ []) ls

-- whether a statement of a module is in the segment of a name
abbrev pub is_in_segment : Layout → List ℕ → LaidOutStatement → Bool
is_in_segment y name l = bytes_eq (segment_name_at y l.context.segment) name

-- the statements of a module in the segment of a name
abbrev pub statements_in_segment : ℕ → Layout → List ℕ → List ModuleStatement
statements_in_segment owner y name = filter (λ x. is_in_segment y name x.laid) (module_statements_after owner [] y.laid)

-- whether the module has a section of this name: one of its statements there requests it
abbrev pub has_section : Layout → List ℕ → Bool
has_section y name = list_any (λ l. is_in_segment y name l && needs_section l.stated) y.laid

-- the largest multiple to which statements are aligned
abbrev pub largest_multiple : List ModuleStatement → ℕ
largest_multiple [] = 1
largest_multiple (x ∷ xs) = max x.alignment (largest_multiple xs)

-- a module's part of the list: a rounding item to its section's alignment, and then its statements
abbrev pub module_items : ℕ → Layout → List ℕ → List SegmentItem
module_items owner y name =
    if has_section y name then rounding (largest_multiple (statements_in_segment owner y name)) ∷ map statement_item (statements_in_segment owner y name) else []

-- the list of a segment, of these modules; the first module has the index `owner`
abbrev pub segment_items_from : ℕ → List Layout → List ℕ → List SegmentItem
segment_items_from owner [] name = []
segment_items_from owner (y ∷ ys) name = module_items owner y name ++ segment_items_from (suc owner) ys name

abbrev pub segment_items : List Layout → List ℕ → List SegmentItem
segment_items ys name = segment_items_from 0 ys name

-- ---- Positions.

-- the position after a statement that begins at a position
abbrev pub statement_end : ℕ → ℕ → LaidOutStatement → ℕ
statement_end position alignment l = go l.stated
  where
    go : Statement → ℕ
    go (Align n v) = next_multiple_of position alignment
    go _ = position + l.length

-- the position after an item that begins at a position
abbrev pub end_after : ℕ → SegmentItem → ℕ
end_after position (rounding alignment) = next_multiple_of position alignment
end_after position (statement_item x) = statement_end position x.alignment x.laid

-- the position after items, the first of which begins at a position
abbrev pub end_of : ℕ → List SegmentItem → ℕ
end_of position [] = position
end_of position (x ∷ xs) = end_of (end_after position x) xs

-- whether an item is the statement with this index in the module `owner`
abbrev pub is_statement : ℕ → ℕ → SegmentItem → Bool
is_statement owner index (rounding alignment) = false
is_statement owner index (statement_item x) = x.owner == owner && x.index == index

-- the items before the statement with this index in the module `owner`
abbrev pub preceding_items : ℕ → ℕ → List SegmentItem → List SegmentItem
preceding_items owner index [] = []
preceding_items owner index (x ∷ xs) = if is_statement owner index x then [] else x ∷ preceding_items owner index xs

-- the position of a statement in the list of a segment
abbrev pub position_of : List Layout → List ℕ → ℕ → ℕ → ℕ
position_of ys name owner index = end_of 0 (preceding_items owner index (segment_items ys name))

-- ---- The sizes and alignments of segments.

-- the segment of each statement of a module that requests a section, in source order, with repetitions
abbrev pub requested_segments : Layout → List (List ℕ)
requested_segments y = map (λ l. segment_name_at y l.context.segment) (filter (λ l. needs_section l.stated) y.laid)

-- the segments in which one of these modules requests a section, each once, in the order of the first requests
abbrev pub segments_of : List Layout → List (List ℕ)
segments_of ys = with_new_names [] (flat_map requested_segments ys)

abbrev pub item_multiple : SegmentItem → ℕ
item_multiple (rounding alignment) = alignment
item_multiple (statement_item x) = x.alignment

abbrev pub alignment_of : List SegmentItem → ℕ
alignment_of [] = 1
alignment_of (x ∷ xs) = max (item_multiple x) (alignment_of xs)

-- the input of placement: a segment's size and alignment
abbrev pub need_of : List Layout → List ℕ → SegmentNeed
need_of ys name = record { name = name; size = end_of 0 (segment_items ys name); align = alignment_of (segment_items ys name) }

abbrev pub needs_of : List Layout → List SegmentNeed
needs_of ys = map (need_of ys) (segments_of ys)
