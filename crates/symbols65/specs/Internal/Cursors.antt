-- The cursor's fields in memory.
use Rattle.std.specs.Prelude.{◌≡◌, ◌<◌, ◌≤◌, List, length, map, reverse}
use Rattle.std.specs.List.{AllByRecursion}
use Rattle.object65.specs.Objects.{section_limit}
use Rattle.semantics65.specs.Layout as layout
use Rattle.semantics65.specs.declared.contents.Segment.{Segment}
use Rattle.symbols65.specs.declared.cursor.Cursor.TheInside.{Inside}

-- saved segments are stored with the last one at the end
abbrev pub cursor_of : Inside → layout.Cursor
cursor_of w = record {
  scope = w.scope;
  opened = w.opened;
  region = w.region;
  unnamed = w.unnamed;
  segments = w.segments.items;
  current = w.current;
  pushed_segments = reverse w.pushed_segments.items;
}

-- no section is above the size limit
abbrev pub HaveBoundedSizes : List Segment → Type 0
HaveBoundedSizes gs = AllByRecursion (λ g. g.end ≤ section_limit) gs

-- The current and the saved segments exist, no section is above the size limit, and names are in the order of
-- the segments.
pub record IsWellFormedCursor (w : Inside) : Type 0 where
  pub current : w.current < length w.segments.items
  pub ends : HaveBoundedSizes w.segments.items
  pub names : map (λ k. k.items) w.names.keys ≡ map (λ g. g.name) w.segments.items
  pub pushed_segments : AllByRecursion (λ k. k < length w.segments.items) w.pushed_segments.items
