-- The positions at which sections of modules begin in their segments, and the premises of laws about offsets.
use Rattle.std.specs.Prelude.{◌≡◌, ◌<◌, ℕ, zero, suc, ◌*◌, ◌^◌, List, [], ◌∷◌, filter, nat_eq, None}
use Rattle.std.specs.Int.{next_multiple_of}
use Rattle.std.specs.List.{AllByRecursion}
use Rattle.syntax65.specs.declared.source_location.SourceLocation.{SourceLocation}
use Rattle.ast65.specs.declared.language.Statement.{Statement}
use Rattle.semantics65.specs.Layout.{Layout, layout_after, empty_layout, line_fault}
use Rattle.semantics65.specs.Symbols.{symbols_of}
use Rattle.whole65.specs.Segments.{ModuleStatement, end_of, largest_multiple, statements_in_segment, module_items}

pub record IsMultiple (n of : ℕ) : Type 0 where
  pub factor : ℕ
  pub product : n ≡ of * factor

-- a power of two to which a section can be aligned
pub record IsPower (n : ℕ) : Type 0 where
  pub exponent : ℕ
  pub below : exponent < 16
  pub power : n ≡ 2 ^ exponent

abbrev pub ArePowers : List ModuleStatement → Type 0
ArePowers xs = AllByRecursion (λ x. IsPower x.alignment) xs

-- Statements laid out in order, none of which has an error at its line. (`IsWellFormedLayout` of
-- semantics65 states something else: that names and sizes fit into an object, and that lengths are
-- those of the layout rules.)
pub data HasNoLineErrors : Layout → Type 0 where
  no_statement : HasNoLineErrors empty_layout
  following :
      (y : Layout) (place : SourceLocation) (x : Statement) →
      HasNoLineErrors y → line_fault (symbols_of y.laid) y.cursor x ≡ None → HasNoLineErrors (layout_after y place x)

-- the statements of a module in its segment with this index
abbrev pub statements_with_segment : ℕ → List ModuleStatement → List ModuleStatement
statements_with_segment g xs = filter (λ x. nat_eq x.laid.context.segment g) xs

-- The position at which the section of one of these modules begins: of that after the first `count`. The first module has the
-- index `owner`, and the segment ends at a position before it.
abbrev pub section_start_from : ℕ → ℕ → List Layout → List ℕ → ℕ → ℕ
section_start_from position owner [] name count = position
section_start_from position owner (y ∷ ys) name zero = next_multiple_of position (largest_multiple (statements_in_segment owner y name))
section_start_from position owner (y ∷ ys) name (suc count) = section_start_from (end_of position (module_items owner y name)) (suc owner) ys name count

-- the position at which the section of a module begins
abbrev pub section_start : List Layout → List ℕ → ℕ → ℕ
section_start ys name owner = section_start_from 0 0 ys name owner
