-- The scopes and regions that statements open, the layout of a statement at its line, and the cursor after
-- it.
use Rattle.std.specs.Prelude.{◌≡◌, ℕ, ◌+◌, ◌<◌, ◌≤◌, List, length, if◌then◌else◌, ℤ, pos, negsuc, ◌&&◌, nat_le, nat_lt, not, Bool, false, ◌++◌, Option, Some, None, Result, Ok, Err}
use Rattle.semantics65.specs.Layout as layout
use Rattle.std.specs.List.{AllByRecursion}
use Rattle.std.specs.Option.{unwrap_or}
use Rattle.object65.specs.Objects.{section_limit}
use Rattle.semantics65.specs.Layout.{context_of, current_after, pushed_segments_after, opens_scope, scope_after, segments_after, statement_alignment, own_size, size_stated, defined_twice, file_limit, first_fault, is_byte_value, is_not_global, is_part, remaining_from, line_fault, missing_scopes_fault, opened_twice, operand_fault, optional_tree, or_then, layout_faults, scope_name, is_global_only, trees_of, fault_if, unless_fault}
use Rattle.ast65.specs.declared.language.Statement.{Statement}
use Rattle.ast65.specs.declared.language.Statement.TheVariants as statement
use Rattle.ast65.specs.declared.language.Statement.TheVariants.{Label, OpenProc, OpenScope, UnnamedLabel, Incbin}
use Rattle.semantics65.specs.Symbols.{enclosing, Scope, Symbols, opens_region, is_unnamed, key_defined}
use Rattle.base65.specs.Outcome.{Refines, Unless}
use Rattle.syntax65.specs.Trees.{Tree}
use Rattle.ast65.specs.declared.fault.AsmFault.{AsmFault}
use Rattle.ast65.specs.declared.fault.AsmFault.TheVariants.{BadOperand, BadPart, NotUnderstood, SectionTooLarge}
use Rattle.ast65.specs.Faults.{is_out_of_memory}
use Rattle.semantics65.specs.declared.contexts.Context.{Context}
use Rattle.semantics65.specs.declared.contexts.EncodingChoice.{EncodingChoice}
use Rattle.semantics65.specs.Norms.{nat_or_zero, fill_encoding, length_of, optional_value, encoding_of}
use Rattle.symbols65.specs.declared.measuring.LineState.{LineState}
use Rattle.symbols65.specs.declared.measuring.StatementLayout.{StatementLayout}
use Rattle.symbols65.specs.Views.{table_of}

-- ---- Counts.

-- the counts of a cursor after at most this many openings: each is at most that, and the number of
-- segments is at most one more
pub record HasBoundedCounts (count : ℕ) (w : layout.Cursor) : Type 0 where
  pub scope : w.scope ≤ count
  pub scopes : w.opened ≤ count
  pub regions : w.region ≤ count
  pub unnamed : w.unnamed ≤ count
  pub segments : length w.segments ≤ count + 1

-- ---- The openings of statements, and their limits.

-- 1 if a statement opens something that is counted: a scope, a region, a segment or an unnamed label
abbrev pub opening_count : Statement → ℕ
opening_count (Label n) = 1
opening_count UnnamedLabel = 1
opening_count (OpenScope n) = 1
opening_count (OpenProc n) = 1
opening_count (statement.Segment n size) = 1
opening_count _ = 0

-- each scope is opened within one whose number is at most this
abbrev pub HaveBoundedParents : ℕ → List Scope → Type 0
HaveBoundedParents count scopes = AllByRecursion (λ c. c.within ≤ count) scopes

-- the greatest number of openings
abbrev pub opening_limit : ℕ
opening_limit = 4294967294

-- the cursor's 32-bit counts don't overflow if one more statement opens something
pub record HasSpareCounts (y : Symbols) (w : layout.Cursor) : Type 0 where
  pub segments : length w.segments < 4294967295
  pub opened : w.opened < 4294967295
  pub region : w.region < 4294967295
  pub unnamed : w.unnamed < 4294967295
  pub enclosing : enclosing y.scopes w.scope < 4294967296

-- ---- The cursor after a statement, by its layout.

-- the cursor after a statement with this length and alignment
abbrev pub cursor_with_bytes : Symbols → layout.Cursor → Statement → (count alignment : ℕ) → layout.Cursor
cursor_with_bytes y w x count alignment = record {
  scope = scope_after y w x;
  opened = if opens_scope x then w.opened + 1 else w.opened;
  region = if opens_region x then w.region + 1 else w.region;
  unnamed = if is_unnamed x then w.unnamed + 1 else w.unnamed;
  segments = segments_after w.segments w.current count alignment x;
  current = current_after w x;
  pushed_segments = pushed_segments_after w x;
}

-- ---- The layout of a statement, in the order of the code.

abbrev pub layout_of_statement : Symbols → layout.Cursor → Statement → StatementLayout
layout_of_statement y w x = record {
  length = length_of y (context_of w) (own_size w) x;
  size = size_stated y (context_of w) (own_size w) x;
  alignment = statement_alignment y (context_of w) x;
  encoding = encoding_of y (context_of w) (own_size w) x;
}

-- the layout of a statement, or its first error
abbrev pub layout_result : Symbols → layout.Cursor → Statement → Result StatementLayout AsmFault
layout_result y w x = unless_fault (line_fault y w x) (layout_of_statement y w x)

-- ---- Errors by group.

-- the error of a statement in its names or scopes
abbrev pub naming_fault : Symbols → Context → Statement → Option AsmFault
naming_fault y s x =
    or_then (fault_if (is_global_only x && is_not_global s.scope) NotUnderstood)
    (or_then (missing_scopes_fault y.scopes s.scope (trees_of x))
    (or_then (opened_twice y.scopes s.scope (scope_name x)) (defined_twice y (key_defined s x))))

-- the layout of a statement without an error in its names, or its first error
abbrev pub layout_or_error : Symbols → layout.Cursor → Statement → Result StatementLayout AsmFault
layout_or_error y w x = unless_fault (first_fault (layout_faults y w x)) (layout_of_statement y w x)

-- the check fails with this error alone, or because memory ran out
abbrev pub ChecksStatement : Result (Unit {0}) AsmFault → Option AsmFault → Type 0
ChecksStatement result fault = Refines is_out_of_memory (λ u. u) result (unless_fault fault tt)

-- the result refines the layout of a statement without an error in its names, or its first error
abbrev pub LaysOutStatement : LineState → Result StatementLayout AsmFault → Statement → Type 0
LaysOutStatement before result x =
    Refines is_out_of_memory (λ m. m) result (layout_or_error (table_of before.symbols.now) before.cursor.now x)

-- the result refines the fill byte, or an error if it isn't a byte
abbrev pub RefinesFillByte : Symbols → Context → Option Tree → Result EncodingChoice AsmFault → Type 0
RefinesFillByte y s v result =
    Refines is_out_of_memory (λ st. st) result
    (unless_fault (fault_if (not (is_byte_value (optional_value y s v (pos 0)))) BadOperand) (fill_encoding y s v))

-- this many bytes, or an error if the section would be too large
abbrev pub count_if_it_fits : layout.Cursor → ℕ → Result ℕ AsmFault
count_if_it_fits w count =
    unless_fault (fault_if (nat_lt section_limit ((context_of w).offset + count)) SectionTooLarge) count

-- ---- Parts of files.

-- the value of an optional expression, which is the default if there is none, or an error if it isn't
-- constant
abbrev pub IsOptionalValue : (ℤ → Option ℤ) → Result (Option ℤ) AsmFault → Type 0
IsOptionalValue value (Ok v) = (default : ℤ) → value default ≡ Some (unwrap_or v default)
IsOptionalValue value (Err e) =
    Unless (is_out_of_memory e) ((e ≡ BadOperand) × ((default : ℤ) → value default ≡ None))

-- the error of a part of a file that doesn't depend on the file
abbrev pub unread_fault : Symbols → layout.Cursor → Option Tree → Option Tree → Option AsmFault
unread_fault y w start len =
    or_then (missing_scopes_fault y.scopes w.scope (optional_tree start ++ optional_tree len))
    (operand_fault y (context_of w) (Incbin None start len))

-- whether a value is between 0 and this number
abbrev pub is_in_range : ℕ → ℤ → Bool
is_in_range count (pos n) = nat_le n count
is_in_range count (negsuc n) = false

-- the start and the length of a part of a file of this many bytes, or an error if the file is too large or
-- doesn't contain the part
abbrev pub range_in_file : ℕ → Option ℤ → Option ℤ → Result (ℕ × ℕ) AsmFault
range_in_file count start len =
    let from : Option ℤ = Some (unwrap_or start (pos 0)) in
    let more : Option ℤ = Some (unwrap_or len (remaining_from count from)) in
    unless_fault (fault_if (not (nat_le count file_limit && is_part count from more)) BadPart)
    (nat_or_zero from, nat_or_zero more)
