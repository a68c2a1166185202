-- The layout of statements, and the errors that a line has there.
use Rattle.std.specs.Prelude.{ℕ, zero, suc, ◌+◌, max, Bool, true, false, List, [], ◌∷◌, ◌++◌, length, Option, Some, None, codes, if◌then◌else◌, ◌-◌, ◌==◌, ℤ, pos, nat_le, nat_lt, not, ◌&&◌, Result, Ok, Err, slice_get}
use Rattle.std.specs.List.{position, list_any}
use Rattle.std.specs.Str.{bytes_eq}
use Rattle.semantics65.specs.Types.{AddressSize, Segment, Statement, SourceLocation, Context, AsmFault, NotUnderstood, NoSuchForm, DefinedTwice, SectionTooLarge, NoSuchScope, ScopeTwice, BadAlignment, PopWithoutPush, BadOperand, BadPart, SizeChanged, BadScope, FileNotFound, Item, Operand, Absent, Accumulator, Immediate, Address, Indirect, IndirectX, IndirectY, Value, StringLiteral}
use Rattle.syntax65.specs.declared.lexing.tokens.AddressSize.TheVariants as size
use Rattle.ast65.specs.declared.language.Statement.TheVariants as statement
use Rattle.semantics65.specs.Symbols.{LaidOutStatement, opens_region, is_unnamed, Symbols, symbols_of, Scope, Key, named, cheap_in, unnamed_at, definition_index, key_defined, enclosing, scope_in, scope_from, scope_path, display_name}
use Rattle.semantics65.specs.Norms.{constant_in, nat_or_zero, length_of, encoding_of, size_of, is_byte, mode_of, optional_value}
use Rattle.syntax65.specs.Trees.{Tree, name, unary, binary}
use Rattle.object65.specs.Objects.{section_limit}

-- ---- The layout of statements, one after the other.

-- the alignments of sections
abbrev pub powers : List ℕ
powers = 1 ∷ 2 ∷ 4 ∷ 8 ∷ 16 ∷ 32 ∷ 64 ∷ 128 ∷ 256 ∷ 512 ∷ 1024 ∷ 2048 ∷ 4096 ∷ 8192 ∷ 16384 ∷ 32768 ∷ []

-- the position after some statements
pub record Cursor : Type 0 where
  -- the scope of the next statement: 0 is the global one, and the scopes are numbered in the order in which they are opened
  pub scope : ℕ
  -- the number of scopes that were opened
  pub opened : ℕ
  -- the region of cheap local labels: the number of statements that opened one
  pub region : ℕ
  -- the number of unnamed labels
  pub unnamed : ℕ
  -- the segments: CODE, and then each other one at its first `.segment`; with its address size, and with its alignment and the
  -- end of its section up to here
  pub segments : List Segment
  -- the segment of the next statement
  pub current : ℕ
  -- the pushed segments, the last one first
  pub pushed_segments : List ℕ

abbrev pub new_segment : List ℕ → AddressSize → Segment
new_segment n own = record { name = n; size = own; end = 0; align = 1 }

-- assembly begins in CODE
abbrev pub start : Cursor
start = record { scope = 0; opened = 0; region = 0; unnamed = 0; segments = new_segment (codes "CODE") size.Absolute ∷ []; current = 0; pushed_segments = [] }

-- ---- Segments.

abbrev pub segment_at : List Segment → ℕ → Segment
segment_at [] i = new_segment (codes "CODE") size.Absolute
segment_at (g ∷ gs) zero = g
segment_at (g ∷ gs) (suc i) = segment_at gs i

abbrev pub segment_index : List Segment → List ℕ → Option ℕ
segment_index gs n = position (λ g. bytes_eq g.name n) gs

-- without a given size a new segment is absolute, except ZEROPAGE
abbrev pub first_size : List ℕ → Option AddressSize → AddressSize
first_size n (Some own) = own
first_size n None = if bytes_eq n (codes "ZEROPAGE") then size.ZeroPage else size.Absolute

abbrev pub named_segments : List Segment → List ℕ → Option AddressSize → Option ℕ → List Segment
named_segments gs n own (Some i) = gs
named_segments gs n own None = gs ++ new_segment n (first_size n own) ∷ []

abbrev pub existing_or_new_index : List Segment → Option ℕ → ℕ
existing_or_new_index gs (Some i) = i
existing_or_new_index gs None = length gs

-- a segment with more bytes at its end, and at least this alignment
abbrev pub segment_after : ℕ → ℕ → Segment → Segment
segment_after count alignment g = record { name = g.name; size = g.size; end = g.end + count; align = max g.align alignment }

abbrev pub with_grown_segment : List Segment → ℕ → ℕ → ℕ → List Segment
with_grown_segment [] i count alignment = []
with_grown_segment (g ∷ gs) zero count alignment = segment_after count alignment g ∷ gs
with_grown_segment (g ∷ gs) (suc i) count alignment = g ∷ with_grown_segment gs i count alignment

abbrev pub segments_after : List Segment → ℕ → ℕ → ℕ → Statement → List Segment
segments_after gs current count alignment (statement.Segment n own) = named_segments gs n own (segment_index gs n)
segments_after gs current count alignment _ = with_grown_segment gs current count alignment

-- the segment pushed last; the current one if none is pushed
abbrev pub last_pushed_segment : ℕ → List ℕ → ℕ
last_pushed_segment current [] = current
last_pushed_segment current (k ∷ pushed_segments) = k

-- the pushed segments without the last one
abbrev pub earlier_pushed_segments : List ℕ → List ℕ
earlier_pushed_segments [] = []
earlier_pushed_segments (k ∷ pushed_segments) = pushed_segments

abbrev pub current_after : Cursor → Statement → ℕ
current_after w (statement.Segment n own) = existing_or_new_index w.segments (segment_index w.segments n)
current_after w statement.PopSegment = last_pushed_segment w.current w.pushed_segments
current_after w _ = w.current

-- the pushed segments after a statement
abbrev pub pushed_segments_after : Cursor → Statement → List ℕ
pushed_segments_after w statement.PushSegment = w.current ∷ w.pushed_segments
pushed_segments_after w statement.PopSegment = earlier_pushed_segments w.pushed_segments
pushed_segments_after w _ = w.pushed_segments

-- ---- One statement.

abbrev pub context_of : Cursor → Context
context_of w = record { scope = w.scope; opened = w.opened; region = w.region; unnamed = w.unnamed; segment = w.current; offset = (segment_at w.segments w.current).end }

-- the address size of the current segment, which the definitions below call `own`
abbrev pub own_size : Cursor → AddressSize
own_size w = (segment_at w.segments w.current).size

-- the address size of the name that a statement defines
abbrev pub size_stated : Symbols → Context → AddressSize → Statement → AddressSize
size_stated y s own (statement.Constant n e) = size_of y s own e
size_stated y s own _ = own

-- a statement after those of a symbol table
abbrev pub laid_out_statement : Symbols → Cursor → SourceLocation → Statement → LaidOutStatement
laid_out_statement y w location x = record {
  stated = x;
  place = location;
  context = context_of w;
  length = length_of y (context_of w) (own_size w) x;
  size = size_stated y (context_of w) (own_size w) x;
  encoding = encoding_of y (context_of w) (own_size w) x;
}

abbrev pub opens_scope : Statement → Bool
opens_scope (statement.OpenScope n) = true
opens_scope (statement.OpenProc n) = true
opens_scope _ = false

abbrev pub closes_scope : Statement → Bool
closes_scope statement.CloseScope = true
closes_scope statement.CloseProc = true
closes_scope _ = false

-- the scope that is open after a statement
abbrev pub scope_after : Symbols → Cursor → Statement → ℕ
scope_after y w x = if opens_scope x then suc w.opened else if closes_scope x then enclosing y.scopes w.scope else w.scope

-- the alignment that a statement gives its section
abbrev pub statement_alignment : Symbols → Context → Statement → ℕ
statement_alignment y s (statement.Align n v) = nat_or_zero (constant_in y s n)
statement_alignment y s _ = 1

abbrev pub cursor_after : Symbols → Cursor → Statement → Cursor
cursor_after y w x = record {
  scope = scope_after y w x;
  opened = if opens_scope x then w.opened + 1 else w.opened;
  region = if opens_region x then w.region + 1 else w.region;
  unnamed = if is_unnamed x then w.unnamed + 1 else w.unnamed;
  segments = segments_after w.segments w.current (length_of y (context_of w) (own_size w) x) (statement_alignment y (context_of w) x) x;
  current = current_after w x;
  pushed_segments = pushed_segments_after w x;
}

-- ---- All statements, each with its location.

-- a module's statements at their offsets, and the cursor after them
pub record Layout : Type 0 where
  pub laid : List LaidOutStatement
  pub cursor : Cursor

abbrev pub layout_after : Layout → SourceLocation → Statement → Layout
layout_after y location x = record { laid = y.laid ++ laid_out_statement (symbols_of y.laid) y.cursor location x ∷ []; cursor = cursor_after (symbols_of y.laid) y.cursor x }

abbrev pub empty_layout : Layout
empty_layout = record { laid = []; cursor = start }

-- ---- The errors at a statement's line, in order.

-- the first error, if there is one
abbrev pub first_fault : List (Option AsmFault) → Option AsmFault
first_fault [] = None
first_fault (Some e ∷ es) = Some e
first_fault (None ∷ es) = first_fault es

abbrev pub fault_if : Bool → AsmFault → Option AsmFault
fault_if true e = Some e
fault_if false e = None

abbrev pub fault_if_none : {A : Type 0} → Option A → AsmFault → Option AsmFault
fault_if_none None e = Some e
fault_if_none (Some x) e = None

abbrev pub fault_if_some : {A : Type 0} → Option A → AsmFault → Option AsmFault
fault_if_some None e = None
fault_if_some (Some x) e = Some e

-- the error if there is one, otherwise the value
abbrev pub unless_fault : {A : Type 0} → Option AsmFault → A → Result A AsmFault
unless_fault None x = Ok x
unless_fault (Some e) x = Err e

-- ---- Statements that are allowed in the global scope only.

-- whether a statement is allowed in the global scope only
abbrev pub is_global_only : Statement → Bool
is_global_only (statement.Import s names) = true
is_global_only (statement.Export names) = true
is_global_only (statement.Global s names) = true
is_global_only (statement.ForceImport names) = true
is_global_only _ = false

-- whether a scope isn't the global one
abbrev pub is_not_global : ℕ → Bool
is_not_global zero = false
is_not_global (suc i) = true

-- ---- Scopes of names.

abbrev pub operand_trees : Operand → List Tree
operand_trees Absent = []
operand_trees Accumulator = []
operand_trees (Immediate e) = e ∷ []
operand_trees (Address prefix e r) = e ∷ []
operand_trees (Indirect e) = e ∷ []
operand_trees (IndirectX e) = e ∷ []
operand_trees (IndirectY e) = e ∷ []

abbrev pub item_trees : List Item → List Tree
item_trees [] = []
item_trees (Value e ∷ items) = e ∷ item_trees items
item_trees (StringLiteral bytes ∷ items) = item_trees items

abbrev pub optional_tree : Option Tree → List Tree
optional_tree None = []
optional_tree (Some e) = e ∷ []

-- the expressions of a statement
abbrev pub trees_of : Statement → List Tree
trees_of (statement.Constant n e) = e ∷ []
trees_of (statement.Instruction m operand) = operand_trees operand
trees_of (statement.Values width items) = item_trees items
trees_of (statement.Reserve n v) = n ∷ optional_tree v
trees_of (statement.Align n v) = n ∷ optional_tree v
trees_of (statement.Incbin bytes start len) = optional_tree start ++ optional_tree len
trees_of (statement.Assert e action words) = e ∷ []
trees_of _ = []

abbrev pub or_then : Option AsmFault → Option AsmFault → Option AsmFault
or_then (Some e) other = Some e
or_then None other = other

-- the first name with `::` whose scope wasn't opened before
abbrev pub missing_scope_fault : List Scope → ℕ → Tree → Option AsmFault
missing_scope_fault cs scope (name false (n ∷ [])) = None
missing_scope_fault cs scope (name global parts) = fault_if_none (scope_from cs scope global (scope_path parts)) (NoSuchScope (display_name global parts))
missing_scope_fault cs scope (unary op e) = missing_scope_fault cs scope e
missing_scope_fault cs scope (binary op e f) = or_then (missing_scope_fault cs scope e) (missing_scope_fault cs scope f)
missing_scope_fault cs scope _ = None

abbrev pub missing_scopes_fault : List Scope → ℕ → List Tree → Option AsmFault
missing_scopes_fault cs scope [] = None
missing_scopes_fault cs scope (e ∷ es) = or_then (missing_scope_fault cs scope e) (missing_scopes_fault cs scope es)

-- ---- Names and scopes that exist already.

-- the name of the scope that a statement opens
abbrev pub scope_name : Statement → Option (List ℕ)
scope_name (statement.OpenScope n) = n
scope_name (statement.OpenProc n) = Some n
scope_name _ = None

abbrev pub opened_twice : List Scope → ℕ → Option (List ℕ) → Option AsmFault
opened_twice cs scope None = None
opened_twice cs scope (Some n) = fault_if_some (scope_in cs scope n) (ScopeTwice n)

abbrev pub defined_twice : Symbols → Option Key → Option AsmFault
defined_twice y (Some (named scope n)) = fault_if_some (definition_index y (named scope n)) (DefinedTwice n)
defined_twice y (Some (cheap_in region n)) = fault_if_some (definition_index y (cheap_in region n)) (DefinedTwice n)
defined_twice y (Some (unnamed_at k)) = None
defined_twice y None = None

-- ---- Operands.

abbrev pub form_fault : Symbols → Context → AddressSize → Statement → Option AsmFault
form_fault y s own (statement.Instruction m operand) = fault_if_none (mode_of y s own m operand) NoSuchForm
form_fault y s own _ = None

abbrev pub is_count : Option ℤ → Bool
is_count (Some (pos n)) = true
is_count _ = false

abbrev pub is_byte_value : Option ℤ → Bool
is_byte_value None = false
is_byte_value (Some v) = is_byte v

abbrev pub has_value : {A : Type 0} → Option A → Bool
has_value None = false
has_value (Some x) = true

-- the error of an operand that must be constant and isn't, or of a count or fill value that is out of range
abbrev pub operand_fault : Symbols → Context → Statement → Option AsmFault
operand_fault y s (statement.Reserve n v) = fault_if (not (is_count (constant_in y s n) && is_byte_value (optional_value y s v (pos 0)))) BadOperand
operand_fault y s (statement.Align n v) = fault_if (not (has_value (constant_in y s n) && is_byte_value (optional_value y s v (pos 0)))) BadOperand
operand_fault y s (statement.Incbin bytes start len) = fault_if (not (has_value (optional_value y s start (pos 0)) && has_value (optional_value y s len (pos 0)))) BadOperand
operand_fault y s _ = None

abbrev pub alignment_value_fault : Option ℤ → Option AsmFault
alignment_value_fault (Some (pos n)) = fault_if (not (list_any (λ m. m == n) powers)) BadAlignment
alignment_value_fault _ = Some BadAlignment

abbrev pub alignment_fault : Symbols → Context → Statement → Option AsmFault
alignment_fault y s (statement.Align n v) = alignment_value_fault (constant_in y s n)
alignment_fault y s _ = None

-- ---- Files.

abbrev pub file_limit : ℕ
file_limit = 16777216

abbrev pub missing_file : Statement → Option AsmFault
missing_file (statement.Incbin bytes start len) = fault_if_none bytes FileNotFound
missing_file _ = None

-- whether a file of this size has the part
abbrev pub is_part : ℕ → Option ℤ → Option ℤ → Bool
is_part count (Some (pos start)) (Some (pos len)) = nat_le (start + len) count
is_part count _ _ = false

abbrev pub remaining_from : ℕ → Option ℤ → ℤ
remaining_from count (Some (pos start)) = pos (count - start)
remaining_from count _ = pos 0

abbrev pub part_fault : Symbols → Context → Statement → Option AsmFault
part_fault y s (statement.Incbin (Some bytes) start len) =
    let from : Option ℤ = optional_value y s start (pos 0) in
    fault_if (not (nat_le (length bytes) file_limit && is_part (length bytes) from (optional_value y s len (remaining_from (length bytes) from)))) BadPart
part_fault y s _ = None

-- ---- Segments and blocks.

abbrev pub same_size : AddressSize → AddressSize → Bool
same_size size.ZeroPage size.ZeroPage = true
same_size size.Absolute size.Absolute = true
same_size _ _ = false

abbrev pub changed_size : List Segment → Option AddressSize → Option ℕ → Option AsmFault
changed_size gs (Some own) (Some i) = fault_if (not (same_size own (segment_at gs i).size)) SizeChanged
changed_size gs own found = None

abbrev pub size_fault : List Segment → Statement → Option AsmFault
size_fault gs (statement.Segment n own) = changed_size gs own (segment_index gs n)
size_fault gs _ = None

-- whether `.scope` opened it, and not `.proc`
abbrev pub is_opened_by_scope : Option Scope → Bool
is_opened_by_scope None = false
is_opened_by_scope (Some c) = not c.is_proc

-- the record of a scope; the global scope has none
abbrev pub scope_record : List Scope → ℕ → Option Scope
scope_record cs zero = None
scope_record cs (suc i) = slice_get cs i

-- `.scope` and `.proc` are closed by their own directives
abbrev pub block_fault : List Scope → ℕ → Statement → Option AsmFault
block_fault cs scope statement.CloseScope = fault_if (not (is_not_global scope && is_opened_by_scope (scope_record cs scope))) BadScope
block_fault cs scope statement.CloseProc = fault_if (not (is_not_global scope && not (is_opened_by_scope (scope_record cs scope)))) BadScope
block_fault cs scope _ = None

-- whether any segment is pushed
abbrev pub has_pushed_segments : List ℕ → Bool
has_pushed_segments [] = false
has_pushed_segments (k ∷ pushed_segments) = true

abbrev pub pop_fault : List ℕ → Statement → Option AsmFault
pop_fault pushed_segments statement.PopSegment = fault_if (not (has_pushed_segments pushed_segments)) PopWithoutPush
pop_fault pushed_segments _ = None

-- ---- The first error of a statement at its line.

-- the errors of a statement whose names are understood, in the order in which they are reported
abbrev pub layout_faults : Symbols → Cursor → Statement → List (Option AsmFault)
layout_faults y w x =
    let s : Context = context_of w in
    form_fault y s (own_size w) x
    ∷ operand_fault y s x
    ∷ alignment_fault y s x
    ∷ missing_file x
    ∷ part_fault y s x
    ∷ size_fault w.segments x
    ∷ block_fault y.scopes s.scope x
    ∷ pop_fault w.pushed_segments x
    ∷ fault_if (nat_lt section_limit (s.offset + length_of y s (own_size w) x)) SectionTooLarge
    ∷ []

abbrev pub line_fault : Symbols → Cursor → Statement → Option AsmFault
line_fault y w x =
    let s : Context = context_of w in
    first_fault (
    fault_if (is_global_only x && is_not_global s.scope) NotUnderstood
    ∷ missing_scopes_fault y.scopes s.scope (trees_of x)
    ∷ opened_twice y.scopes s.scope (scope_name x)
    ∷ defined_twice y (key_defined s x)
    ∷ layout_faults y w x)
