-- The cursor after a statement.
use Rattle.std.proofs.lemmas.Grind.{common_steps}
use Rattle.std.proofs.Common.{◌≡◌, ℕ, zero, suc, ◌+◌, ◌<◌, ◌≤◌, List, [], ◌∷◌, ◌++◌, length, Some, None, sym, ap, arith}
use Rattle.std.specs.Prelude.{Ok, Err, slice_get, if◌then◌else◌}
use Rattle.std.proofs.lemmas.List.{length-append}
use Rattle.semantics65.specs.declared.contents.Segment.{Segment}
use Rattle.ast65.specs.declared.fault.AsmFault.{AsmFault}
use Rattle.semantics65.specs.Symbols.{is_unnamed, opens_region, enclosing, parent_scope, Scope, Symbols, scope_opened}
use Rattle.ast65.specs.declared.language.Statement.{Statement}
use Rattle.ast65.specs.declared.language.Statement.TheVariants as statement
use Rattle.semantics65.specs.Layout.{Cursor, opens_scope, scope_after, segments_after, cursor_after, line_fault}
use Rattle.symbols65.specs.Measuring.{cursor_with_bytes, layout_of_statement, layout_result, HaveBoundedParents, HasSpareCounts, opening_count, opening_limit, HasBoundedCounts}
use Rattle.symbols65.specs.declared.measuring.StatementLayout.{StatementLayout}
use Rattle.symbols65.proofs.StatementLayouts.{no_fault}
use Rattle.semantics65.proofs.Segments.{all_more, all_same, grown_length}

-- ---- Enclosing scopes.

within_below : (count i : ℕ) (cs : List Scope) → HaveBoundedParents count cs → parent_scope (slice_get cs i) ≤ count
within_below count i [] h = omega arith
within_below count zero (c ∷ cs) h = h.0
within_below count (suc i) (c ∷ cs) h = within_below count i cs h.1

-- the number of an enclosing scope is at most the count of openings
pub enclosing_below : (count scope : ℕ) (cs : List Scope) → HaveBoundedParents count cs → enclosing cs scope ≤ count
enclosing_below count zero cs h = omega arith
enclosing_below count (suc i) cs h = within_below count i cs h

-- after a statement, the number of each scope's parent is at most the count of openings
pub inside_after : (count scope : ℕ) (cs : List Scope) (x : Statement) → scope ≤ count → HaveBoundedParents count cs → HaveBoundedParents (count + opening_count x) (cs ++ scope_opened scope x)
inside_after count scope cs x le h = grind (arith, common_steps, all_same, all_more)

-- ---- Counts.

scopes_after : (x : Statement) (n count : ℕ) → n ≤ count → (if opens_scope x then n + 1 else n) ≤ count + opening_count x
scopes_after x n count le = grind (arith, common_steps)

regions_after : (x : Statement) (n count : ℕ) → n ≤ count → (if opens_region x then n + 1 else n) ≤ count + opening_count x
regions_after x n count le = grind (arith, common_steps)

unnamed_after : (x : Statement) (n count : ℕ) → n ≤ count → (if is_unnamed x then n + 1 else n) ≤ count + opening_count x
unnamed_after x n count le = grind (arith, common_steps)

segments_counted : (x : Statement) (gs : List Segment) (current len alignment count : ℕ) → length gs ≤ count + 1 → length (segments_after gs current len alignment x) ≤ count + opening_count x + 1
segments_counted x gs current len alignment count le = grind (arith, common_steps, length-append, grown_length)

open_after : (x : Statement) (y : Symbols) (w : Cursor) (count : ℕ) → w.scope ≤ count → w.opened ≤ count → HaveBoundedParents count y.scopes → scope_after y w x ≤ count + opening_count x
open_after (statement.OpenScope n) y w count le less h = omega (arith, less)
open_after (statement.OpenProc n) y w count le less h = omega (arith, less)
open_after statement.CloseScope y w count le less h = let around = enclosing_below count w.scope y.scopes h in omega (arith, around)
open_after statement.CloseProc y w count le less h = let around = enclosing_below count w.scope y.scopes h in omega (arith, around)
open_after _ y w count le less h = omega (arith, le)

-- after a statement, the counts are within the earlier bound plus the openings of the statement
pub counted_after : (y : Symbols) (w : Cursor) (x : Statement) (len alignment count : ℕ) → HasBoundedCounts count w → HaveBoundedParents count y.scopes → HasBoundedCounts (count + opening_count x) (cursor_with_bytes y w x len alignment)
counted_after y w x len alignment count counted inside = record {
  scope = open_after x y w count counted.scope counted.scopes inside;
  scopes = scopes_after x w.opened count counted.scopes;
  regions = regions_after x w.region count counted.regions;
  unnamed = unnamed_after x w.unnamed count counted.unnamed;
  segments = segments_counted x w.segments w.current len alignment count counted.segments;
}

-- below the limit, the counts don't overflow if a further statement opens something
pub has_numbers : (count : ℕ) (y : Symbols) (w : Cursor) → HasBoundedCounts count w → HaveBoundedParents count y.scopes → count < opening_limit → HasSpareCounts y w
has_numbers count y w counted inside less = grind (arith, common_steps, enclosing_below)

-- ---- The layout of a statement.

module _ (y : Symbols) (w : Cursor) (x : Statement) where
  pub without_fault : (m : StatementLayout) → layout_result y w x ≡ Ok m → line_fault y w x ≡ None
  without_fault m e = (no_fault (line_fault y w x) (layout_of_statement y w x) m e).0

  pub is_measured : (m : StatementLayout) → layout_result y w x ≡ Ok m → layout_of_statement y w x ≡ m
  is_measured m e = (no_fault (line_fault y w x) (layout_of_statement y w x) m e).1

  pub with_fault : (e : AsmFault) → layout_result y w x ≡ Err e → line_fault y w x ≡ Some e
  with_fault e p = grind (arith, common_steps)

  -- the cursor after a statement is that of the layout rules
  pub after_measured : (m : StatementLayout) → layout_result y w x ≡ Ok m → cursor_with_bytes y w x m.length m.alignment ≡ cursor_after y w x
  after_measured m e = ap (λ (k : StatementLayout). cursor_with_bytes y w x k.length k.alignment) (sym (is_measured m e))
