-- The layout of a statement by an assembler is the layout by the state that the assembler represents.
use Rattle.std.proofs.Common.{◌≡◌, ◌∙◌, ℕ, ◌+◌, sym, ap, subst}
use Rattle.std.specs.Prelude.{Ok, Err, Result, Some}
use Rattle.base65.specs.Outcome.{Unless}
use Rattle.ast65.specs.declared.fault.AsmFault.{AsmFault}
use Rattle.ast65.specs.Faults.{is_failure, is_out_of_memory, is_system_error}
use Rattle.semantics65.specs.declared.contexts.Context.{Context}
use Rattle.ast65.specs.declared.language.Statement.{Statement}
use Rattle.semantics65.specs.Layout.{Cursor, context_of, cursor_after, line_fault}
use Rattle.semantics65.specs.Symbols.{Symbols}
use Rattle.symbols65.specs.Measuring.{cursor_with_bytes, layout_result, opening_count, HasBoundedCounts}
use Rattle.symbols65.specs.declared.measuring.StatementLayout.{StatementLayout}
use Rattle.symbols65.proofs.NextCursors.{after_measured, counted_after, is_measured, with_fault, without_fault}
use Rattle.symbols65.proofs.StatementLayouts.{unless_then}
use Rattle.sources65.specs.Machine.{State}
use Rattle.symbols65.specs.Views.{table_of}
use Rattle.asm65.specs.declared.assembler.Assembler.{Assembler}
use Rattle.asm65.specs.Internal.AssemblerState.{Represents, HasLayout, IsRejected}
use Rattle.asm65.proofs.StatementSteps.{unless_either}

module _ (count : ℕ) (t : State) (old : Assembler) (h : Represents count t old) (x : Statement) where
  abbrev here : Result StatementLayout AsmFault
  here = layout_result (table_of old.symbols) old.cursor x

  there : (r : Result StatementLayout AsmFault) → here ≡ r → layout_result t.symbols t.cursor x ≡ r
  there r at = ap (λ (y : Symbols). layout_result y t.cursor x) (sym h.symbols) ∙ ap (λ (w : Cursor). layout_result (table_of old.symbols) w x) (sym h.cursor) ∙ at

  pub placed_is : (m : StatementLayout) (s : Context) → here ≡ Ok m → s ≡ context_of old.cursor → HasLayout t x s m
  placed_is m s at context = record {
    faultless = without_fault t.symbols t.cursor x m (there (Ok m) at);
    context = context ∙ ap context_of h.cursor;
    measured = sym (is_measured t.symbols t.cursor x m (there (Ok m) at));
  }

  pub refused_is : (e : AsmFault) → Unless (is_out_of_memory e) (here ≡ Err e) → IsRejected t x e
  refused_is e refused =
      let same : here ≡ Err e → line_fault t.symbols t.cursor x ≡ Some e = λ (q : here ≡ Err e). with_fault t.symbols t.cursor x e (there (Err e) q) in
      unless_then (is_system_error e) same (unless_either (here ≡ Err e) (is_out_of_memory e) (is_failure e) refused)

  pub moved_after : (m : StatementLayout) → here ≡ Ok m → cursor_with_bytes (table_of old.symbols) old.cursor x m.length m.alignment ≡ cursor_after t.symbols t.cursor x
  moved_after m at =
      after_measured (table_of old.symbols) old.cursor x m at
      ∙ ap (λ (z : Symbols). cursor_after z old.cursor x) h.symbols
      ∙ ap (λ (v : Cursor). cursor_after t.symbols v x) h.cursor

  -- after the statement, the counts are within the earlier bound plus the openings of the statement
  pub more_counted : (m : StatementLayout) → here ≡ Ok m → HasBoundedCounts (count + opening_count x) (cursor_after t.symbols t.cursor x)
  more_counted m at =
      subst (HasBoundedCounts (count + opening_count x)) (after_measured t.symbols t.cursor x m (there (Ok m) at))
      (counted_after t.symbols t.cursor x m.length m.alignment count h.counted h.inside)
