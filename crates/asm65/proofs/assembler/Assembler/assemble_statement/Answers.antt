use Rattle.std.proofs.lemmas.Grind.{common_steps}
use Rattle.std.proofs.Common.{arith, ◌≡◌, ◌∙◌, ℕ, sym, ap, subst}
use Rattle.std.specs.Prelude.{Err, Result}
use Rattle.ast65.specs.Faults.{is_system_error}
use Rattle.ast65.specs.declared.fault.AsmFault.{AsmFault}
use Rattle.ast65.specs.declared.language.Statement.{Statement}
use Rattle.semantics65.specs.Layout as layout
use Rattle.semantics65.specs.Layout.{Cursor}
use Rattle.semantics65.specs.Symbols.{Symbols}
use Rattle.semantics65.specs.Views.{location_in}
use Rattle.semantics65.specs.declared.contexts.Context.{Context}
use Rattle.symbols65.proofs.NextCursors.{has_numbers, without_fault}
use Rattle.symbols65.proofs.StatementLayouts.{unless_then}
use Rattle.symbols65.specs.Evaluations.{HasFinal, first_tree}
use Rattle.symbols65.specs.Measuring.{cursor_with_bytes, HasSpareCounts}
use Rattle.symbols65.specs.declared.measuring.Analysis.{Analysis}
use Rattle.symbols65.specs.declared.measuring.StatementLayout.{StatementLayout}
use Rattle.symbols65.specs.Views.{table_of}
use Rattle.asm65.specs.declared.assembler.Assembler.{Assembler}
use Rattle.asm65.specs.Internal.AssemblerState.{AreNumberedBelow, Represents, IsNew, with_requested_section}
use Rattle.asm65.proofs.NoStoreFailures.{measured_inside}
use Rattle.asm65.proofs.StatementLayouts.{more_counted, moved_after, placed_is, refused_is}
use Rattle.asm65.proofs.StatementSteps.{holds_stepped, is_new, represents_searched, takes_entered, takes_refused}
use Rattle.asm65.proofs.assembler.Assembler.assemble_statement.Goals as goal

pub advance-requires-clause-numbers : goal.advance-requires-clause-numbers
advance-requires-clause-numbers c =
    let mid : Assembler = c.request_section.new.self in
    let (count, t, h, few) = c.requires in
    subst (λ (y : Symbols). HasSpareCounts y mid.cursor) (sym (ap table_of c.in_ok-request_section.ensures.tables.symbols ∙ c.search_statement.ensures ∙ h.symbols))
    (subst (λ (w : Cursor). HasSpareCounts t.symbols w) (sym (c.in_ok-request_section.ensures.tables.cursor ∙ h.cursor)) (has_numbers count t.symbols t.cursor h.counted h.inside few))

pub emit_statement-requires-clause-new : goal.emit_statement-requires-clause-new
emit_statement-requires-clause-new c =
    let x : Statement = c.args.statement in
    let (count, t, h, few) = c.requires in
    let y : Symbols = table_of c.search_statement.new.symbols in
    let w : Cursor = c.args.self.now.cursor in
    let before : AreNumberedBelow w.unnamed y.definitions = subst (λ (z : Symbols). AreNumberedBelow w.unnamed z.definitions) (sym (c.search_statement.ensures ∙ h.symbols)) (subst (λ (v : Cursor). AreNumberedBelow v.unnamed t.symbols.definitions) (sym h.cursor) h.unnamed) in
    let new : IsNew y (layout.context_of w) x = is_new y w x (without_fault y w x c.in-Ok.analysis.measured c.in-Ok.ensures.measured) before in
    subst (λ (z : Symbols). IsNew z c.context-context.result x) (ap table_of (sym c.in_ok-request_section.ensures.tables.symbols))
    (subst (λ (s : Context). IsNew y s x) (sym c.context-context.ensures) new)

pub returns-in-Err-clause-transitions : goal.returns-in-Err-clause-transitions
returns-in-Err-clause-transitions c = λ count t h few.
    (let e = c.in-Err.fault in
    let x : Statement = c.args.statement in
    let searched : Assembler = record c.args.self.now { symbols = c.search_statement.new.symbols } in
    let held : Represents count t searched = represents_searched count t c.args.self.now c.search_statement.new.symbols c.search_statement.ensures h in
    rw c.reject_statement.ensures (unless_then (is_system_error e) (takes_refused t (location_in c.args.at.file.now c.args.at.line) x e) (refused_is count t searched held x e c.in-Err.ensures.measured)))

pub returns-in-Err-clause-no_failure : goal.returns-in-Err-clause-no_failure
returns-in-Err-clause-no_failure c =
    let answer : Result Analysis AsmFault = Err c.in-Err.fault in
    rw c.reject_statement.ensures (measured_inside answer (λ a. a.measured) (table_of c.search_statement.new.symbols) c.args.self.now.cursor c.args.statement c.in-Err.ensures.measured)

pub returns-clause-transitions : goal.returns-clause-transitions
returns-clause-transitions c = λ count t h few.
    (let x : Statement = c.args.statement in
    let m : StatementLayout = c.in-Ok.analysis.measured in
    let s : Context = c.context-context.result in
    let location = location_in c.args.at.file.now c.args.at.line in
    let searched : Assembler = record c.args.self.now { symbols = c.search_statement.new.symbols } in
    let held : Represents count t searched = represents_searched count t c.args.self.now c.search_statement.new.symbols c.search_statement.ensures h in
    let requested : Assembler = c.request_section.new.self in
    let mid : Assembler = record requested { cursor = c.advance.new.self; texts = c.record_output.new.self } in
    let y : Symbols = table_of searched.symbols in
    let segment = ap (λ (s : Context). s.segment) c.context-context.ensures ∙ ap (λ (v : Cursor). (layout.context_of v).segment) h.cursor in
    let ready : Represents count (with_requested_section (layout.context_of t.cursor).segment x t) requested = subst (λ (g : ℕ). Represents count (with_requested_section g x t) requested) segment (c.in_ok-request_section.ensures.requested count t held) in
    let moved : c.advance.new.self ≡ layout.cursor_after t.symbols t.cursor x =
    c.in_ok-advance.ensures
    ∙ ap (λ (z : Symbols). cursor_with_bytes z requested.cursor x m.length m.alignment) (ap table_of c.in_ok-request_section.ensures.tables.symbols)
    ∙ ap (λ (v : Cursor). cursor_with_bytes y v x m.length m.alignment) c.in_ok-request_section.ensures.tables.cursor
    ∙ moved_after count t searched held x m c.in-Ok.ensures.measured in
    takes_entered count t location x s m searched mid c.emit_statement.new.self held (placed_is count t searched held x m s c.in-Ok.ensures.measured c.context-context.ensures)
    (holds_stepped count t location x requested c.advance.new.self c.record_output.new.self ready moved (more_counted count t searched held x m c.in-Ok.ensures.measured) c.in_ok-record_output.ensures.out c.in_ok-record_output.ensures.err)
    c.in_ok-emit_statement.ensures)

pub emit_statement-requires-clause-form : goal.emit_statement-requires-clause-form
emit_statement-requires-clause-form c =
    let x : Statement = c.args.statement in
    let y : Symbols = table_of c.search_statement.new.symbols in
    subst (λ (z : Symbols). HasFinal z c.context-context.result (first_tree x) c.in-Ok.analysis.form) (ap table_of (sym c.in_ok-request_section.ensures.tables.symbols))
    (subst (λ (s : Context). HasFinal y s (first_tree x) c.in-Ok.analysis.form) (sym c.context-context.ensures) c.in-Ok.ensures.form)

pub returns-in_err-emit_statement-clause-transitions : goal.returns-in_err-emit_statement-clause-transitions
returns-in_err-emit_statement-clause-transitions c = grind (arith, common_steps)
