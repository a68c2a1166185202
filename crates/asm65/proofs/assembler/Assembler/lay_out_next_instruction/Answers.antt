use Rattle.std.proofs.Common.{◌≡◌, ◌∙◌, ℕ, refl, sym, ap, subst}
use Rattle.std.specs.Prelude.{Err, Result}
use Rattle.std.proofs.lemmas.List.{append-nil}
use Rattle.std.proofs.lemmas.Result.{err_from_is_err_and}
use Rattle.semantics65.specs.Contents.{section_request}
use Rattle.ast65.specs.declared.fault.AsmFault.{AsmFault}
use Rattle.semantics65.specs.declared.contexts.Context.{Context}
use Rattle.ast65.specs.declared.language.Statement.{Statement}
use Rattle.ast65.specs.declared.language.Statement.TheVariants.{Instruction}
use Rattle.semantics65.specs.Layout as layout
use Rattle.semantics65.specs.Layout.{Cursor}
use Rattle.semantics65.specs.Symbols.{Symbols}
use Rattle.symbols65.specs.Measuring.{cursor_with_bytes}
use Rattle.symbols65.specs.declared.measuring.StatementLayout.{StatementLayout}
use Rattle.symbols65.specs.declared.measuring.Analysis.{Analysis}
use Rattle.symbols65.proofs.NextCursors.{is_measured}
use Rattle.sources65.specs.Machine.{with_content}
use Rattle.symbols65.specs.Views.{table_of}
use Rattle.asm65.specs.declared.assembler.Assembler.{Assembler}
use Rattle.asm65.specs.Internal.AssemblerState.{Represents, with_requested_section}
use Rattle.asm65.proofs.NoStoreFailures.{measured_inside}
use Rattle.asm65.proofs.StatementLayouts.{more_counted, moved_after, placed_is, refused_is}
use Rattle.asm65.proofs.StatementSteps.{holds_stepped}
use Rattle.asm65.proofs.DeferredPieces.{holds_entered}
use Rattle.asm65.proofs.assembler.Assembler.lay_out_next_instruction.Goals as goal

pub returns-clause-placed : goal.returns-clause-placed
returns-clause-placed c = λ count t h.
    placed_is count t c.args.self.now h (Instruction c.args.mnemonic c.args.operand.now) c.in_ok-analysis.analysis.measured c.context-context.result c.in_ok-analysis.ensures.measured c.context-context.ensures

pub returns-clause-holds : goal.returns-clause-holds
returns-clause-holds c = λ location count t h.
    (let old : Assembler = c.args.self.now in
    let x : Statement = Instruction c.args.mnemonic c.args.operand.now in
    let m : StatementLayout = c.in_ok-analysis.analysis.measured in
    let y : Symbols = table_of old.symbols in
    let w : Cursor = old.cursor in
    let mid : Assembler = record old { sections = c.request_section.new.self } in
    let segment = ap (λ (s : Context). s.segment) c.context-context.ensures ∙ ap (λ (v : Cursor). (layout.context_of v).segment) h.cursor in
    let requested : Represents count (with_content t (section_request c.context-context.result.segment)) mid = holds_entered count t old mid h (record { symbols = refl; cursor = refl; texts = refl }) (section_request c.context-context.result.segment) refl c.in_ok-request_section.ensures in
    let held : Represents count (with_requested_section (layout.context_of t.cursor).segment x t) mid = subst (λ (g : ℕ). Represents count (with_content t (section_request g)) mid) segment requested in
    let one : 1 ≡ m.alignment = ap (λ (k : StatementLayout). k.alignment) (is_measured y w x m c.in_ok-analysis.ensures.measured) in
    let moved : c.advance_by.new.self ≡ layout.cursor_after t.symbols t.cursor x =
    c.advance_by.ensures y c.args.mnemonic c.args.operand.now
    ∙ ap (λ (k : ℕ). cursor_with_bytes y w x m.length k) one
    ∙ moved_after count t old h x m c.in_ok-analysis.ensures.measured in
    holds_stepped count t location x mid c.advance_by.new.self old.texts held moved (more_counted count t old h x m c.in_ok-analysis.ensures.measured) (sym (append-nil old.texts.out)) (sym (append-nil old.texts.err)))

pub returns-in_err-analysis-clause-refused : goal.returns-in_err-analysis-clause-refused
returns-in_err-analysis-clause-refused c = λ count t h.
    (let p = err_from_is_err_and c.from_residual.result c.from_residual.ensures.1 in
    rw (p.1, p.2) (refused_is count t c.args.self.now h (Instruction c.args.mnemonic c.args.operand.now) c.in_err-analysis.field-0.0 c.in_err-analysis.ensures.measured))

pub returns-in_err-analysis-clause-no_failure : goal.returns-in_err-analysis-clause-no_failure
returns-in_err-analysis-clause-no_failure c =
    let p = err_from_is_err_and c.from_residual.result c.from_residual.ensures.1 in
    let answer : Result Analysis AsmFault = Err c.in_err-analysis.field-0.0 in
    rw (p.1, p.2) (measured_inside answer (λ a. a.measured) (table_of c.args.self.now.symbols) c.args.self.now.cursor (Instruction c.args.mnemonic c.args.operand.now) c.in_err-analysis.ensures.measured)
