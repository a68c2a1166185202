use Rattle.std.proofs.Common.{subst}
use Rattle.base65.specs.Outcome.{Refines}
use Rattle.ast65.specs.Faults.{is_out_of_memory}
use Rattle.semantics65.specs.Layout.{Cursor, unless_fault}
use Rattle.semantics65.specs.Symbols.{Symbols}
use Rattle.symbols65.specs.Views.{table_of}
use Rattle.symbols65.specs.Measuring.{unread_fault}
use Rattle.asm65.proofs.NoStoreFailures.{unread_inside}
use Rattle.asm65.proofs.files.check_range.Goals as goal

pub returns-clause-checked : goal.returns-clause-checked
returns-clause-checked c = λ count t h.
    (let range = c.args.range in
    let P : Symbols → Type 0 = λ y. Refines is_out_of_memory (λ (u : Unit {0}). u) c.check_unread.result (unless_fault {A = Unit {0}} (unread_fault y c.args.assembler.now.cursor range.start.now range.len.now) tt) in
    let Q : Cursor → Type 0 = λ w. Refines is_out_of_memory (λ (u : Unit {0}). u) c.check_unread.result (unless_fault {A = Unit {0}} (unread_fault t.symbols w range.start.now range.len.now) tt) in
    subst Q h.cursor (subst P h.symbols c.check_unread.ensures))

pub returns-clause-no_failure : goal.returns-clause-no_failure
returns-clause-no_failure c =
    let range = c.args.range in
    unread_inside c.check_unread.result (table_of c.args.assembler.now.symbols) c.args.assembler.now.cursor range.start.now range.len.now c.check_unread.ensures
