use Rattle.std.proofs.Common.{subst}
use Rattle.expand65.specs.Representation.{RefinesNextStatement}
use Rattle.expand65.specs.Failures.{HasFailureBetweenStatements}
use Rattle.symbols65.specs.Views.{table_of}
use Rattle.asm65.specs.Internal.AssemblerState.{environment_in}
use Rattle.asm65.proofs.SymbolUpdates.{known_held}
use Rattle.asm65.proofs.Runs.{some_then}
use Rattle.asm65.proofs.Sources.{NextBy, StopsBy}
use Rattle.asm65.proofs.driver.next_statement.Goals as goal

pub returns-clause-next : goal.returns-clause-next
returns-clause-next g c =
    let a = c.args.run.now.assembler in
    let here = environment_in (table_of a.symbols) c.context.result in
    some_then (λ m. RefinesNextStatement m here c.args.run.now.expander c.next.result c.next.new.self) (λ m. NextBy m c.args.run.now c.next.result (record { expander = c.next.new.self; assembler = a })) (g.S.Store.files c.args.store.now)
    (λ m follows t held. subst (λ k. RefinesNextStatement m k c.args.run.now.expander c.next.result c.next.new.self) (known_held held.count t a c.context.result held.holds c.context.ensures) follows) c.next.ensures.next

pub returns-clause-stopped : goal.returns-clause-stopped
returns-clause-stopped g c =
    let a = c.args.run.now.assembler in
    let here = environment_in (table_of a.symbols) c.context.result in
    let last_failure = g.S.Store.last_failure c.next.new.store in
    some_then (λ m. HasFailureBetweenStatements m last_failure here c.args.run.now.expander c.next.result c.next.new.self) (λ m. StopsBy m last_failure c.args.run.now c.next.result (record { expander = c.next.new.self; assembler = a })) (g.S.Store.files c.args.store.now)
    (λ m stops t held. subst (λ k. HasFailureBetweenStatements m last_failure k c.args.run.now.expander c.next.result c.next.new.self) (known_held held.count t a c.context.result held.holds c.context.ensures) stops) c.next.ensures.stopped
