use Rattle.std.proofs.Common.{◌≡◌, ◌∙◌, ap, subst}
use Rattle.syntax65.specs.declared.source_location.SourceLocation.{SourceLocation}
use Rattle.expand65.specs.Representation.{location_of, statement_of}
use Rattle.asm65.specs.Internal.RunState.{AssemblesStatement}
use Rattle.semantics65.specs.Views.{location_in}
use Rattle.asm65.proofs.driver.assemble_at_location.Goals as goal

pub returns-clause-read : goal.returns-clause-read
returns-clause-read g c =
    let at = c.place-line.ensures.current_location in
    let there = location_of c.args.run.now.expander in
    let same : location_in c.place-line.result.0.now c.place-line.result.1 ≡ there = ap (λ f. location_in f c.place-line.result.1) at.0 ∙ ap (location_in there.file) at.1 in
    let P : SourceLocation → Type 0 = λ p. AssemblesStatement (g.S.Store.files c.args.store.now) (g.S.Store.last_failure c.assemble_expanded.new.store) p (statement_of c.args.statement.now) c.args.run.now.assembler c.assemble_expanded.new.assembler c.assemble_expanded.result in
    subst P same c.assemble_expanded.ensures.read
