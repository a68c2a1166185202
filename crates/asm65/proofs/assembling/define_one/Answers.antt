use Rattle.std.proofs.Common.{ℕ, ◌+◌, ◌<◌, List, subst}
use Rattle.syntax65.specs.Trees.{Tree, number}
use Rattle.ast65.specs.declared.language.Statement.TheVariants.{Constant}
use Rattle.sources65.specs.Machine.{State, StepsTo}
use Rattle.sources65.specs.Reading.{RepresentsOrFails}
use Rattle.asm65.specs.Assembly.{define_of}
use Rattle.symbols65.specs.Measuring.{opening_limit}
use Rattle.asm65.specs.Internal.AssemblerState.{Represents}
use Rattle.semantics65.specs.Views.{location_in}
use Rattle.asm65.proofs.CommandLineConstants.{defines_by}
use Rattle.asm65.proofs.assembling.define_one.Goals as goal

pub returns-clause-transitions : goal.returns-clause-transitions
returns-clause-transitions c =
    let location = location_in c.args.at.file.now c.args.at.line in
    let d = c.args.define.now in
    let old = c.args.assembler.now in
    let new = c.assemble_statement.new.self in
    let r = c.assemble_statement.result in
    let P : List ℕ → Tree → Type 0 = λ n e. (count : ℕ) (t : State) → Represents count t old → count < opening_limit → RepresentsOrFails (StepsTo t location (Constant n e)) (λ u. Represents (count + 0) u new) r in
    let numbered : P c.in_ok-name.name (number d.value) = subst (P c.in_ok-name.name) c.new-value.ensures c.assemble_statement.ensures.transitions in
    defines_by location (define_of d) old new r (subst (λ n. P n (number d.value)) c.in_ok-name.ensures numbered) c.assemble_statement.ensures.texts
