use Rattle.ast65.specs.Faults.{is_system_error}
use Rattle.ast65.specs.declared.language.Statement.{Statement}
use Rattle.ast65.specs.declared.language.Statement.TheVariants.{Instruction}
use Rattle.semantics65.specs.Views.{location_in}
use Rattle.symbols65.proofs.StatementLayouts.{unless_then}
use Rattle.asm65.proofs.SymbolUpdates.{adds_pieces, nothing_follows}
use Rattle.asm65.specs.declared.assembler.Assembler.{Assembler}
use Rattle.asm65.specs.Internal.AssemblerState.{Represents}
use Rattle.asm65.proofs.StatementSteps.{represents_searched, takes_entered, takes_refused}
use Rattle.asm65.proofs.assembler.Assembler.assemble_instruction.Goals as goal

pub lay_out_next_instruction-requires : goal.lay_out_next_instruction-requires
lay_out_next_instruction-requires c = (let (count, t, h, few) = c.requires in (count, t, represents_searched count t c.args.self.now c.search_operand.new.symbols c.search_operand.ensures h, few))

pub returns-in-Err-clause-transitions : goal.returns-in-Err-clause-transitions
returns-in-Err-clause-transitions c = λ count t h few.
    (let e = c.in-Err.fault in
    let location = location_in c.args.at.file.now c.args.at.line in
    let x : Statement = Instruction c.args.mnemonic c.args.operand in
    rw c.reject_instruction.ensures (unless_then (is_system_error e) (takes_refused t location x e) (c.in-Err.ensures.refused count t (represents_searched count t c.args.self.now c.search_operand.new.symbols c.search_operand.ensures h))))

pub returns-in_ok-emit_encoded-in-Ok-clause-transitions : goal.returns-in_ok-emit_encoded-in-Ok-clause-transitions
returns-in_ok-emit_encoded-in-Ok-clause-transitions c = λ count t h few.
    (let found = c.in-Ok.field-0 in
    let searched : Assembler = record c.args.self.now { symbols = c.search_operand.new.symbols } in
    let held : Represents count t searched = represents_searched count t c.args.self.now c.search_operand.new.symbols c.search_operand.ensures h in
    let location = location_in c.args.at.file.now c.args.at.line in
    let x : Statement = Instruction c.args.mnemonic c.args.operand in
    let mid = c.lay_out_next_instruction.new.self in
    let new = c.emit_encoded.new.self in
    takes_entered count t location x found.context found.analysis.measured searched mid new held (c.in-Ok.ensures.placed count t held) (c.in-Ok.ensures.holds location count t held)
    (adds_pieces location found.context found.analysis.measured mid new x (λ y. nothing_follows y) c.in_ok-emit_encoded-in-Ok.ensures))
