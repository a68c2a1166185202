use Rattle.std.proofs.Common.{◌∷◌, [], subst}
use Rattle.syntax65.specs.Opcodes.{opcode_of}
use Rattle.semantics65.specs.Contents.{opcode_part, operand_tree}
use Rattle.semantics65.specs.Norms.{width_of}
use Rattle.semantics65.specs.Views.{location_in}
use Rattle.semantics65.specs.Module.{known_part, operand_pieces}
use Rattle.asm65.specs.Internal.AssemblerState.{EmitsPieces}
use Rattle.asm65.proofs.PieceEmission.{enters_both}
use Rattle.ast65.proofs.Lists.{on_ok}
use Rattle.asm65.proofs.assembler.Assembler.emit_encoded.Goals as goal

pub returns : goal.returns
returns c =
    let location = location_in c.args.site.at.file.now c.args.site.at.line in
    let s = c.args.site.context in
    let old = c.args.self.now in
    let mid = c.emit_opcode.new.assembler in
    let new = c.emit_operand.new.assembler in
    let mode = c.in-InMode.mode in
    let code = subst (λ code. EmitsPieces location s (known_part (opcode_part code) ∷ []) old mid) c.opcode.ensures (c.in_ok-emit_opcode.ensures.entered location) in
    rw c.in-InMode.is (on_ok c.emit_operand.result
    (λ value. enters_both location s (known_part (opcode_part (opcode_of c.args.mnemonic mode)) ∷ []) (operand_pieces (width_of mode) (operand_tree c.args.operand)) old mid new code
    (subst (λ width. EmitsPieces location s (operand_pieces width (operand_tree c.args.operand)) mid new) c.width_of.ensures value))
    c.emit_operand.ensures)
