use Rattle.std.proofs.Common.{Some, None}
use Rattle.semantics65.specs.Contents.{opcode_part}
use Rattle.asm65.proofs.PieceEmission.{given_enters}
use Rattle.ast65.proofs.Lists.{on_ok}
use Rattle.asm65.proofs.emission.statements.emit_opcode.Goals as goal

pub returns-in-Some-clause-entered : goal.returns-in-Some-clause-entered
returns-in-Some-clause-entered c = rw c.in-Some.is (on_ok c.append.result (λ feeds location. given_enters c.args.assembler.now c.append.new.self location c.args.context (opcode_part (Some c.in-Some.code)) feeds) c.append.ensures)

pub returns-in-None-clause-entered : goal.returns-in-None-clause-entered
returns-in-None-clause-entered c = rw c.in-None.is (on_ok c.append-in-None.result (λ feeds location. given_enters c.args.assembler.now c.append-in-None.new.self location c.args.context (opcode_part None) feeds) c.append-in-None.ensures)
