use Rattle.std.proofs.Common.{sym}
use Rattle.semantics65.specs.Contents.{Known, file_bytes}
use Rattle.asm65.proofs.PieceEmission.{given_enters}
use Rattle.ast65.proofs.Lists.{on_ok}
use Rattle.asm65.proofs.emission.statements.emit_incbin.Goals as goal

pub returns : goal.returns
returns c = on_ok c.append.result (λ feeds location. given_enters c.args.assembler.now c.append.new.self location c.args.context (Known (file_bytes c.args.count c.args.bytes c.args.encoding)) (rw (sym c.file_bytes-part.ensures) feeds)) c.append.ensures
