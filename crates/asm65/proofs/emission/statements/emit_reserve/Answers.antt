use Rattle.semantics65.specs.Contents.{reserve_part}
use Rattle.semantics65.specs.declared.contexts.EncodingChoice.TheVariants.{FillByte}
use Rattle.asm65.proofs.PieceEmission.{given_enters}
use Rattle.asm65.proofs.AppendedParts.{other_room}
use Rattle.ast65.proofs.Lists.{on_ok}
use Rattle.asm65.proofs.emission.statements.emit_reserve.Goals as goal

pub returns-in-FillByte : goal.returns-in-FillByte
returns-in-FillByte c = rw c.in-FillByte.is (on_ok c.fill.result (λ feeds location. given_enters c.args.assembler.now c.fill.new.self location c.args.context (reserve_part c.args.count (FillByte c.in-FillByte.byte)) feeds) c.fill.ensures)

pub returns-in_default : goal.returns-in_default
returns-in_default c = on_ok c.reserve_bytes.result (λ feeds location. given_enters c.args.assembler.now c.reserve_bytes.new.self location c.args.context (reserve_part c.args.count c.args.encoding) (rw (other_room c.args.count c.args.encoding c.in_default.not-FillByte) feeds)) c.reserve_bytes.ensures
