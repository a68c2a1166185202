use Rattle.std.proofs.lemmas.Grind.{common_steps}
use Rattle.std.proofs.Common.{arith}
use Rattle.object65.proofs.Records.{head_read}
use Rattle.object65.proofs.reading.read_head.Goals as goal

pub returns-clause-read : goal.returns-clause-read
returns-clause-read g c =
    head_read (g.S.Store.files c.args.store.now) c.args.name.now c.args.at c.args.limit c.read_within_limit.new.buf c.in_ok-n.n c.decode_head.result c.read_within_limit.auto.buf c.in_ok-n.ensures.read c.decode_head.ensures.read

pub returns-clause-frame : goal.returns-clause-frame
returns-clause-frame g c = grind (arith, common_steps)
