use Rattle.std.proofs.lemmas.Grind.{common_steps}
use Rattle.std.proofs.Common.{arith, ◌≡◌, ◌-◌, length, min, rules}
use Rattle.base65.proofs.Chunks.{told_whole}
use Rattle.base65.proofs.reading.read_prefix.Goals as goal

pub returns-clause-read : goal.returns-clause-read
returns-clause-read g c =
    let at : c.len-len.result ≡ length c.reading.bytes.items = search rules in
    let max_len : c.min-max_len.result ≡ min 4096 (c.args.most - length c.reading.bytes.items) = search rules in
    told_whole _ _ c.args.name.now c.len-len.result c.min-max_len.result c.in_ok-n.n c.args.most c.reading.bytes.items c.read_chunk.new.bytes.items at c.reading.invariant.files c.reading.invariant.within max_len c.if-n-lt-CHUNK.true c.reading.invariant.read c.in_ok-n.ensures.read

pub returns-in_err-n-clause-failure_offset : goal.returns-in_err-n-clause-failure_offset
returns-in_err-n-clause-failure_offset g c = grind (arith, common_steps)
