use Rattle.std.proofs.lemmas.Grind.{common_steps}
use Rattle.std.proofs.Common.{◌≡◌, ◌∙◌, ◌≤◌, ◌-◌, ◌+◌, length, take, min, arith, rules}
use Rattle.library65.proofs.Steps.{piece_whole, told_whole}
use Rattle.library65.proofs.loading.read_member_bytes.Goals as goal

pub returns-clause-read : goal.returns-clause-read
returns-clause-read g c =
    let at : c.len-len.result ≡ length c.reading.bytes.items = search rules in
    let offset : c.args.entry.now.place + c.len-len.result ≡ c.args.entry.now.place + length c.reading.bytes.items = omega arith in
    let least : c.min-want.result ≡ min 4096 (c.args.entry.now.size - length c.reading.bytes.items) = search rules in
    let capacity : length (take c.min-want.result c.reading.chunk) ≡ c.min-want.result = search rules in
    let all : c.args.entry.now.size ≤ length c.read_chunk.new.bytes.items = omega arith in
    piece_whole _ c.args.file.now c.args.entry.now.place c.args.entry.now.size c.read_chunk.new.bytes.items all
    (told_whole _ _ c.args.file.now c.args.entry.now.place (c.args.entry.now.place + c.len-len.result) (length (take c.min-want.result c.reading.chunk)) c.in_ok-n.n c.args.entry.now.size c.reading.bytes.items c.read_chunk.new.bytes.items c.reading.invariant.files offset c.reading.invariant.within (capacity ∙ least) c.if-n-lt-CHUNK.true c.reading.invariant.read c.in_ok-n.ensures.read)

pub returns-then-len-size-clause-read : goal.returns-then-len-size-clause-read
returns-then-len-size-clause-read g c = grind (arith, common_steps)
