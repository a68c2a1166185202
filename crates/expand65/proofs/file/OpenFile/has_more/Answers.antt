use Rattle.std.proofs.Common.{◌≤◌, arith, length}
use Rattle.expand65.proofs.LineCounts.{none_left}
use Rattle.expand65.proofs.file.OpenFile.has_more.Goals as goal

pub returns-then-self-ge-MAX_FILE-clause-none : goal.returns-then-self-ge-MAX_FILE-clause-none
returns-then-self-ge-MAX_FILE-clause-none g c =
    let all : length c.args.self.now.buffer.items ≤ c.args.self.now.at = omega (arith, c.len.ensures, c.if-self-len.false) in
    none_left (g.S.Store.files c.args.store.now) c.args.self.now all (omega (arith, c.if-self-ge-MAX_FILE.true))
