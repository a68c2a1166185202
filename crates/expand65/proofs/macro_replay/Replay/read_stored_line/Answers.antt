use Rattle.std.proofs.lemmas.Result.{err_from_is_err_and}
use Rattle.expand65.specs.Replay.{remaining_replay}
use Rattle.expand65.proofs.LineReads.{body_taken, body_refused}
use Rattle.expand65.proofs.macro_replay.Replay.read_stored_line.Goals as goal

pub returns-in_err-line-clause-next_line : goal.returns-in_err-line-clause-next_line
returns-in_err-line-clause-next_line c =
    let p = err_from_is_err_and c.from_residual.result c.from_residual.ensures.1 in
    let same = rw (c.as_slice.ensures, c.deref.ensures) at c.index-as_slice-self.is in
    rw (p.1, p.2) (body_refused c.args.self.now c.index-as_slice-self.result c.in_err-line.field-0.0 (remaining_replay c.args.self.now) c.requires same c.in_err-line.ensures.value)

pub returns-clause-next_line : goal.returns-clause-next_line
returns-clause-next_line c =
    let same = rw (c.as_slice.ensures, c.deref.ensures) at c.index-as_slice-self.is in
    body_taken c.args.self.now c.index-as_slice-self.result c.in_ok-line.line c.requires same c.in_ok-line.ensures.value
