use Rattle.std.proofs.Common.{◌∙◌, length}
use Rattle.std.proofs.lemmas.Result.{err_from_is_err_and}
use Rattle.object65.proofs.Records.{at_is_in}
use Rattle.object65.proofs.decoding.decode_record.Goals as goal

pub returns-in_err-next-clause-read : goal.returns-in_err-next-clause-read
returns-in_err-next-clause-read c =
    let p = err_from_is_err_and c.from_residual.result c.from_residual.ensures.1 in
    rw (p.1, p.2, at_is_in c.args.version c.args.at (length c.args.bytes.now) c.args.bytes.now) c.in_err-next.ensures.read

pub returns-clause-read : goal.returns-clause-read
returns-clause-read c = at_is_in c.args.version c.args.at (length c.args.bytes.now) c.args.bytes.now ∙ c.in_ok-next.ensures.read
