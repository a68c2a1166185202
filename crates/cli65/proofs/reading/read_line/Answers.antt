use Rattle.std.proofs.Common.{map, rules}
use Rattle.std.proofs.lemmas.Result.{err_from_is_err_and}
use Rattle.cli65.specs.Line.{line_of}
use Rattle.cli65.proofs.ClapClauses.{refused_line, refuses_words, takes_words}
use Rattle.cli65.proofs.reading.read_line.Goals as goal

pub returns-in_err-found : goal.returns-in_err-found
unfolding line_of
returns-in_err-found g c =
    let p = err_from_is_err_and c.from_residual-in_err-found.result c.from_residual-in_err-found.ensures.1 in
    let refused = refuses_words _ c.in_ok-command.ensures.app (map g.A.AsStr.text c.args.args.now) c.in_err-found.field-0.0 c.in_err-found.ensures.kinds in
    rw (p.1, p.2) (refused_line _ _ refused)

pub returns : goal.returns
unfolding line_of
returns g c =
    let taken = takes_words _ c.in_ok-command.ensures.app (map g.A.AsStr.text c.args.args.now) _ c.in_ok-found.ensures.kinds c.in_ok-found.ensures.matches in
    search rules
