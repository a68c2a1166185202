use Rattle.std.proofs.Common.{rules}
use Rattle.std.proofs.lemmas.Result.{err_from_is_err_and}
use Rattle.std.proofs.lemmas.List.{take_rest}
use Rattle.output65.proofs.Texts.{written_more, written_part, still_there}
use Rattle.output65.proofs.writing.write_file.Goals as goal

pub returns-in_err-n-clause-err : goal.returns-in_err-n-clause-err
returns-in_err-n-clause-err g c =
    let p = err_from_is_err_and c.from_residual-in_err-n.result c.from_residual-in_err-n.ensures.1 in
    rw (p.1) (written_part c.in_err-n.field-0.0 _ _ _ c.args.name.now c.args.bytes.now c.writing.rest.now c.writing.invariant.files c.in_err-n.ensures.appended)

pub writing-preserved : goal.writing-preserved
writing-preserved g c = record {
  files = simp take_rest (written_more _ _ _ _ _ _ c.in_ok-n.n c.writing.invariant.files c.in_ok-n.ensures.appended);
  count = search rules;
}

pub returns-in_err-n-clause-there : goal.returns-in_err-n-clause-there
returns-in_err-n-clause-there g c =
    let p = err_from_is_err_and c.from_residual-in_err-n.result c.from_residual-in_err-n.ensures.1 in
    let there = still_there c.in_err-n.field-0.0 _ _ _ c.args.name.now c.args.bytes.now c.writing.rest.now c.writing.invariant.files c.in_err-n.ensures.appended in
    rw (p.1, p.2) there
