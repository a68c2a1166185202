use Rattle.link65.proofs.FileLemmas.{named_err, named_ok}
use Rattle.link65.proofs.files.file_name.Goals as goal

pub returns-in-Ok : goal.returns-in-Ok
returns-in-Ok c = named_ok c.args.output.now c.in-Named.name c.as_slice.result.now c.in-Ok.name.now c.args.file.now c.in-Named.is c.as_slice.ensures c.in-Ok.ensures.cases.0 c.in-Ok.ensures.cases.1

pub returns-in-Err : goal.returns-in-Err
returns-in-Err c = named_err c.args.output.now c.in-Named.name c.as_slice.result.now c.args.file.now c.in-Named.is c.as_slice.ensures c.in-Err.ensures.cases.0
