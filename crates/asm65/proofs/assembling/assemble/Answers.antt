use Rattle.asm65.specs.Assembly.{job_of}
use Rattle.asm65.proofs.LayoutFailures.{all_laid}
use Rattle.asm65.proofs.Outcomes.{as_memory, stops_never_so}
use Rattle.asm65.proofs.assembling.assemble.Goals as goal

pub returns-in-Ok-clause-stopped : goal.returns-in-Ok-clause-stopped
returns-in-Ok-clause-stopped g c = all_laid (g.S.Store.files c.args.store.now) (g.S.Store.last_failure c.assemble_with.new.store) (job_of c.args.job.now) c.assemble_with.result c.assemble_with.ensures.stopped

pub returns-in-Err-clause-stopped : goal.returns-in-Err-clause-stopped
returns-in-Err-clause-stopped g c =
    let o = g.S.Store.files c.args.store.now in
    let last_failure = g.S.Store.last_failure c.args.store.now in
    let job = job_of c.args.job.now in
    let a = c.fail_without_location.result in
    all_laid o last_failure job a (stops_never_so o last_failure job a (as_memory a.result c.fail_without_location.ensures.fault))
