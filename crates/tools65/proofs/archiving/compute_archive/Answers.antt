use Rattle.cli65.specs.Line.{archive_view}
use Rattle.tools65.proofs.ComputedOutcomes.{archive_fails_so, computes_archive}
use Rattle.tools65.proofs.archiving.compute_archive.Goals as goal

pub returns-clause-computed : goal.returns-clause-computed
returns-clause-computed g c =
    computes_archive (archive_view c.args.line.now) _ _ _ _ c.archive-archived.result c.archive_outcome.result c.archive-archived.ensures.count c.archive-archived.ensures.at_last_count c.archive-archived.ensures.named c.archive-archived.ensures.archived c.archive_outcome.ensures

pub returns-clause-frame : goal.returns-clause-frame
returns-clause-frame g c = record {
  files = c.archive-archived.ensures.files;
  monotone = c.archive-archived.ensures.count.monotone;
  failing = archive_fails_so (archive_view c.args.line.now) _ _ c.archive-archived.result c.archive_outcome.result c.archive-archived.ensures.count c.archive-archived.ensures.at_last_count c.archive_outcome.ensures;
}
