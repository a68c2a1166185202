use Rattle.cli65.specs.Line.{link_view}
use Rattle.tools65.proofs.ComputedOutcomes.{computes_link, link_fails_so}
use Rattle.tools65.proofs.linking.compute_link.Goals as goal

pub returns-clause-computed : goal.returns-clause-computed
returns-clause-computed g c =
    computes_link (link_view c.args.line.now) _ _ _ _ c.link_files-linked.result c.link_outcome.result c.link_files-linked.ensures.count c.link_files-linked.ensures.at_last_count c.link_files-linked.ensures.named c.link_files-linked.ensures.linked c.link_outcome.ensures

pub returns-clause-frame : goal.returns-clause-frame
returns-clause-frame g c = record {
  files = c.link_files-linked.ensures.files;
  monotone = c.link_files-linked.ensures.count.monotone;
  failing = link_fails_so (link_view c.args.line.now) _ _ c.link_files-linked.result c.link_outcome.result c.link_files-linked.ensures.count c.link_files-linked.ensures.at_last_count c.link_outcome.ensures;
}
