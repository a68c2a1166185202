use Rattle.std.proofs.Common.{ap}
use Rattle.std.proofs.lemmas.Result.{on_ok_weaker}
use Rattle.emit65.specs.Internal.Drafts.{segment_of}
use Rattle.emit65.proofs.SectionDrafts.{nothing_put}
use Rattle.emit65.proofs.numbering.drafts.add_entry.Goals as goal

pub returns-in-DeclarationEntry-clause-drafts : goal.returns-in-DeclarationEntry-clause-drafts
returns-in-DeclarationEntry-clause-drafts c = on_ok_weaker c.push.result (λ declarations. nothing_put c.args.entry c.args.by_section.now.drafts.items (ap segment_of c.in-DeclarationEntry.is)) c.push.ensures.ok
