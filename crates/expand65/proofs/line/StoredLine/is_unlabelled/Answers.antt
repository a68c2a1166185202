use Rattle.expand65.proofs.PlainLines.{no_label}
use Rattle.expand65.proofs.line.StoredLine.is_unlabelled.Goals as goal

pub returns : goal.returns
returns c = λ h. no_label c.args.self.now.spans c.args.self.now.bytes c.is_colon_at-first.result c.is_colon_at-second.result c.is_colon_at-first.ensures c.is_colon_at-second.ensures c.if-first.false h
