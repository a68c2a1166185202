use Rattle.std.proofs.Common.{◌∙◌, sym}
use Rattle.expand65.proofs.Lines.{line_end, within}
use Rattle.expand65.proofs.file.line_len.Goals as goal

pub returns-clause-count : goal.returns-clause-count
returns-clause-count c = c.unwrap_or.ensures ∙ sym (line_end c.args.bytes.now c.memchr.result c.memchr.ensures)

pub returns-clause-within : goal.returns-clause-within
returns-clause-within c = rw c.unwrap_or.ensures (within c.args.bytes.now c.memchr.result c.memchr.ensures)
