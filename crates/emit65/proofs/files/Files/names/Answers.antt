use Rattle.std.proofs.Common.{string_bytes}
use Rattle.emit65.proofs.Naming.{distinct_mapped}
use Rattle.emit65.proofs.files.Files.names.Goals as goal

pub returns-clause-distinct : goal.returns-clause-distinct
returns-clause-distinct c = distinct_mapped string_bytes c.args.self.now.table.keys c.as_slice.ensures.unique
