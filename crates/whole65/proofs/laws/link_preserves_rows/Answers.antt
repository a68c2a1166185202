use Rattle.whole65.proofs.Files.{rows_law}
use Rattle.whole65.proofs.laws.link_preserves_rows.Goals as goal

pub returns : goal.returns
returns c = rows_law
