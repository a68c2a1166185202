use Rattle.tools65.proofs.WholeRuns.{lines_law}
use Rattle.tools65.proofs.laws.line_links_one_program.Goals as goal

pub returns : goal.returns
returns c = lines_law
