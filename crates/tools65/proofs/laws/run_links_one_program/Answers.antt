use Rattle.tools65.proofs.WholeRuns.{words_law}
use Rattle.tools65.proofs.laws.run_links_one_program.Goals as goal

pub returns : goal.returns
returns c = words_law
