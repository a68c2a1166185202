use Rattle.tools65.proofs.Inputs.{sources_selected}
use Rattle.tools65.proofs.laws.written_inputs_select_sources.Goals as goal

pub returns : goal.returns
returns c = sources_selected
