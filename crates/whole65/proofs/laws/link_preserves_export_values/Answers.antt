use Rattle.whole65.proofs.Files.{export_value_law}
use Rattle.whole65.proofs.laws.link_preserves_export_values.Goals as goal

pub returns : goal.returns
returns c = export_value_law
