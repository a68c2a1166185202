use Rattle.tools65.proofs.WrittenFiles.{assembled_file}
use Rattle.tools65.proofs.laws.assembled_file_is_of_its_source.Goals as goal

pub returns : goal.returns
returns c = assembled_file
