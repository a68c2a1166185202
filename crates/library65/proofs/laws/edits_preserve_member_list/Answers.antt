use Rattle.library65.proofs.LoadedLibraries.{stock_law}
use Rattle.library65.proofs.laws.edits_preserve_member_list.Goals as goal

pub returns : goal.returns
returns c = stock_law
