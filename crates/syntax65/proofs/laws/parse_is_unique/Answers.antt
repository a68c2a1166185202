use Rattle.syntax65.proofs.UniqueParse as parses
use Rattle.syntax65.proofs.laws.parse_is_unique.Goals as goal

pub returns : goal.returns
returns c = parses.one_parse
