use Rattle.script65.proofs.LongestTokens.{longest_tokens}
use Rattle.script65.proofs.laws.tokens_are_longest.Goals as goal

pub returns : goal.returns
returns c = longest_tokens
