use Rattle.std.proofs.Common.{◌≡◌, ◌-◌, ◌++◌, drop, map, true, Some, length}
use Rattle.syntax65.specs.Tokens.{lexemes}
use Rattle.expand65.specs.LineStart.{names_from, ◌>=>◌}
use Rattle.expand65.proofs.macros.names_of.Given as goal

abbrev pub invariant-names : goal.invariant-names
invariant-names l = names_from true (lexemes l.tokens) ≡ (names_from true (drop l.at (lexemes l.tokens)) >=> (λ ns. Some (map (λ s. s.now) l.names.items ++ ns)))

abbrev pub decreases-names : goal.decreases-names
decreases-names l = length l.tokens - l.at
