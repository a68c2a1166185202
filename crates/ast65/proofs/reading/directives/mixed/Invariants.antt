use Rattle.syntax65.specs.Tokens.{lexemes}
use Rattle.ast65.specs.Parsing.{list_elements, IsItem}
use Rattle.ast65.proofs.PartByPart.{count_left, parts_left, GoesOn}
use Rattle.ast65.proofs.reading.directives.mixed.Given as goal

abbrev pub invariant-parts : goal.invariant-parts
invariant-parts l = GoesOn (IsItem l.elements) (list_elements (lexemes l.tokens)) l.items (parts_left l.rest)

abbrev pub decreases-parts : goal.decreases-parts
decreases-parts l = count_left l.rest
