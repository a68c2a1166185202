use Rattle.std.proofs.Common.{map, [], ◌∷◌, take}
use Rattle.std.proofs.lemmas.List.{map-append}
use Rattle.syntax65.specs.Tokens.{lexemes}
use Rattle.ast65.specs.Items.{literal_item}
use Rattle.ast65.specs.Parsing.{list_elements, IsItem}
use Rattle.ast65.proofs.PartByPart.{ended, one_more, parts_left, taken}
use Rattle.ast65.proofs.reading.directives.numbers.Goals as goal

pub parts-preserved : goal.parts-preserved
parts-preserved c = λ e.
    rw (c.in_ok-push.ensures.ok, map-append literal_item c.parts.numbers (c.in-Some-first_number.number ∷ []))
    (one_more (IsItem e) (list_elements (lexemes c.args.tokens.now)) (map literal_item c.parts.numbers) (lexemes (take 1 c.in-Some.left.now)) (parts_left c.in-Some-first_number.following) (literal_item c.in-Some-first_number.number)
    (c.in-Some-first_number.ensures.item e)
    (taken (IsItem e) (list_elements (lexemes c.args.tokens.now)) (map literal_item c.parts.numbers) c.parts.rest c.in-Some.left (lexemes (take 1 c.in-Some.left.now)) (parts_left c.in-Some-first_number.following) c.in-Some.is c.in-Some-first_number.ensures.parts (c.parts.invariant e)))

pub returns : goal.returns
returns c = λ e. ended (IsItem e) (list_elements (lexemes c.args.tokens.now)) (map literal_item c.parts.numbers) c.parts.rest c.in_default.not-Some (c.parts.invariant e)
