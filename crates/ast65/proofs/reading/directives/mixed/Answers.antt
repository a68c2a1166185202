use Rattle.syntax65.specs.Tokens.{lexemes}
use Rattle.ast65.specs.Parsing.{list_elements, IsItem}
use Rattle.ast65.proofs.PartByPart.{ended, one_more, parts_left, stops, taken}
use Rattle.ast65.proofs.CommaLists.{parses_fault}
use Rattle.ast65.proofs.reading.directives.mixed.Goals as goal

pub returns-in_err-item : goal.returns-in_err-item
returns-in_err-item c =
    parses_fault _ _ c.from_residual-in_err-item.result c.in_err-item.field-0.0 c.from_residual-in_err-item.ensures.1 c.in_err-item.ensures.inside
    (stops (IsItem c.args.elements) (list_elements (lexemes c.args.tokens.now)) c.parts.items (lexemes c.split_at_comma.result.0.now) (parts_left c.split_at_comma.result.1) (λ x. x) c.from_residual-in_err-item.result c.in_err-item.field-0.0 c.from_residual-in_err-item.ensures.1 c.in_err-item.ensures.value
    (taken (IsItem c.args.elements) (list_elements (lexemes c.args.tokens.now)) c.parts.items c.parts.rest c.in-Some.left (lexemes c.split_at_comma.result.0.now) (parts_left c.split_at_comma.result.1) c.in-Some.is c.split_at_comma.ensures.parts c.parts.invariant))

pub parts-preserved : goal.parts-preserved
parts-preserved c =
    rw c.in_ok-push.ensures.ok
    (one_more (IsItem c.args.elements) (list_elements (lexemes c.args.tokens.now)) c.parts.items (lexemes c.split_at_comma.result.0.now) (parts_left c.split_at_comma.result.1) c.in_ok-item.field-0 c.in_ok-item.ensures.value
    (taken (IsItem c.args.elements) (list_elements (lexemes c.args.tokens.now)) c.parts.items c.parts.rest c.in-Some.left (lexemes c.split_at_comma.result.0.now) (parts_left c.split_at_comma.result.1) c.in-Some.is c.split_at_comma.ensures.parts c.parts.invariant))

pub returns : goal.returns
returns c = record {
  value = ended (IsItem c.args.elements) (list_elements (lexemes c.args.tokens.now)) c.parts.items c.parts.rest c.in_default.not-Some c.parts.invariant;
  inside = tt;
}
