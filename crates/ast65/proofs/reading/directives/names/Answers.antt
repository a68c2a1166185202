use Rattle.std.proofs.Common.{ℕ, List}
use Rattle.syntax65.specs.Tokens.{lexemes}
use Rattle.ast65.specs.Parsing.{list_elements, IsName}
use Rattle.ast65.proofs.PartByPart.{ended, one_more, parts_left, stops, taken}
use Rattle.ast65.proofs.CommaLists.{parses_fault}
use Rattle.ast65.proofs.reading.directives.names.Goals as goal

pub returns-in_err-name_of : goal.returns-in_err-name_of
returns-in_err-name_of c =
    parses_fault _ _ c.from_residual.result c.in_err-name_of.field-0.0 c.from_residual.ensures.1 c.in_err-name_of.ensures.inside
    (stops IsName (list_elements (lexemes c.args.tokens.now)) c.parts.names (lexemes c.split_at_comma.result.0.now) (parts_left c.split_at_comma.result.1) (λ (names : List (List ℕ)). names) c.from_residual.result c.in_err-name_of.field-0.0 c.from_residual.ensures.1 c.in_err-name_of.ensures.value
    (taken IsName (list_elements (lexemes c.args.tokens.now)) c.parts.names c.parts.rest c.in-Some.left (lexemes c.split_at_comma.result.0.now) (parts_left c.split_at_comma.result.1) c.in-Some.is c.split_at_comma.ensures.parts c.parts.invariant))

pub parts-preserved : goal.parts-preserved
parts-preserved c =
    rw (c.in_ok-push.ensures.ok, c.in_ok-copy_of.ensures)
    (one_more IsName (list_elements (lexemes c.args.tokens.now)) c.parts.names (lexemes c.split_at_comma.result.0.now) (parts_left c.split_at_comma.result.1) c.in_ok-name_of.field-0.now c.in_ok-name_of.ensures.value
    (taken IsName (list_elements (lexemes c.args.tokens.now)) c.parts.names c.parts.rest c.in-Some.left (lexemes c.split_at_comma.result.0.now) (parts_left c.split_at_comma.result.1) c.in-Some.is c.split_at_comma.ensures.parts c.parts.invariant))

pub returns : goal.returns
returns c = record {
  value = ended IsName (list_elements (lexemes c.args.tokens.now)) c.parts.names c.parts.rest c.in_default.not-Some c.parts.invariant;
  inside = tt;
}
