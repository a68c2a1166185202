use Rattle.std.proofs.Common.{◌∙◌, ap, refl, sym}
use Rattle.syntax65.specs.Tokens.{lexemes}
use Rattle.ast65.specs.Parsing.{assertion_text}
use Rattle.ast65.proofs.PartByPart.{parts_left, two_texts}
use Rattle.ast65.proofs.reading.directives.assertion_text.Goals as goal

pub returns-in-Some-following : goal.returns-in-Some-following
returns-in-Some-following c = record {
  value = two_texts (lexemes c.in-Some.rest.now) (lexemes c.split_at_comma.result.0.now) c.split_at_comma.result.1 c.in-Some-following.field-0 c.split_at_comma.ensures.parts c.in-Some-following.is
      ∙ ap (λ o. assertion_text (parts_left o)) (sym c.in-Some.is);
  inside = refl;
}
