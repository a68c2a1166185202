use Rattle.std.proofs.Common.{◌∙◌, refl, arith, IsTrue, false}
use Rattle.syntax65.specs.Tokens.{lexemes}
use Rattle.syntax65.specs.Expressions.{no_part, after_part}
use Rattle.syntax65.proofs.Phrases.{last_name, next_name}
use Rattle.syntax65.proofs.expressions.reading.read_parts.Goals as goal

pub returns-then-not-is_name-clause-parts : goal.returns-then-not-is_name-clause-parts
returns-then-not-is_name-clause-parts c =
    (refl, (c.parts.end, c.parts.invariant.lost c.parts.end (no_part c.parts.end (λ e. let f : IsTrue false = c.if-not-is_name.ensures.value.1 e in cc))))

pub returns-then-not-is_scope-clause-parts : goal.returns-then-not-is_scope-clause-parts
returns-then-not-is_scope-clause-parts c =
    last_name (lexemes c.args.tokens.now) c.args.at c.parts.end c.parts.parts c.push.new.self c.from_vec.result c.parts.invariant.so_far
    (c.if-not-is_name.ensures.value.0 refl) (λ e. let f : IsTrue false = c.if-not-is_scope.ensures.value.1 e in cc)
    (c.from_vec.ensures ∙ c.in_ok-part.ensures.items ∙ c.text_at.ensures) c.in_ok-push.ensures.ok

pub parts-preserved : goal.parts-preserved
parts-preserved c = record {
  later = omega (arith, c.parts.invariant.later);
  within = omega (arith, c.if-not-is_scope.ensures.in_bounds refl);
  so_far =
      next_name (lexemes c.args.tokens.now) c.args.at c.parts.end c.parts.parts c.push.new.self c.from_vec.result c.parts.invariant.so_far
      (c.if-not-is_name.ensures.value.0 refl) (c.if-not-is_scope.ensures.value.0 refl)
      (c.from_vec.ensures ∙ c.in_ok-part.ensures.items ∙ c.text_at.ensures) c.in_ok-push.ensures.ok;
  lost = λ k h. c.parts.invariant.lost k (after_part c.parts.end k (c.if-not-is_name.ensures.value.0 refl) (c.if-not-is_scope.ensures.value.0 refl) h);
}
