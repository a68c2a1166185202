use Rattle.std.proofs.Common.{arith, ◌≡◌, sym, ap, ◌∙◌, None, IsTrue, false, List, ℕ, subst}
use Rattle.std.proofs.lemmas.Result.{err_from_is_err_and}
use Rattle.syntax65.specs.Tokens.{lexemes}
use Rattle.syntax65.specs.Expressions.{leaf_of, text_at}
use Rattle.syntax65.specs.Trees.{unary}
use Rattle.base65.specs.declared.values.Op1.TheVariants.{Not}
use Rattle.syntax65.proofs.Phrases.{leaf_phrase, bad_operand, prefixed_phrase, prefixed_stop, deep_prefix, deep_open, deep_negation, negated_phrase, negated_stop, enclosed_phrase, enclosed_stop, open_stop, whole_result, leaf_made, operand_stop, operand_part, right_stop, joined_part, whole_part}
use Rattle.syntax65.proofs.expressions.reading.+expr.Goals as goal

pub read_operand-returns-in-Some-clause-phrase : goal.read_operand-returns-in-Some-clause-phrase
read_operand-returns-in-Some-clause-phrase t c =
    leaf_phrase (lexemes c.args.tokens.now) c.args.depth_left c.args.at c.in-Some.leaf
    (leaf_made (lexemes c.args.tokens.now) c.args.at c.operand_start_at-start.result c.text_at.result.now c.in_ok-leaf.field-0 c.operand_start_at-start.ensures.value c.text_at.ensures c.in_ok-leaf.ensures
    ∙ c.in-Some.is)

pub read_operand-returns-in_default-start : goal.read_operand-returns-in_default-start
read_operand-returns-in_default-start t c =
    let none : leaf_of c.operand_start_at-start.result (text_at (lexemes c.args.tokens.now) c.args.at) ≡ None =
    subst (λ (text : List ℕ). leaf_of c.operand_start_at-start.result text ≡ None) c.text_at.ensures (sym c.in_ok-leaf.ensures ∙ c.in_default.is) in
    record {
      phrase = bad_operand (lexemes c.args.tokens.now) c.args.depth_left c.args.at c.operand_start_at-start.result c.operand_start_at-start.ensures.value none c.in_default-start.not-Name c.in_default-start.not-Scope c.in_default-start.not-Prefix c.in_default-start.not-Parenthesis;
      further = tt;
      in_bounds = tt;
    }

pub read_prefixed-returns-then-depth_left-eq0-clause-phrase : goal.read_prefixed-returns-then-depth_left-eq0-clause-phrase
read_prefixed-returns-then-depth_left-eq0-clause-phrase t c =
    deep_prefix (lexemes c.args.tokens.now) c.args.depth_left c.args.at c.args.op c.if-depth_left-eq0.true c.requires.prefix

pub read_prefixed-returns-in_err-operand-clause-phrase : goal.read_prefixed-returns-in_err-operand-clause-phrase
read_prefixed-returns-in_err-operand-clause-phrase t c =
    let p = err_from_is_err_and c.from_residual.result c.from_residual.ensures.1 in
    rw (p.1, p.2) (prefixed_stop (lexemes c.args.tokens.now) c.args.depth_left c.args.at c.args.op c.in_err-operand.field-0.0 (omega arith) c.requires.prefix c.in_err-operand.ensures.phrase)

pub read_prefixed-returns-clause-phrase : goal.read_prefixed-returns-clause-phrase
read_prefixed-returns-clause-phrase t c =
    rw c.new-2.ensures (prefixed_phrase (lexemes c.args.tokens.now) c.args.depth_left c.args.at c.in_ok-operand.end c.args.op c.in_ok-operand.operand _ (omega arith) c.requires.prefix (ap (λ x. unary c.args.op x) c.in_ok-new.ensures.ok) c.in_ok-operand.ensures.phrase)

pub read_negated-returns-then-depth_left-eq0-clause-phrase : goal.read_negated-returns-then-depth_left-eq0-clause-phrase
read_negated-returns-then-depth_left-eq0-clause-phrase t c =
    deep_negation (lexemes c.args.tokens.now) c.args.depth_left c.args.at c.if-depth_left-eq0.true c.requires.negation

pub read_negated-returns-in_err-operand-clause-phrase : goal.read_negated-returns-in_err-operand-clause-phrase
read_negated-returns-in_err-operand-clause-phrase t c =
    let p = err_from_is_err_and c.from_residual.result c.from_residual.ensures.1 in
    rw (p.1, p.2) (negated_stop (lexemes c.args.tokens.now) c.args.depth_left c.args.at c.in_err-operand.field-0.0 (omega arith) c.requires.negation c.in_err-operand.ensures.phrase)

pub read_negated-returns-clause-phrase : goal.read_negated-returns-clause-phrase
read_negated-returns-clause-phrase t c =
    rw c.new-2.ensures (negated_phrase (lexemes c.args.tokens.now) c.args.depth_left c.args.at c.in_ok-operand.end c.in_ok-operand.operand _ (omega arith) c.requires.negation (ap (λ x. unary Not x) c.in_ok-new.ensures.ok) c.in_ok-operand.ensures.phrase)

pub read_enclosed-returns-then-depth_left-eq0-clause-phrase : goal.read_enclosed-returns-then-depth_left-eq0-clause-phrase
read_enclosed-returns-then-depth_left-eq0-clause-phrase t c =
    deep_open (lexemes c.args.tokens.now) c.args.depth_left c.args.at c.if-depth_left-eq0.true c.requires.open

pub read_enclosed-returns-in_err-inner-clause-phrase : goal.read_enclosed-returns-in_err-inner-clause-phrase
read_enclosed-returns-in_err-inner-clause-phrase t c =
    let p = err_from_is_err_and c.from_residual.result c.from_residual.ensures.1 in
    rw (p.1, p.2) (enclosed_stop (lexemes c.args.tokens.now) c.args.depth_left c.args.at c.in_err-inner.field-0.0 (omega arith) c.requires.open c.in_err-inner.ensures.phrase)

pub read_enclosed-returns-then-closes_at-clause-phrase : goal.read_enclosed-returns-then-closes_at-clause-phrase
read_enclosed-returns-then-closes_at-clause-phrase t c =
    enclosed_phrase (lexemes c.args.tokens.now) c.args.depth_left c.args.at c.in_ok-inner.end c.in_ok-inner.inner (omega arith) c.requires.open c.in_ok-inner.ensures.phrase (sym c.if-closes_at.ensures.value)

pub read_enclosed-returns-else-closes_at-clause-phrase : goal.read_enclosed-returns-else-closes_at-clause-phrase
read_enclosed-returns-else-closes_at-clause-phrase t c =
    open_stop (lexemes c.args.tokens.now) c.args.depth_left c.args.at c.in_ok-inner.end c.in_ok-inner.inner (omega arith) c.requires.open c.in_ok-inner.ensures.phrase (sym c.if-closes_at.ensures.value)

pub read_whole-returns-else-is_negation-clause-phrase : goal.read_whole-returns-else-is_negation-clause-phrase
read_whole-returns-else-is_negation-clause-phrase t c =
    whole_result (lexemes c.args.tokens.now) c.args.depth_left c.args.at c.read_level.result (λ e. let f : IsTrue false = c.if-is_negation.ensures.value.1 e in cc) c.read_level.ensures.phrase

pub read_level-returns-in_err-left-clause-phrase : goal.read_level-returns-in_err-left-clause-phrase
read_level-returns-in_err-left-clause-phrase t c =
    let p = err_from_is_err_and c.from_residual.result c.from_residual.ensures.1 in
    rw (p.1, p.2) (operand_stop (lexemes c.args.tokens.now) c.args.depth_left c.args.level c.args.at c.in_err-left.field-0.0 (omega arith) c.in_err-left.ensures.phrase)

pub read_level-operators-init : goal.read_level-operators-init
read_level-operators-init t c = record {
  part = operand_part (lexemes c.args.tokens.now) c.args.depth_left c.args.level c.args.at _ _ c.in_ok-left.ensures.phrase;
  further = c.in_ok-left.ensures.further;
  within = c.in_ok-left.ensures.in_bounds;
}

pub read_level-returns-in_err-right-clause-phrase : goal.read_level-returns-in_err-right-clause-phrase
read_level-returns-in_err-right-clause-phrase t c =
    let p = err_from_is_err_and c.from_residual-in_err-right.result c.from_residual-in_err-right.ensures.1 in
    rw (p.1, p.2) (right_stop (lexemes c.args.tokens.now) c.args.depth_left c.args.level c.in-Some.own c.args.at c.operators.end c.in-Some.op c.operators.left c.in_err-right.field-0.0 (omega arith) c.operators.invariant.part c.in-Some.ensures.value.0 c.in-Some.ensures.value.1.0 c.in-Some.ensures.value.1.1 c.in_err-right.ensures.phrase)

pub read_level-operators-preserved : goal.read_level-operators-preserved
read_level-operators-preserved t c = record {
  part =
      rw c.new-left.ensures (joined_part (lexemes c.args.tokens.now) c.args.depth_left c.args.level c.in-Some.own c.args.at c.operators.end _ c.in-Some.op c.operators.left c.in_ok-right.right _ _ c.operators.invariant.part c.in-Some.ensures.value.0 c.in-Some.ensures.value.1.0 c.in-Some.ensures.value.1.1 c.in_ok-right.ensures.phrase
      (ap (λ o. o.left) c.in_ok-new.ensures.ok) (ap (λ o. o.right) c.in_ok-new.ensures.ok));
  further = omega (arith, c.operators.invariant.further, c.in_ok-right.ensures.further);
  within = c.in_ok-right.ensures.in_bounds;
}

pub read_level-returns-clause-phrase : goal.read_level-returns-clause-phrase
read_level-returns-clause-phrase t c =
    whole_part (lexemes c.args.tokens.now) c.args.depth_left c.args.level c.args.at c.operators.end c.operators.left c.operators.invariant.part c.in_default.ensures.value
