use Rattle.std.proofs.Common.{◌∙◌, List, ap, drop, sym}
use Rattle.syntax65.specs.Tokens.{lexemes}
use Rattle.syntax65.specs.declared.lexing.tokens.Token.{Token}
use Rattle.expand65.specs.LineStart.{first_directive}
use Rattle.expand65.specs.Replay.{tokens_in}
use Rattle.expand65.specs.Representation.{state_of}
use Rattle.expand65.specs.Expansion.{line_step, directive_step}
use Rattle.expand65.proofs.StepSequences.{acted_by, turns_by}
use Rattle.expand65.proofs.ExpansionFailures.{stops_by}
use Rattle.expand65.proofs.preprocessor.Preprocessor.execute_line.Goals as goal

pub returns-in_ok-tokens-in-Some-clause-outcome : goal.returns-in_ok-tokens-in-Some-clause-outcome
returns-in_ok-tokens-in-Some-clause-outcome g c =
    let old = c.args.self.now in
    let k = g.K.Knows.meaning c.args.knows.now in
    let ts = tokens_in c.args.line in
    let us = lexemes c.after_first.result.now in
    let d = c.in-Some.directive in
    let following = c.after_first.ensures ∙ ap (λ (l : List Token). drop 1 (lexemes l)) c.as_slice.ensures.value ∙ ap (drop 1) c.in_ok-tokens-in-Some.ensures in
    turns_by (g.S.Store.files c.args.store.now) c.execute_with_operands.result c.execute_with_operands.new.self (λ m. directive_step k (state_of m old) d us) (λ m. line_step k (state_of m old) ts (first_directive ts)) (λ m. acted_by k (state_of m old) ts us d (sym c.directive.ensures ∙ c.in-Some.is) following) c.execute_with_operands.ensures.outcome

pub returns-in_ok-tokens-in-Some-clause-stopped : goal.returns-in_ok-tokens-in-Some-clause-stopped
returns-in_ok-tokens-in-Some-clause-stopped g c = λ names.
    (let old = c.args.self.now in
    let k = g.K.Knows.meaning c.args.knows.now in
    let ts = tokens_in c.args.line in
    let us = lexemes c.after_first.result.now in
    let d = c.in-Some.directive in
    let following = c.after_first.ensures ∙ ap (λ (l : List Token). drop 1 (lexemes l)) c.as_slice.ensures.value ∙ ap (drop 1) c.in_ok-tokens-in-Some.ensures in
    stops_by (g.S.Store.files c.args.store.now) (g.S.Store.last_failure c.execute_with_operands.new.store) (λ m. directive_step k (state_of m old) d us) (λ m. line_step k (state_of m old) ts (first_directive ts)) old.stack c.execute_with_operands.new.self.stack c.execute_with_operands.result (λ m. acted_by k (state_of m old) ts us d (sym c.directive.ensures ∙ c.in-Some.is) following) (c.execute_with_operands.ensures.stopped names))

pub returns-in-None-clause-keeps : goal.returns-in-None-clause-keeps
returns-in-None-clause-keeps g c = c.execute_plain_line.ensures.keeps (g.S.Store.files c.args.store.now)
