use Rattle.std.proofs.lemmas.Grind.{common_steps}
use Rattle.std.proofs.Common.{arith, ◌≡◌, ◌∙◌, ℕ, List, Option, ap, sym, subst, take, drop}
use Rattle.std.specs.Prelude.{IfSome}
use Rattle.std.proofs.lemmas.List.{drop-map, take-map}
use Rattle.std.proofs.lemmas.Result.{err_from_is_err_and}
use Rattle.syntax65.specs.Tokens.{stored_lexemes, Lexeme, lexeme_of, lexemes}
use Rattle.expand65.specs.declared.skipping.Peeked.{Peeked}
use Rattle.expand65.specs.Failures.{IsPeekedLine, NeedsNoExpansion}
use Rattle.expand65.specs.Representation.{location_of}
use Rattle.semantics65.specs.Views.{location_in}
use Rattle.asm65.specs.Internal.RunState.{AssemblesLine}
use Rattle.asm65.proofs.PeekedLines.{line_is, roomy_ahead}
use Rattle.asm65.proofs.Runs.{Answer}
use Rattle.asm65.proofs.driver.assemble_peeked_line.Given.{Over}
use Rattle.asm65.proofs.driver.assemble_peeked_line.Goals.{After-consume_peeked}
use Rattle.asm65.proofs.driver.assemble_peeked_line.Goals as goal

-- the statements of the peeked line are assembled
assembled : (g : Over) (c : After-consume_peeked g) → AssemblesLine (g.S.Store.files c.args.store.now) (g.S.Store.last_failure c.assemble_parts-taken.new.store) c.args.run.now (record { expander = c.consume_peeked.new.self; assembler = c.assemble_parts-taken.new.assembler }) c.assemble_parts-taken.result
assembled g c =
    let e = c.args.run.now.expander in
    let ts = stored_lexemes c.peek.new.tokens in
    let line = c.in-Some.line in
    let n = c.in-Some-unexpanded_label_len.len in
    let P : Option Peeked → Type 0 = λ o. IfSome o (λ p. IsPeekedLine e p ts) in
    let ahead : IsPeekedLine e line ts = subst P c.in-Some.is c.peek.ensures.lookahead in
    let N : Option ℕ → Type 0 = λ o. IfSome o (λ i. NeedsNoExpansion i e.processor (lexemes c.as_slice.result.now)) in
    let K : List Lexeme → Type 0 = λ l. NeedsNoExpansion n e.processor l in
    let is : NeedsNoExpansion n e.processor ts = subst K c.as_slice.ensures (subst N c.in-Some-unexpanded_label_len.is c.unexpanded_label_len.ensures.statements) in
    let tokens = c.as_slice-2.result.now in
    let front : lexemes c.split_at.result.0.now ≡ take n ts = ap lexemes c.split_at.ensures.front ∙ sym (take-map lexeme_of n tokens) ∙ ap (take n) c.as_slice-2.ensures in
    let following : lexemes c.split_at.result.1.now ≡ drop n ts = ap lexemes c.split_at.ensures.back ∙ sym (drop-map lexeme_of n tokens) ∙ ap (drop n) c.as_slice-2.ensures in
    let location = location_in c.place.result.0.now line.number in
    let at : location ≡ location_of c.consume_peeked.new.self = ap (λ f. location_in f line.number) c.place.ensures.current_location.0 ∙ sym c.consume_peeked.ensures.current_location in
    line_is (g.S.Store.files c.args.store.now) (g.S.Store.last_failure c.assemble_parts-taken.new.store) c.args.run.now c.consume_peeked.new.self c.assemble_parts-taken.new.assembler n ts (lexemes c.split_at.result.0.now) (lexemes c.split_at.result.1.now) location c.assemble_parts-taken.result
    (c.consume_peeked.ensures.statements n ts ahead is) (c.consume_peeked.ensures.less ts ahead) (λ m. c.consume_peeked.ensures.positioned m ts ahead) front following at c.assemble_parts-taken.ensures.transitions

pub assemble_parts-taken-requires : goal.assemble_parts-taken-requires
assemble_parts-taken-requires g c =
    let e = c.args.run.now.expander in
    let ts = stored_lexemes c.peek.new.tokens in
    let P : Option Peeked → Type 0 = λ o. IfSome o (λ p. IsPeekedLine e p ts) in
    roomy_ahead c.args.run.now c.in-Some.line ts (subst P c.in-Some.is c.peek.ensures.lookahead) c.requires

pub returns-in_err-taken-clause-next : goal.returns-in_err-taken-clause-next
returns-in_err-taken-clause-next g c =
    let R : Answer → Type 0 = λ q. AssemblesLine (g.S.Store.files c.args.store.now) (g.S.Store.last_failure c.assemble_parts-taken.new.store) c.args.run.now (record { expander = c.consume_peeked.new.self; assembler = c.assemble_parts-taken.new.assembler }) q in
    let p = err_from_is_err_and c.from_residual.result c.from_residual.ensures.1 in
    rw (p.1, p.2) (subst R c.in_err-taken.was (assembled g (goal.at.returns-in_err-taken-clause-next g c).After-consume_peeked))

pub returns-clause-next : goal.returns-clause-next
returns-clause-next g c =
    let R : Answer → Type 0 = λ q. AssemblesLine (g.S.Store.files c.args.store.now) (g.S.Store.last_failure c.assemble_parts-taken.new.store) c.args.run.now (record { expander = c.consume_peeked.new.self; assembler = c.assemble_parts-taken.new.assembler }) q in
    subst R c.in_ok-taken.was (assembled g (goal.at.returns-clause-next g c).After-consume_peeked)

pub split_at-requires : goal.split_at-requires
split_at-requires g c = grind (arith, common_steps)
