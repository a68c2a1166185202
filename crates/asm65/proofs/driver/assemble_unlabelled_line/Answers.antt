use Rattle.std.proofs.Common.{List, ap, subst, ◌∙◌}
use Rattle.syntax65.specs.Tokens.{Lexeme, lexemes}
use Rattle.semantics65.specs.Numbering.{AreSymbolNames}
use Rattle.semantics65.specs.Views.{location_in}
use Rattle.sources65.specs.Machine.{StepsTo}
use Rattle.sources65.specs.Reading.{AssemblesTokens}
use Rattle.asm65.specs.Internal.RunState.{RefinesRead}
use Rattle.asm65.proofs.driver.assemble_unlabelled_line.Goals as goal

pub returns-in-Some-clause-read : goal.returns-in-Some-clause-read
returns-in-Some-clause-read g c =
    let location = location_in c.args.at.file.now c.args.at.line in
    let P : List Lexeme → Type 0 = λ ts. RefinesRead (g.S.Store.files c.args.store.now) (g.S.Store.last_failure c.assemble_rest.new.store) (AreSymbolNames ts) (λ m t. AssemblesTokens m StepsTo t location ts) 1 c.args.assembler.now c.assemble_rest.new.assembler c.assemble_rest.result in
    subst P (c.in-Some.ensures.tokens) c.assemble_rest.ensures.read

pub returns-in_ok-tokens-in-None-clause-read : goal.returns-in_ok-tokens-in-None-clause-read
returns-in_ok-tokens-in-None-clause-read g c =
    let location = location_in c.args.at.file.now c.args.at.line in
    let P : List Lexeme → Type 0 = λ ts. RefinesRead (g.S.Store.files c.args.store.now) (g.S.Store.last_failure c.assemble_rest-in-None.new.store) (AreSymbolNames ts) (λ m t. AssemblesTokens m StepsTo t location ts) 1 c.args.assembler.now c.assemble_rest-in-None.new.assembler c.assemble_rest-in-None.result in
    subst P (ap lexemes c.deref.ensures.value ∙ c.in_ok-tokens-in-None.ensures) c.assemble_rest-in-None.ensures.read
