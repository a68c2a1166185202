use Rattle.std.proofs.Common.{rules, arith, ◌≡◌, ◌∙◌, [], length, ap, refl, sym, subst, Err, Ok}
use Rattle.std.proofs.lemmas.Grind.{common_steps}
use Rattle.std.proofs.lemmas.Result.{err_from_is_err_and}
use Rattle.syntax65.specs.Tokens.{lexemes}
use Rattle.ast65.specs.Faults.{is_system_error}
use Rattle.semantics65.specs.Numbering.{AreSymbolNames}
use Rattle.ast65.specs.declared.language.Statement.{Statement}
use Rattle.ast65.specs.declared.language.Statement.TheVariants.{Instruction}
use Rattle.symbols65.proofs.StatementLayouts.{unless_then}
use Rattle.ast65.specs.Parsing.{IsOperand}
use Rattle.asm65.specs.Internal.RunState.{read_bytes, RefinesAllTransitions}
use Rattle.semantics65.specs.Views.{location_in}
use Rattle.sources65.specs.Machine.{StepsTo}
use Rattle.sources65.specs.Reading.{AssemblesTokens}
use Rattle.sources65.proofs.AssembledStatements.{some_tokens}
use Rattle.asm65.specs.Assembly.{AnswersWithoutFile}
use Rattle.asm65.proofs.Runs.{Answer, RestBy, never_stops, rest_leaves, rest_stops, rest_unread, rest_wrong, some_there, sound_leaves, some_all}
use Rattle.asm65.proofs.driver.assemble_rest.Goals as goal

pub returns-in_err-read_incbin-clause-read : goal.returns-in_err-read_incbin-clause-read
returns-in_err-read_incbin-clause-read g c =
    let r = c.from_residual-in_err-read_incbin.result in
    let p = err_from_is_err_and r c.from_residual-in_err-read_incbin.ensures.1 in
    let e = c.in_err-read_incbin.field-0.0 in
    let location = location_in c.args.at.file.now c.args.at.line in
    let ts = lexemes c.args.tokens.now in
    let some : ts ≡ [] → ⊥ = some_tokens c.args.tokens.now (some_there (length c.args.tokens.now) c.if-is_empty.ensures) in
    let P : Answer → Type 0 = RefinesAllTransitions (AreSymbolNames ts) (RestBy (g.S.Store.files c.args.store.now) location ts) 1 c.args.assembler.now c.args.assembler.now in
    record {
      taken = subst P (sym (p.1 ∙ ap Err p.2)) (rest_unread (g.S.Store.files c.args.store.now) (g.S.Store.last_failure c.read_incbin.new.store) location c.in_ok-statement.statement c.args.assembler.now e c.in_err-read_incbin.ensures.refused ts some c.in_ok-statement.ensures.value);
      stopped = rest_stops (g.S.Store.files c.args.store.now) (g.S.Store.last_failure c.read_incbin.new.store) location c.in_ok-statement.statement c.args.assembler.now e c.in_err-read_incbin.ensures.refused ts r some c.in_ok-statement.ensures.value c.in_err-read_incbin.ensures.failed (p.1 ∙ ap Err p.2);
    }

pub returns-in_err-operand-clause-read : goal.returns-in_err-operand-clause-read
returns-in_err-operand-clause-read g c = record {
  taken = (let p = err_from_is_err_and c.from_residual.result c.from_residual.ensures.1 in
      let e = c.in_err-operand.field-0.0 in
      let location = location_in c.args.at.file.now c.args.at.line in
      let ts = lexemes c.args.tokens.now in
      let some : ts ≡ [] → ⊥ = some_tokens c.args.tokens.now (some_there (length c.args.tokens.now) c.if-is_empty.ensures) in
      let wrong = unless_then (is_system_error e) (λ (i : IsOperand (lexemes c.in-Some.following.now) (Err e)). c.in-Some.ensures (Err e) (Err e, i, refl)) c.in_err-operand.ensures.value in
      let P : Answer → Type 0 = RefinesAllTransitions (AreSymbolNames ts) (RestBy (g.S.Store.files c.args.store.now) location ts) 1 c.args.assembler.now c.args.assembler.now in
      subst P (sym (p.1 ∙ ap Err p.2)) (rest_wrong (g.S.Store.files c.args.store.now) location ts c.args.assembler.now e some wrong));
  stopped = first_of (search rules, grind (arith, common_steps));
}

pub returns-in-Some-clause-read : goal.returns-in-Some-clause-read
returns-in-Some-clause-read g c = record {
  taken = (let o = g.S.Store.files c.args.store.now in
      let location = location_in c.args.at.file.now c.args.at.line in
      let ts = lexemes c.args.tokens.now in
      let old = c.args.assembler.now in
      let new = c.assemble_instruction.new.self in
      let r = c.assemble_instruction.result in
      let x : Statement = Instruction c.in-Some.mnemonic c.in_ok-operand.operand in
      let some : ts ≡ [] → ⊥ = some_tokens c.args.tokens.now (some_there (length c.args.tokens.now) c.if-is_empty.ensures) in
      rest_leaves o location ts x x old new r some (c.in-Some.ensures (Ok x) (Ok c.in_ok-operand.operand, c.in_ok-operand.ensures.value, refl))
      (some_all (λ m. x ≡ read_bytes m location x) o (λ m. refl))
      (sound_leaves location x old new r tt c.assemble_instruction.ensures.transitions c.assemble_instruction.ensures.texts));
  stopped = first_of (search rules, grind (arith, common_steps));
}

pub returns-clause-read : goal.returns-clause-read
returns-clause-read g c = record {
  taken = (let some : lexemes c.args.tokens.now ≡ [] → ⊥ = some_tokens c.args.tokens.now (some_there (length c.args.tokens.now) c.if-is_empty.ensures) in
      let location = location_in c.args.at.file.now c.args.at.line in
      let ts = lexemes c.args.tokens.now in
      let x = c.in_ok-statement.statement in
      let y = c.read_incbin.new.statement in
      rest_leaves (g.S.Store.files c.args.store.now) location ts x y c.args.assembler.now c.assemble_well_formed.new.assembler c.assemble_well_formed.result some c.in_ok-statement.ensures.value c.in_ok-read_incbin.ensures.bytes c.assemble_well_formed.ensures.transitions);
  stopped = (let location = location_in c.args.at.file.now c.args.at.line in
      never_stops (AnswersWithoutFile (g.S.Store.files c.args.store.now) (g.S.Store.last_failure c.read_incbin.new.store) (λ m t. AssemblesTokens m StepsTo t location (lexemes c.args.tokens.now))) 1 c.args.assembler.now c.assemble_well_formed.new.assembler c.assemble_well_formed.result c.assemble_well_formed.ensures.no_failure);
}

pub assemble_instruction-requires : goal.assemble_instruction-requires
assemble_instruction-requires g c = grind (arith, common_steps)

pub returns-in-Some-clause-frame : goal.returns-in-Some-clause-frame
returns-in-Some-clause-frame g c = grind (arith, common_steps)

pub returns-clause-frame : goal.returns-clause-frame
returns-clause-frame g c = grind (arith, common_steps)

pub returns-then-is_empty-clause-read : goal.returns-then-is_empty-clause-read
returns-then-is_empty-clause-read g c = grind (arith, common_steps)
