use Rattle.std.proofs.Common.{◌≡◌, ◌∙◌, [], ap, length, sym, subst, Err, Option}
use Rattle.std.proofs.lemmas.Result.{err_from_is_err_and}
use Rattle.base65.specs.Store.{Files}
use Rattle.syntax65.specs.Tokens.{lexemes}
use Rattle.semantics65.specs.Numbering.{AreSymbolNames}
use Rattle.semantics65.specs.Views.{location_in}
use Rattle.expand65.specs.Failures.{rest_statements, line_statements}
use Rattle.sources65.proofs.AssembledStatements.{some_tokens}
use Rattle.asm65.specs.Internal.RunState.{AssemblesStatements}
use Rattle.asm65.proofs.PeekedLines.{label_refused, label_taken, no_tokens, only_rest, roomy_after, roomy_less}
use Rattle.asm65.proofs.Runs.{Answer, LabelBy, some_there}
use Rattle.asm65.proofs.driver.assemble_parts.Goals as goal

pub assemble_nonempty_rest-requires : goal.assemble_nonempty_rest-requires
assemble_nonempty_rest-requires g c = roomy_less 3 1 c.args.assembler.now c.requires

pub assemble_label-requires : goal.assemble_label-requires
assemble_label-requires g c = roomy_less 2 2 c.args.assembler.now c.requires

pub assemble_nonempty_rest-requires-2 : goal.assemble_nonempty_rest-requires-2
assemble_nonempty_rest-requires-2 g c =
    roomy_after (AreSymbolNames (lexemes c.args.parts.label.now)) (LabelBy (g.S.Store.files c.args.store.now) (location_in c.args.at.file.now c.args.at.line) (lexemes c.args.parts.label.now)) c.args.assembler.now c.assemble_label.new.assembler c.requires c.in_ok-assemble_label.ensures.read.taken

pub returns-then-is_empty-clause-transitions : goal.returns-then-is_empty-clause-transitions
returns-then-is_empty-clause-transitions g c =
    only_rest (g.S.Store.files c.args.store.now) (g.S.Store.last_failure c.assemble_nonempty_rest.new.store) (location_in c.args.at.file.now c.args.at.line) (lexemes c.args.parts.label.now) (lexemes c.args.parts.rest.now) c.args.assembler.now c.assemble_nonempty_rest.new.assembler c.assemble_nonempty_rest.result (no_tokens c.args.parts.label.now c.if-is_empty.ensures) c.assemble_nonempty_rest.ensures.transitions

pub returns-in_err-assemble_label-clause-transitions : goal.returns-in_err-assemble_label-clause-transitions
returns-in_err-assemble_label-clause-transitions g c =
    let r = c.from_residual.result in
    let p = err_from_is_err_and r c.from_residual.ensures.1 in
    let e = c.in_err-assemble_label.field-0.0 in
    let o = g.S.Store.files c.args.store.now in
    let last_failure = g.S.Store.last_failure c.assemble_label.new.store in
    let location = location_in c.args.at.file.now c.args.at.line in
    let ls = lexemes c.args.parts.label.now in
    let ts = lexemes c.args.parts.rest.now in
    let some : ls ≡ [] → ⊥ = some_tokens c.args.parts.label.now (some_there (length c.args.parts.label.now) c.if-is_empty.ensures) in
    let P : Answer → Type 0 = AssemblesStatements o last_failure location (line_statements ls ts) c.args.assembler.now c.assemble_label.new.assembler in
    subst P (sym (p.1 ∙ ap Err p.2)) (label_refused o last_failure location ls ts c.args.assembler.now c.assemble_label.new.assembler e some c.in_err-assemble_label.ensures.read.taken c.in_err-assemble_label.ensures.read.stopped)

pub returns-clause-transitions : goal.returns-clause-transitions
returns-clause-transitions g c =
    let last_failure = g.S.Store.last_failure c.assemble_nonempty_rest-2.new.store in
    let location = location_in c.args.at.file.now c.args.at.line in
    let ls = lexemes c.args.parts.label.now in
    let ts = lexemes c.args.parts.rest.now in
    let mid = c.assemble_label.new.assembler in
    let new = c.assemble_nonempty_rest-2.new.assembler in
    let some : ls ≡ [] → ⊥ = some_tokens c.args.parts.label.now (some_there (length c.args.parts.label.now) c.if-is_empty.ensures) in
    let P : Option Files → Type 0 = λ o. AssemblesStatements o last_failure location (rest_statements ts) mid new c.assemble_nonempty_rest-2.result in
    label_taken (g.S.Store.files c.args.store.now) last_failure location ls ts c.args.assembler.now mid new c.in_ok-assemble_label.field-0 c.assemble_nonempty_rest-2.result some c.in_ok-assemble_label.ensures.read.taken (subst P c.in_ok-assemble_label.ensures.frame.files c.assemble_nonempty_rest-2.ensures.transitions)
