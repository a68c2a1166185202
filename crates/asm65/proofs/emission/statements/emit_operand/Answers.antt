use Rattle.std.proofs.lemmas.Grind.{common_steps}
use Rattle.std.proofs.Common.{arith, ◌≡◌, ◌∙◌, [], Option, OnOk, Some, subst, sym}
use Rattle.base65.specs.declared.action.Action.TheVariants as action
use Rattle.syntax65.specs.Trees.{Tree}
use Rattle.semantics65.specs.Contents.{operand_tree}
use Rattle.semantics65.specs.Views.{location_in}
use Rattle.semantics65.specs.Module.{operand, operand_pieces, expression_value}
use Rattle.symbols65.specs.Evaluations.{HasFinal}
use Rattle.symbols65.specs.Views.{table_of}
use Rattle.asm65.specs.Internal.AssemblerState.{EmitsPieces}
use Rattle.asm65.proofs.PieceEmission.{emitted_at_once, tried_waits}
use Rattle.ast65.proofs.Lists.{on_ok}
use Rattle.asm65.proofs.emission.statements.emit_operand.Goals as goal

pub returns-then-branch : goal.returns-then-branch
returns-then-branch c =
    let location = location_in c.args.site.at.file.now c.args.site.at.line in
    let s = c.args.site.context in
    let width = c.in-Some-Some.width in
    let value = c.in-Some-Some.value in
    let old = c.args.assembler.now in
    let new = c.emit_value.new.assembler in
    let is : operand_tree c.args.operand ≡ Some value = sym c.operand_value.ensures ∙ c.in-Some-Some.is-1 in
    let final : HasFinal (table_of old.symbols) s (Some value) c.args.form = subst (λ (o : Option Tree). HasFinal (table_of old.symbols) s o c.args.form) is c.requires in
    let one : EmitsPieces location s (operand_pieces (Some width) (Some value)) old new =
    emitted_at_once old new location s (expression_value (operand width) value) _ (c.in_ok-emit_value-in-Some-Some.ensures.emitted value action.Error [] final) c.if-branch.true in
    rw c.in-Some-Some.is-0 (subst (λ (o : Option Tree). EmitsPieces location s (operand_pieces (Some width) o) old new) (sym is) one)

pub returns-else-branch : goal.returns-else-branch
returns-else-branch c =
    let location = location_in c.args.site.at.file.now c.args.site.at.line in
    let s = c.args.site.context in
    let width = c.in-Some-Some.width in
    let value = c.in-Some-Some.value in
    let old = c.args.assembler.now in
    let mid = c.emit_value.new.assembler in
    let new = c.defer.new.assembler in
    let is : operand_tree c.args.operand ≡ Some value = sym c.operand_value.ensures ∙ c.in-Some-Some.is-1 in
    let final : HasFinal (table_of old.symbols) s (Some value) c.args.form = subst (λ (o : Option Tree). HasFinal (table_of old.symbols) s o c.args.form) is c.requires in
    let both : OnOk c.defer.result (EmitsPieces location s (operand_pieces (Some width) (Some value)) old new) =
    on_ok c.defer.result (λ waits. tried_waits old mid new location s (expression_value (operand width) value) _ (c.in_ok-emit_value-in-Some-Some.ensures.emitted value action.Error [] final) c.if-branch.false waits) c.defer.ensures.deferred in
    rw c.in-Some-Some.is-0 (subst (λ (o : Option Tree). OnOk c.defer.result (EmitsPieces location s (operand_pieces (Some width) o) old new)) (sym is) both)

pub returns-in_default : goal.returns-in_default
returns-in_default c = grind (arith, common_steps)
