use Rattle.std.proofs.lemmas.Grind.{common_steps}
use Rattle.std.proofs.Common.{◌∙◌, Some, arith, subst, sym}
use Rattle.object65.specs.Form.{Form}
use Rattle.semantics65.specs.Contents.{value_part}
use Rattle.semantics65.specs.Norms.{IsFinal}
use Rattle.semantics65.specs.declared.contexts.Context.{Context}
use Rattle.semantics65.specs.Views.{location_in}
use Rattle.semantics65.specs.Module.{datum, operand, expression_value}
use Rattle.symbols65.specs.Evaluations.{HasFinal}
use Rattle.symbols65.specs.Views.{table_of}
use Rattle.symbols65.proofs.Finals.{within_final}
use Rattle.symbols65.proofs.StatementLayouts.{ok_with}
use Rattle.syntax65.specs.Trees.{Tree}
use Rattle.syntax65.specs.declared.source_location.SourceLocation.{SourceLocation}
use Rattle.asm65.specs.declared.assembler.Assembler.{Assembler}
use Rattle.asm65.specs.Internal.AssemblerState.{AppendsPart, EmitsIfResolved, operand_part}
use Rattle.asm65.proofs.PieceEmission.{assertion_tried, datum_tried, operand_tried}
use Rattle.asm65.proofs.emission.values.emit_value.Goals.{In-Some}
use Rattle.asm65.proofs.emission.values.emit_value.Goals as goal

form_final : (c : In-Some) (e : Tree) → HasFinal (table_of c.args.assembler.now.symbols) c.args.site.context (Some e) c.args.form → IsFinal (table_of c.args.assembler.now.symbols) c.args.site.context e c.in-Some.form
form_final c e h = within_final _ c.args.site.context e c.in-Some.form (subst (HasFinal (table_of c.args.assembler.now.symbols) c.args.site.context (Some e)) c.in-Some.is h)

pub returns-in-Datum-clause-emitted : goal.returns-in-Datum-clause-emitted
returns-in-Datum-clause-emitted c = λ e action text h.
    let old : Assembler = c.args.assembler.now in
    let new = c.emit_form.new.sections in
    let location : SourceLocation = location_in c.args.site.at.file.now c.args.site.at.line in
    let s : Context = c.args.site.context in
    let width = c.in-Datum.width in
    let f : Form = c.in-Some.form in
    let final = form_final (goal.at.returns-in-Datum-clause-emitted c).In-Some e h in
    rw c.in-Datum.is (ok_with (AppendsPart old.sections new s.segment (value_part width location f)) (EmitsIfResolved location s (expression_value (datum width) e) old (record old { sections = new })) c.emit_form.result
    (λ b put. datum_tried old new location s width e f b final put) c.emit_form.ensures)

pub returns-in-Operand-clause-emitted : goal.returns-in-Operand-clause-emitted
returns-in-Operand-clause-emitted c = λ e action text h.
    let old : Assembler = c.args.assembler.now in
    let new = c.emit_operand_form.new.sections in
    let location : SourceLocation = location_in c.args.site.at.file.now c.args.site.at.line in
    let s : Context = c.args.site.context in
    let width = c.in-Operand.width in
    let f : Form = c.in-Some.form in
    let final = form_final (goal.at.returns-in-Operand-clause-emitted c).In-Some e h in
    rw c.in-Operand.is (ok_with (AppendsPart old.sections new s.segment (operand_part width s location f)) (EmitsIfResolved location s (expression_value (operand width) e) old (record old { sections = new })) c.emit_operand_form.result
    (λ b put. operand_tried old new location s width e f b final put) c.emit_operand_form.ensures)

pub returns-in-Some-literal_of-clause-emitted : goal.returns-in-Some-literal_of-clause-emitted
returns-in-Some-literal_of-clause-emitted c = λ e action text h.
    let old : Assembler = c.args.assembler.now in
    let location : SourceLocation = location_in c.args.site.at.file.now c.args.site.at.line in
    let s : Context = c.args.site.context in
    let f : Form = c.in-Some.form in
    let final = form_final (goal.at.returns-in-Some-literal_of-clause-emitted c).In-Some e h in
    rw c.in-Assertion.is (assertion_tried old location s action text e f c.in-Some-literal_of.value final (sym c.literal_of.ensures ∙ c.in-Some-literal_of.is) _ (λ yes is. grind (arith, common_steps)))
