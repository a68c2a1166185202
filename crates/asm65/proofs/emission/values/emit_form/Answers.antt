use Rattle.std.proofs.Common.{◌≡◌, sym, subst, ◌∙◌, rules, FitsSigned, to_z, of_z, w64}
use Rattle.std.specs.Prelude.{true}
use Rattle.std.proofs.lemmas.Int.{to_z-of_z}
use Rattle.object65.specs.Form.{Form}
use Rattle.object65.specs.Objects.{fits_width, value_bytes}
use Rattle.semantics65.specs.Contents.{value_part}
use Rattle.semantics65.specs.Views.{location_in}
use Rattle.asm65.specs.Internal.AssemblerState.{AppendsPart}
use Rattle.asm65.proofs.AppendedParts.{literal_is, literal_put, other_put}
use Rattle.asm65.proofs.emission.values.emit_form.Goals as goal

pub returns-in_ok-append-in-Some : goal.returns-in_ok-append-in-Some
returns-in_ok-append-in-Some c =
    let v = c.in-Some.value in
    let location = location_in c.args.at.file.now c.args.at.line in
    let within : FitsSigned w64 v = search rules in
    let same : to_z w64 (of_z w64 v) ≡ v = to_z-of_z w64 v within in
    let is = literal_is c.args.form v (sym c.literal_of.ensures ∙ c.in-Some.is) in
    let range = subst (λ v. fits_width c.args.width v ≡ true) same (sym c.fits.ensures ∙ c.if-fits.true) in
    let bytes = subst (λ v. c.deref.result.now ≡ value_bytes c.args.width v) same (c.deref.ensures.0 ∙ c.put.ensures) in
    subst (λ (f : Form). AppendsPart c.args.sections.now c.append.new.self c.args.segment (value_part c.args.width location f) true) (sym is)
    (literal_put c.args.sections.now c.append.new.self c.args.segment c.args.width location v c.deref.result.now range bytes c.in_ok-append-in-Some.ensures)

pub returns-in_ok-value-in-None : goal.returns-in_ok-value-in-None
returns-in_ok-value-in-None c =
    other_put c.args.sections.now c.value.new.self c.args.segment c.args.width (location_in c.args.at.file.now c.args.at.line) c.args.form (sym c.literal_of.ensures ∙ c.in-None.is) (sym c.is_file_name.ensures ∙ c.if-is_file_name.true) c.in_ok-value-in-None.ensures
