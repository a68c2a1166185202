use Rattle.std.proofs.Common.{◌∙◌, ap}
use Rattle.std.proofs.lemmas.Result.{IfOk-weaker}
use Rattle.object65.specs.Objects.{is_well_formed_object}
use Rattle.emit65.specs.SectionContents.{names_of}
use Rattle.emit65.specs.Internal.Drafts.{object_of}
use Rattle.emit65.proofs.GoodObjects.{good_object}
use Rattle.emit65.proofs.NumberedObjects.{finished}
use Rattle.emit65.proofs.sections.ClosedSections.finish.Goals as goal

pub returns-clause-object : goal.returns-clause-object
returns-clause-object c =
    let segments = c.args.segments.now in
    let names = names_of c.args.imports.now in
    let t = c.in_ok-numbered.numbered in
    IfOk-weaker c.object_of.result _ _
    (λ o made cs has. made ∙ ap (λ files. object_of segments names files t) c.names.ensures.names ∙ finished segments names c.args.self t cs c.names.ensures.distinct c.in_ok-numbered.ensures has)
    c.object_of.ensures.object

pub returns-clause-good : goal.returns-clause-good
returns-clause-good c =
    let segments = c.args.segments.now in
    let names = names_of c.args.imports.now in
    let t = c.in_ok-numbered.numbered in
    IfOk-weaker c.object_of.result _ _
    (λ o made cs has sound.
    ap is_well_formed_object (made ∙ ap (λ files. object_of segments names files t) c.names.ensures.names ∙ finished segments names c.args.self t cs c.names.ensures.distinct c.in_ok-numbered.ensures has)
    ∙ good_object segments names cs sound)
    c.object_of.ensures.object
