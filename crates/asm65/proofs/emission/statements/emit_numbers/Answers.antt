use Rattle.std.proofs.Common.{List, ℕ, map, subst}
use Rattle.std.specs.Prelude.{IfSome, OnOk, Option}
use Rattle.semantics65.specs.Contents.{section_part, Known}
use Rattle.semantics65.specs.Views.{location_in}
use Rattle.ast65.specs.declared.language.Item.{Item}
use Rattle.semantics65.specs.Module.{item_piece, resolved}
use Rattle.emit65.specs.SectionContents.{AppendsSlot}
use Rattle.asm65.specs.Internal.AssemblerState.{EmitsPieces, AreEncodedNumbers}
use Rattle.asm65.proofs.PieceEmission.{numbers_enter}
use Rattle.ast65.proofs.Lists.{on_ok}
use Rattle.asm65.proofs.emission.statements.emit_numbers.Goals as goal

pub returns-in-Some : goal.returns-in-Some
returns-in-Some c =
    let old = c.args.assembler.now in
    let s = c.args.site.context in
    let stored : AreEncodedNumbers c.args.width c.args.numbers.now c.in-Some.bytes = subst (λ (o : Option (List ℕ)). IfSome o (AreEncodedNumbers c.args.width c.args.numbers.now)) c.in-Some.is c.in_ok-bytes.ensures in
    on_ok c.append.result
    (λ feeds. numbers_enter old c.append.new.self (location_in c.args.site.at.file.now c.args.site.at.line) s c.args.width c.args.numbers.now c.in-Some.bytes stored
    (subst (λ (bytes : List ℕ). AppendsSlot old.sections c.append.new.self (resolved (section_part s.segment (Known bytes)))) c.as_slice.ensures feeds))
    c.append.ensures

pub returns-in_ok-items-in-None : goal.returns-in_ok-items-in-None
returns-in_ok-items-in-None c =
    subst (λ (items : List Item). OnOk c.emit_mixed.result (EmitsPieces (location_in c.args.site.at.file.now c.args.site.at.line) c.args.site.context (map (item_piece c.args.width) items) c.args.assembler.now c.emit_mixed.new.assembler))
    c.in_ok-items-in-None.ensures c.emit_mixed.ensures
