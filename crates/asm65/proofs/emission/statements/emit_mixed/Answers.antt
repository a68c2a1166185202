use Rattle.std.proofs.Common.{arith, ◌≡◌, List, ℕ, ◌∷◌, [], map, sym, subst, ◌∙◌}
use Rattle.std.proofs.lemmas.Grind.{common_steps}
use Rattle.std.specs.Vec.Iter.{into_iter_items}
use Rattle.syntax65.specs.declared.source_location.SourceLocation.{SourceLocation}
use Rattle.base65.specs.declared.width.Width.{Width}
use Rattle.semantics65.specs.Contents.{section_part, Known}
use Rattle.ast65.specs.declared.language.Item.{Item}
use Rattle.semantics65.specs.declared.contexts.Context.{Context}
use Rattle.semantics65.specs.Views.{location_in}
use Rattle.semantics65.specs.Module.{item_piece, resolved}
use Rattle.emit65.specs.SectionContents.{AppendsSlot}
use Rattle.symbols65.specs.Evaluations.{HaveFinals}
use Rattle.symbols65.specs.Views.{table_of}
use Rattle.asm65.specs.declared.assembler.Assembler.{Assembler}
use Rattle.asm65.specs.Internal.AssemblerState.{EmitsPieces}
use Rattle.asm65.proofs.PieceEmission.{enters_both, enters_none, given_enters, next_finals}
use Rattle.asm65.proofs.emission.statements.emit_mixed.Goals.{In_ok-append-in-StringLiteral}
use Rattle.asm65.proofs.emission.statements.emit_mixed.Goals as goal

abbrev Entered : SourceLocation → Context → Width → (old new : Assembler) → List Item → Type 0
Entered location s width old new items = EmitsPieces location s (map (item_piece width) items) old new

pub loop-item-init : goal.loop-item-init
loop-item-init c = record {
  entered = λ b h.
      subst (Entered (location_in c.args.site.at.file.now c.args.site.at.line) c.args.site.context c.args.width c.args.assembler.now b)
      (c.into_iter-item-iterator.ensures.into_iter_gives.0 ∙ c.into_vec-item-items.ensures) h;
  finals =
      let y = table_of c.args.assembler.now.symbols in
      let s = c.args.site.context in
      subst (λ (items : List Item). HaveFinals y s items (into_iter_items c.into_iter-forms.result)) (sym (c.into_iter-item-iterator.ensures.into_iter_gives.0 ∙ c.into_vec-item-items.ensures))
      (subst (HaveFinals y s c.args.items) (sym c.into_iter-forms.ensures.rest) c.requires);
}

-- ---- After a string.

module _ (c : In_ok-append-in-StringLiteral) where
  abbrev after : Assembler
  after = record c.loop-item.assembler { sections = c.append.new.self }

  string_entered : (b : Assembler) → Entered (location_in c.args.site.at.file.now c.args.site.at.line) c.args.site.context c.args.width after b (into_iter_items c.next.new.self) → Entered (location_in c.args.site.at.file.now c.args.site.at.line) c.args.site.context c.args.width c.args.assembler.now b c.args.items
  string_entered b h =
      let location = location_in c.args.site.at.file.now c.args.site.at.line in
      let s = c.args.site.context in
      let a : Assembler = c.loop-item.assembler in
      let one : EmitsPieces location s (item_piece c.args.width c.in-Some.item ∷ []) a after =
      rw c.in-StringLiteral.is (given_enters a c.append.new.self location s (Known c.in-StringLiteral.bytes)
      (subst (λ (bytes : List ℕ). AppendsSlot a.sections c.append.new.self (resolved (section_part s.segment (Known bytes)))) c.as_slice.ensures c.in_ok-append-in-StringLiteral.ensures)) in
      c.loop-item.invariant.entered b
      (subst (Entered location s c.args.width a b) (sym c.in-Some.ensures.steps.0)
      (enters_both location s (item_piece c.args.width c.in-Some.item ∷ []) (map (item_piece c.args.width) (into_iter_items c.next.new.self)) a after b one h))

  finals_after : HaveFinals (table_of c.loop-item.assembler.symbols) c.args.site.context (into_iter_items c.next.new.self) (into_iter_items c.next_form-form.new.forms)
  finals_after =
      let y = table_of c.loop-item.assembler.symbols in
      (next_finals y c.args.site.context c.in-Some.item (into_iter_items c.next.new.self) (into_iter_items c.loop-item.forms) c.next_form-form.result (into_iter_items c.next_form-form.new.forms)
      (subst (λ (items : List Item). HaveFinals y c.args.site.context items (into_iter_items c.loop-item.forms)) c.in-Some.ensures.steps.0 c.loop-item.invariant.finals) c.next_form-form.ensures).1

pub loop-item-preserved : goal.loop-item-preserved
loop-item-preserved c = let w = (goal.at.loop-item-preserved c).In_ok-append-in-StringLiteral in record { entered = string_entered w; finals = finals_after w }

pub loop-item-preserved-in_ok-append-in-StringLiteral : goal.loop-item-preserved-in_ok-append-in-StringLiteral
loop-item-preserved-in_ok-append-in-StringLiteral c = let w = (goal.at.loop-item-preserved-in_ok-append-in-StringLiteral c).In_ok-append-in-StringLiteral in record { entered = string_entered w; finals = finals_after w }

pub loop-item-preserved-in_ok-append-in-StringLiteral-2 : goal.loop-item-preserved-in_ok-append-in-StringLiteral-2
loop-item-preserved-in_ok-append-in-StringLiteral-2 c = let w = (goal.at.loop-item-preserved-in_ok-append-in-StringLiteral-2 c).In_ok-append-in-StringLiteral in record { entered = string_entered w; finals = finals_after w }

pub loop-item-preserved-in_ok-append-in-StringLiteral-3 : goal.loop-item-preserved-in_ok-append-in-StringLiteral-3
loop-item-preserved-in_ok-append-in-StringLiteral-3 c = let w = (goal.at.loop-item-preserved-in_ok-append-in-StringLiteral-3 c).In_ok-append-in-StringLiteral in record { entered = string_entered w; finals = finals_after w }

pub loop-item-preserved-in-Continue-1 : goal.loop-item-preserved-in-Continue-1
loop-item-preserved-in-Continue-1 c =
    let location = location_in c.args.site.at.file.now c.args.site.at.line in
    let s = c.args.site.context in
    let width = c.args.width in
    let a = c.loop-item.assembler in
    let mid = c.emit_element.new.assembler in
    let rest = into_iter_items c.next.new.self in
    let one : EmitsPieces location s (item_piece width c.in-Some.item ∷ []) a mid = rw c.in-Value.is c.in_ok-emit_element-in-Value.ensures.entered in
    record {
      entered = λ b h.
          c.loop-item.invariant.entered b
          (subst (Entered location s width a b) (sym c.in-Some.ensures.steps.0)
          (enters_both location s (item_piece width c.in-Some.item ∷ []) (map (item_piece width) rest) a mid b one h));
      finals =
          let later = (next_finals (table_of a.symbols) s c.in-Some.item rest (into_iter_items c.loop-item.forms) c.next_form-form.result (into_iter_items c.next_form-form.new.forms)
          (subst (λ (items : List Item). HaveFinals (table_of a.symbols) s items (into_iter_items c.loop-item.forms)) c.in-Some.ensures.steps.0 c.loop-item.invariant.finals) c.next_form-form.ensures).1 in
          rw c.in_ok-emit_element-in-Value.ensures.tables.symbols later;
    }

pub emit_element-requires : goal.emit_element-requires
emit_element-requires c =
    let s = c.args.site.context in
    let a = c.loop-item.assembler in
    let rest = into_iter_items c.next.new.self in
    rw c.in-Value.is at (next_finals (table_of a.symbols) s c.in-Some.item rest (into_iter_items c.loop-item.forms) c.next_form-form.result (into_iter_items c.next_form-form.new.forms)
    (subst (λ (items : List Item). HaveFinals (table_of a.symbols) s items (into_iter_items c.loop-item.forms)) c.in-Some.ensures.steps.0 c.loop-item.invariant.finals) c.next_form-form.ensures).0

pub returns : goal.returns
returns c =
    let location = location_in c.args.site.at.file.now c.args.site.at.line in
    let s = c.args.site.context in
    let a = c.loop-item.assembler in
    let none : into_iter_items c.loop-item.item-iterator ≡ [] = grind (arith, common_steps) in
    c.loop-item.invariant.entered a (subst (Entered location s c.args.width a a) (sym none) (enters_none location s a))
