use Rattle.std.proofs.Common.{◌∙◌, List, ap, map, sym, subst}
use Rattle.std.specs.Prelude.{OnOk}
use Rattle.ast65.specs.Items.{items_of, literal_item}
use Rattle.semantics65.specs.Views.{location_in}
use Rattle.ast65.specs.declared.language.Item.{Item}
use Rattle.semantics65.specs.Module.{item_piece}
use Rattle.symbols65.specs.Evaluations.{HaveFinals}
use Rattle.symbols65.specs.Views.{table_of}
use Rattle.asm65.specs.Internal.AssemblerState.{EmitsPieces}
use Rattle.asm65.proofs.emission.statements.emit_values.Goals as goal

pub returns-in-Numbers : goal.returns-in-Numbers
returns-in-Numbers c =
    subst (λ (items : List Item). OnOk c.emit_numbers.result (EmitsPieces (location_in c.args.site.at.file.now c.args.site.at.line) c.args.site.context (map (item_piece c.args.width) items) c.args.assembler.now c.emit_numbers.new.assembler))
    (ap (map literal_item) c.as_slice.ensures ∙ sym (ap items_of c.in-Numbers.is) ∙ c.into_kind.ensures) c.emit_numbers.ensures

pub returns-in-Mixed : goal.returns-in-Mixed
returns-in-Mixed c =
    subst (λ (items : List Item). OnOk c.emit_mixed.result (EmitsPieces (location_in c.args.site.at.file.now c.args.site.at.line) c.args.site.context (map (item_piece c.args.width) items) c.args.assembler.now c.emit_mixed.new.assembler))
    (sym (ap items_of c.in-Mixed.is) ∙ c.into_kind.ensures) c.emit_mixed.ensures

pub emit_mixed-requires : goal.emit_mixed-requires
emit_mixed-requires c =
    subst (λ (items : List Item). HaveFinals (table_of c.args.assembler.now.symbols) c.args.site.context items c.args.forms.items) (sym c.into_kind.ensures ∙ ap items_of c.in-Mixed.is) c.requires
