use Rattle.std.proofs.Common.{map}
use Rattle.std.specs.Vec.Iter.{into_iter_items}
use Rattle.semantics65.specs.Views.{location_in}
use Rattle.semantics65.specs.Module.{item_piece}
use Rattle.symbols65.specs.Evaluations.{HaveFinals}
use Rattle.symbols65.specs.Views.{table_of}
use Rattle.asm65.specs.declared.assembler.Assembler.{Assembler}
use Rattle.asm65.specs.Internal.AssemblerState.{EmitsPieces}
use Rattle.asm65.proofs.emission.statements.emit_mixed.Given as goal

-- emitting the remaining items completes the emission of all items, and the remaining forms are final
abbrev pub invariant-loop-item : goal.invariant-loop-item
invariant-loop-item l =
    let location = location_in l.site.at.file.now l.site.at.line in
    let s = l.site.context in
    record {
      entered : (b : Assembler) → EmitsPieces location s (map (item_piece l.width) (into_iter_items l.item-iterator)) l.assembler b →
          EmitsPieces location s (map (item_piece l.width) l.fn.items) l.fn.assembler b;
      finals : HaveFinals (table_of l.assembler.symbols) s (into_iter_items l.item-iterator) (into_iter_items l.forms);
    }
