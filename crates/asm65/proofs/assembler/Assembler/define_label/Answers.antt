use Rattle.std.proofs.Common.{[], ◌∙◌, ap, refl}
use Rattle.symbols65.specs.Tables.{key_of}
use Rattle.symbols65.specs.Views.{table_of, with_definition}
use Rattle.asm65.specs.Internal.AssemblerState.{label_definition}
use Rattle.asm65.proofs.PieceEmission.{enters_none}
use Rattle.asm65.proofs.SymbolUpdates.{turns_after}
use Rattle.ast65.proofs.Lists.{on_ok}
use Rattle.asm65.proofs.assembler.Assembler.define_label.Goals as goal

pub returns : goal.returns
returns c =
    let old = c.args.self.now in
    let s = c.args.context in
    let d = label_definition (key_of c.args.key) s c.args.size in
    on_ok c.define.result (λ table location.
    turns_after location s [] (λ y. with_definition y d) old old (record old { symbols = c.define.new.symbols }) (enters_none location s old) (record { cursor = refl; sections = refl; texts = refl }) (table ∙ ap (with_definition (table_of old.symbols)) (c.label.ensures.seen (key_of c.args.key))))
    c.define.ensures
