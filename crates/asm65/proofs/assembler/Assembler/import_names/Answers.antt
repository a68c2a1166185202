use Rattle.std.proofs.Common.{◌∙◌, ap, map, refl}
use Rattle.semantics65.specs.Views.{location_in}
use Rattle.symbols65.specs.Views.{table_of, with_names}
use Rattle.asm65.specs.Internal.AssemblerState.{is_for_zero_page, name_use_piece}
use Rattle.asm65.proofs.SymbolUpdates.{mentions_enter, turns_after}
use Rattle.ast65.proofs.Lists.{on_ok}
use Rattle.asm65.proofs.assembler.Assembler.import_names.Goals as goal

pub returns : goal.returns
returns c =
    let old = c.args.self.now in
    let mid = c.defer_names.new.self in
    let location = location_in c.args.site.at.file.now c.args.site.at.line in
    let s = c.args.site.context in
    let names = c.args.names.now in
    let ps = map (name_use_piece c.args.mention) names in
    let b = is_for_zero_page c.args.size in
    on_ok c.import.result (λ table.
    turns_after location s ps (λ y. with_names y b names) old mid (record mid { symbols = c.import.new.self }) (mentions_enter location s ps old mid c.in_ok-defer_names.ensures.mentioned) (record { cursor = refl; sections = refl; texts = refl }) (table ∙ ap (λ z. with_names (table_of mid.symbols) z names) c.is_for_zero_page.ensures))
    c.import.ensures
