use Rattle.std.proofs.Common.{◌++◌, List, map, refl}
use Rattle.std.specs.Prelude.{false}
use Rattle.semantics65.specs.Views.{location_in}
use Rattle.semantics65.specs.Module.{Piece, forced_import, imported}
use Rattle.symbols65.specs.Views.{with_names}
use Rattle.asm65.proofs.PieceEmission.{enters_both}
use Rattle.asm65.proofs.SymbolUpdates.{mentions_enter, turns_after}
use Rattle.ast65.proofs.Lists.{on_ok}
use Rattle.asm65.proofs.assembler.Assembler.force_import_names.Goals as goal

pub returns : goal.returns
returns c =
    let old = c.args.self.now in
    let first = c.defer_names.new.self in
    let mid = c.defer_names-2.new.self in
    let location = location_in c.args.site.at.file.now c.args.site.at.line in
    let s = c.args.site.context in
    let names = c.args.names.now in
    let ps : List Piece = map imported names in
    let qs : List Piece = map forced_import names in
    let both = enters_both location s ps qs old first mid (mentions_enter location s ps old first c.in_ok-defer_names.ensures.mentioned) (mentions_enter location s qs first mid c.in_ok-defer_names-2.ensures.mentioned) in
    on_ok c.import.result (λ table.
    turns_after location s (ps ++ qs) (λ y. with_names y false names) old mid (record mid { symbols = c.import.new.self }) both (record { cursor = refl; sections = refl; texts = refl }) table)
    c.import.ensures
