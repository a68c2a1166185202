use Rattle.std.proofs.Common.{refl}
use Rattle.semantics65.specs.Views.{location_in}
use Rattle.emit65.specs.SectionContents.{piece_of}
use Rattle.asm65.specs.declared.assembler.Assembler.{Assembler}
use Rattle.asm65.proofs.DeferredPieces.{holds_awaiting}
use Rattle.ast65.proofs.Lists.{on_ok}
use Rattle.asm65.proofs.emission.values.defer.Goals as goal

pub returns-clause-deferred : goal.returns-clause-deferred
returns-clause-deferred c =
    let old : Assembler = c.args.assembler.now in
    let new : Assembler = record old { sections = c.defer.new.self } in
    on_ok c.defer.result
    (λ feeds count t h. holds_awaiting count t old new h (record { symbols = refl; cursor = refl; texts = refl }) (record { place = location_in c.args.site.at.file.now c.args.site.at.line; context = c.args.site.context; piece = piece_of c.args.piece }) feeds)
    c.defer.ensures
