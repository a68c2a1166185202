use Rattle.std.proofs.Common.{◌≡◌, ◌∙◌, List, ℕ, ap, map, take, sym, subst, arith}
use Rattle.syntax65.specs.declared.source_location.SourceLocation.{SourceLocation}
use Rattle.semantics65.specs.declared.contexts.Context.{Context}
use Rattle.semantics65.specs.Views.{location_in}
use Rattle.sources65.specs.Machine.{State, with_fixup}
use Rattle.semantics65.specs.Module as piece
use Rattle.emit65.specs.SectionContents.{piece_of}
use Rattle.asm65.specs.declared.assembler.Assembler.{Assembler}
use Rattle.asm65.specs.Internal.AssemblerState.{Represents, with_fixups, name_use_piece}
use Rattle.asm65.proofs.SymbolUpdates.{all_taken, keeps_both, one_more_awaiting, taken_more}
use Rattle.asm65.proofs.assembler.Assembler.defer_names.Goals as goal

pub loop-name-preserved : goal.loop-name-preserved
loop-name-preserved c =
    let location : SourceLocation = location_in c.args.site.at.file.now c.args.site.at.line in
    let s : Context = c.args.site.context in
    let before : Assembler = c.loop-name.self in
    let new : Assembler = c.defer.new.assembler in
    let f : List ℕ → piece.Piece = name_use_piece c.args.mention in
    let n : List ℕ = c.name-item.result in
    let some : List piece.Piece = take c.loop-name.name-index (map f c.args.names.now) in
    let is : piece_of c.in_ok-piece.piece ≡ f n = c.in_ok-piece.ensures ∙ ap f c.as_slice.ensures in
    record {
      mentioned = λ count t h.
          subst (λ (ps : List piece.Piece). Represents count (with_fixups location s t ps) new) (taken_more f c.args.names.now c.loop-name.name-index c.name-item.result (omega arith) c.name-item.is)
          (subst (λ (u : State). Represents count u new) (sym (one_more_awaiting location s t some (f n)))
          (subst (λ (p : piece.Piece). Represents count (with_fixup (with_fixups location s t some) (record { place = location; context = s; piece = p })) new) is
          (c.in_ok-defer.ensures.deferred count (with_fixups location s t some) (c.loop-name.invariant.mentioned count t h))));
      tables = keeps_both c.args.self.now before new c.loop-name.invariant.tables c.in_ok-defer.ensures.tables;
    }

pub returns-clause-mentioned : goal.returns-clause-mentioned
returns-clause-mentioned c = λ count t h.
    subst (λ (ps : List piece.Piece). Represents count (with_fixups (location_in c.args.site.at.file.now c.args.site.at.line) c.args.site.context t ps) c.loop-name.self) (all_taken (name_use_piece c.args.mention) c.args.names.now c.loop-name.name-index (omega arith))
    (c.loop-name.invariant.mentioned count t h)
