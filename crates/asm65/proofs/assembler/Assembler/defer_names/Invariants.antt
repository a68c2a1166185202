use Rattle.std.proofs.Common.{map, take}
use Rattle.semantics65.specs.Views.{location_in}
use Rattle.asm65.specs.Internal.AssemblerState.{ChangesOnlySections, DefersMentions, name_use_piece}
use Rattle.asm65.proofs.assembler.Assembler.defer_names.Given as goal

abbrev pub invariant-loop-name : goal.invariant-loop-name
invariant-loop-name l = record {
  mentioned : DefersMentions (location_in l.fn.site.at.file.now l.fn.site.at.line) l.fn.site.context (take l.name-index (map (name_use_piece l.fn.mention) l.names)) l.fn.self l.self;
  tables : ChangesOnlySections l.fn.self l.self;
}
