use Rattle.std.proofs.Common.{subst, Option}
use Rattle.std.specs.Prelude.{IfSome}
use Rattle.emit65.specs.declared.entries.SectionEntry.{SectionEntry}
use Rattle.asm65.specs.Internal.RunState.{HasLocation, fixup_files}
use Rattle.asm65.proofs.SlotResolution.{replaced}
use Rattle.asm65.proofs.finish.apply_resolved.Goals as goal

pub returns-in-Some-entry-clause-entry : goal.returns-in-Some-entry-clause-entry
returns-in-Some-entry-clause-entry c =
    let pos = c.args.fixup_location.pos in
    let stands : HasLocation pos c.in-Some-entry.entry = subst (λ (o : Option SectionEntry). IfSome o (HasLocation pos)) c.in-Some-entry.is c.requires in
    rw c.in-Some-entry.is (replaced (fixup_files c.args.fixup_location) pos c.in-Some-entry.entry stands)
