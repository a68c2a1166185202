use Rattle.std.proofs.Common.{◌≡◌, map, take}
use Rattle.link65.specs.CodeInvariants.{segments_from}
use Rattle.link65.specs.Values.{need_of}
use Rattle.link65.proofs.linking.needs_of.Given as goal

abbrev pub invariant-loop-content : goal.invariant-loop-content
invariant-loop-content l = l.needs ≡ map need_of (segments_from (take l.content-index l.contents))
