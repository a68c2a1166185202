use Rattle.std.proofs.Common.{◌≡◌, [], map, take}
use Rattle.emit65.specs.Internal.Drafts.{draft_of}
use Rattle.emit65.proofs.numbering.drafts.new_drafts.Given as goal

abbrev pub invariant-loop-key : goal.invariant-loop-key
invariant-loop-key l = l.drafts.items ≡ map (draft_of []) (take l.key-index l.keys)
