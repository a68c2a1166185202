use Rattle.std.proofs.Common.{◌≡◌, ◌++◌, drop}
use Rattle.std.specs.List.{flat_map}
use Rattle.link65.specs.Texts.{member_lines}
use Rattle.link65.proofs.mapping.members_text.Given as goal

abbrev pub invariant-loop-member : goal.invariant-loop-member
invariant-loop-member l = l.text ++ flat_map member_lines (drop l.member-index l.members) ≡ flat_map member_lines l.members
