use Rattle.std.proofs.Common.{◌≡◌, ◌++◌, drop}
use Rattle.std.specs.List.{flat_map}
use Rattle.link65.specs.Texts.{member_lines, section_line}
use Rattle.link65.proofs.mapping.add_member_lines.Given as goal

abbrev pub invariant-loop-section : goal.invariant-loop-section
invariant-loop-section l = l.text ++ flat_map section_line (drop l.section-index l.member.sections) ≡ l.fn.text ++ member_lines l.member
