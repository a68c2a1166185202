use Rattle.std.proofs.Common.{◌≡◌, ◌++◌, take, map}
use Rattle.std.specs.List.{flat_map}
use Rattle.object65.specs.Spelling.{section_record, record_bytes}
use Rattle.object65.proofs.writing.encode_sections.Given as goal

abbrev pub invariant-loop-section : goal.invariant-loop-section
invariant-loop-section l = l.out.items ≡ l.fn.out.items ++ flat_map record_bytes (map section_record (take l.section-index l.sections))
