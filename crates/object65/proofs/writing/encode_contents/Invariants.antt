use Rattle.std.proofs.Common.{◌≡◌, ◌++◌, take}
use Rattle.std.specs.List.{flat_map}
use Rattle.object65.specs.Spelling.{fragment_records, record_bytes}
use Rattle.object65.proofs.writing.encode_contents.Given as goal

abbrev pub invariant-loop-section : goal.invariant-loop-section
invariant-loop-section l = l.out.items ≡ l.fn.out.items ++ flat_map record_bytes (flat_map (λ s. flat_map fragment_records s.fragments) (take l.section-index l.sections))
