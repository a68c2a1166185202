use Rattle.std.proofs.Common.{◌≡◌, ◌++◌, take, map}
use Rattle.std.specs.List.{flat_map}
use Rattle.object65.specs.Spelling.{export_record, record_bytes}
use Rattle.object65.proofs.writing.encode_exports.Given as goal

abbrev pub invariant-loop-export : goal.invariant-loop-export
invariant-loop-export l = l.out.items ≡ l.fn.out.items ++ flat_map record_bytes (map export_record (take l.export-index l.exports))
