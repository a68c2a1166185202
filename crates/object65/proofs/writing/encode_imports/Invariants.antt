use Rattle.std.proofs.Common.{◌≡◌, ◌++◌, take, map}
use Rattle.std.specs.List.{flat_map}
use Rattle.object65.specs.Spelling.{import_record, record_bytes}
use Rattle.object65.proofs.writing.encode_imports.Given as goal

abbrev pub invariant-loop-name : goal.invariant-loop-name
invariant-loop-name l = l.out.items ≡ l.fn.out.items ++ flat_map record_bytes (map import_record (take l.name-index l.imports))
