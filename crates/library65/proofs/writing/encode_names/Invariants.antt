use Rattle.std.proofs.Common.{◌≡◌, ◌++◌, length, take}
use Rattle.std.specs.List.{flat_map}
use Rattle.byteorder.specs.Endian.{little_bytes}
use Rattle.library65.specs.Spelling.{name_bytes}
use Rattle.library65.proofs.writing.encode_names.Given as goal

abbrev pub invariant-loop-name : goal.invariant-loop-name
invariant-loop-name l = l.out.items ≡ (l.fn.out.items ++ little_bytes 4 (length l.names)) ++ flat_map name_bytes (take l.name-index l.names)
