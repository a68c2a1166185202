use Rattle.std.proofs.Common.{map, take}
use Rattle.library65.specs.Internal.Searching.{ExtendsSearch}
use Rattle.library65.proofs.selecting.find_imports.Given as goal

abbrev pub invariant-loop-name : goal.invariant-loop-name
invariant-loop-name l = ExtendsSearch l.exporters (map (λ n. n.items) l.defined.keys) (take l.name-index l.names) l.fn.found l.found
