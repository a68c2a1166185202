use Rattle.std.proofs.Common.{refl, arith}
use Rattle.object65.specs.Scanning.{start}
use Rattle.object65.proofs.ItemLimits.{reached_start}
use Rattle.object65.proofs.scan.Scan.seeded.Goals as goal

pub invariant_of-result : goal.invariant_of-result
invariant_of-result c = λ running. record {
  sound = record { search_start = omega arith };
  reachable = record { state = start c.args.version; reached = reached_start c.args.version c.requires; same = rw (c.with_hasher.ensures.empty, c.with_hasher-2.ensures.empty, c.with_hasher-3.ensures.empty, c.new.ensures.items, c.with_hasher-4.ensures.empty) refl };
}
