use Rattle.std.proofs.Common.{◌≡◌}
use Rattle.std.specs.Prelude.{IfSome}
use Rattle.expand65.specs.Representation.{measure_of}
use Rattle.asm65.specs.Internal.RunState.{IsRunning}
use Rattle.asm65.proofs.Sources.{Goes, StaysPlaced}
use Rattle.asm65.proofs.driver.assemble_all.Given as goal

abbrev pub invariant-statements : goal.invariant-statements
invariant-statements g l = record {
  files : g.S.Store.files l.store ≡ g.S.Store.files l.fn.store;
  count : g.S.Store.failures l.store ≡ g.S.Store.failures l.fn.store;
  running : IsRunning l.run;
  so_far : IfSome (g.S.Store.files l.fn.store) (λ m. Goes m l.fn.run l.run);
  placed : IfSome (g.S.Store.files l.fn.store) (λ m. StaysPlaced m l.fn.run l.run);
}

abbrev pub decreases-statements : goal.decreases-statements
decreases-statements g l = measure_of l.run.expander
