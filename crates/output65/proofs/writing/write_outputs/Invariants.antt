use Rattle.std.proofs.Common.{◌≡◌, [], take}
use Rattle.base65.specs.Store.{RelatesFiles}
use Rattle.output65.specs.RunEffects.{with_outputs}
use Rattle.output65.proofs.writing.write_outputs.Given as goal

abbrev pub invariant-loop-index : goal.invariant-loop-index
invariant-loop-index g l = record {
  files : RelatesFiles (λ old new. new ≡ with_outputs (take l.index l.outputs) old) (g.S.Store.files l.fn.store) (g.S.Store.files l.store);
  untouched : l.outputs ≡ [] → g.S.Store.last_failure l.store ≡ g.S.Store.last_failure l.fn.store;
  count : g.S.Store.failures l.store ≡ g.S.Store.failures l.fn.store;
}
