use Rattle.std.proofs.Common.{◌≡◌, length}
use Rattle.base65.specs.Store.{RelatesFiles}
use Rattle.output65.proofs.Texts.{Writing}
use Rattle.output65.proofs.writing.write_file.Given as goal

abbrev pub invariant-writing : goal.invariant-writing
invariant-writing g l = record {
  files : RelatesFiles (λ old new. Writing old l.name l.bytes l.rest new) (g.S.Store.files l.fn.store) (g.S.Store.files l.store);
  count : g.S.Store.failures l.store ≡ g.S.Store.failures l.fn.store;
}

abbrev pub decreases-writing : goal.decreases-writing
decreases-writing g l = length l.rest
