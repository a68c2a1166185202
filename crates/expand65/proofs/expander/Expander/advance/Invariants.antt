use Rattle.std.proofs.Common.{◌≡◌, ◌≤◌}
use Rattle.std.specs.Prelude.{IfSome}
use Rattle.expand65.specs.Representation.{IsStackPositionedIfKnown, measure_of}
use Rattle.expand65.proofs.StepSequences.{ReachesAll}
use Rattle.expand65.proofs.ExpansionFailures.{HasGone}
use Rattle.expand65.proofs.expander.Expander.advance.Given as goal

abbrev pub invariant-steps : goal.invariant-steps
invariant-steps g l = record {
  files : g.S.Store.files l.store ≡ g.S.Store.files l.fn.store;
  count : g.S.Store.failures l.store ≡ g.S.Store.failures l.fn.store;
  size : measure_of l.self ≤ measure_of l.fn.self;
  stands : IsStackPositionedIfKnown (g.S.Store.files l.fn.store) l.fn.self.processor.stack → IsStackPositionedIfKnown (g.S.Store.files l.fn.store) l.self.processor.stack;
  gone : IfSome (g.S.Store.files l.fn.store) (HasGone (g.K.Knows.meaning l.knows) l.fn.self l.self);
  so_far : IfSome (g.S.Store.files l.fn.store) (ReachesAll (g.K.Knows.meaning l.knows) l.fn.self l.self);
}

abbrev pub decreases-steps : goal.decreases-steps
decreases-steps g l = measure_of l.self
