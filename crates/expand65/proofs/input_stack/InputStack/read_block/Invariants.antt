use Rattle.std.proofs.Common.{◌≡◌, ◌≤◌, map}
use Rattle.std.specs.Prelude.{IfSome}
use Rattle.expand65.specs.Representation.{end_mark_of, IsStackPositionedIfKnown}
use Rattle.expand65.specs.Replay.{tokens_in}
use Rattle.expand65.proofs.BlockLines.{Leads}
use Rattle.expand65.proofs.ReadFailures.{Fails}
use Rattle.expand65.proofs.input_stack.InputStack.read_block.Given as goal

abbrev pub invariant-lines : goal.invariant-lines
invariant-lines g l = record {
  outer : l.self.outer ≡ l.fn.self.outer;
  mark : end_mark_of l.self.top ≡ end_mark_of l.fn.self.top;
  budget : l.self.budget ≤ l.fn.self.budget;
  files : g.S.Store.files l.store ≡ g.S.Store.files l.fn.store;
  count : g.S.Store.failures l.store ≡ g.S.Store.failures l.fn.store;
  stands : IsStackPositionedIfKnown (g.S.Store.files l.fn.store) l.fn.self → IsStackPositionedIfKnown (g.S.Store.files l.fn.store) l.self;
  reads : IfSome (g.S.Store.files l.fn.store) (Fails l.kind l.depth l.self l.fn.self);
  so_far : IfSome (g.S.Store.files l.fn.store) (Leads l.kind l.depth (map tokens_in l.lines) l.self l.fn.self);
}

abbrev pub decreases-lines : goal.decreases-lines
decreases-lines g l = l.self.budget
