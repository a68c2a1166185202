use Rattle.std.proofs.Common.{◌≤◌, subst, sym}
use Rattle.object65.specs.Objects.{section_limit}
use Rattle.semantics65.specs.declared.contents.Segment.{Segment}
use Rattle.symbols65.proofs.Segments.{segment_is, within_at}
use Rattle.symbols65.proofs.cursor.Cursor.segment.Goals as goal

pub returns-clause-current : goal.returns-clause-current
returns-clause-current c = rw (← c.self.view_is) (segment_is c.self.inside.segments.items c.self.inside.current c.index.result.now c.self.invariant.current c.index.ensures)

pub returns-clause-within : goal.returns-clause-within
returns-clause-within c =
    let w = c.self.inside in
    subst (λ (g : Segment). g.end ≤ section_limit) (sym (segment_is w.segments.items w.current c.index.result.now c.self.invariant.current c.index.ensures))
    (within_at w.segments.items w.current c.self.invariant.ends c.self.invariant.current)
