use Rattle.std.proofs.lemmas.Grind.{common_steps}
use Rattle.std.proofs.Common.{arith, ◌∙◌, ◌+◌, ◌≤◌, List, ap, refl, set, subst, sym}
use Rattle.object65.specs.Objects.{section_limit}
use Rattle.semantics65.specs.declared.contents.Segment.{Segment}
use Rattle.semantics65.specs.Layout.{Cursor, context_of, segment_after}
use Rattle.symbols65.specs.Internal.Cursors.{cursor_of}
use Rattle.symbols65.proofs.Segments.{grown_is, segment_or, sound_grown}
use Rattle.symbols65.proofs.cursor.Cursor.grow.Goals as goal

pub invariant_of-self : goal.invariant_of-self
invariant_of-self c =
    let w = c.self.inside in
    let gs = w.segments.items in
    let r = c.index_mut-segment.result.now in
    let fits = subst (λ (v : Cursor). (context_of v).offset + c.args.count ≤ section_limit) (sym c.self.view_is) c.requires in
    let own = c.index_mut-segment.ensures.value ∙ segment_or gs w.current r c.self.invariant.current in
    let grown =
    ap (λ a. set gs w.current (record { name = r.name; size = r.size; end = r.end + c.args.count; align = a })) c.max-segment.ensures
    ∙ ap (λ (g : Segment). set gs w.current (segment_after c.args.count c.args.alignment g)) own
    ∙ grown_is gs w.current c.args.count c.args.alignment in
    sound_grown w _ c.args.count c.args.alignment c.self.invariant fits grown refl refl refl

pub returns : goal.returns
returns c =
    let w = c.self.inside in
    let gs = w.segments.items in
    let r = c.index_mut-segment.result.now in
    let own = c.index_mut-segment.ensures.value ∙ segment_or gs w.current r c.self.invariant.current in
    let grown =
    ap (λ a. set gs w.current (record { name = r.name; size = r.size; end = r.end + c.args.count; align = a })) c.max-segment.ensures
    ∙ ap (λ (g : Segment). set gs w.current (segment_after c.args.count c.args.alignment g)) own
    ∙ grown_is gs w.current c.args.count c.args.alignment in
    rw (← c.self.view_is) (ap (λ (l : List Segment). record (cursor_of w) { segments = l }) grown)

pub overflow_add-segment : goal.overflow_add-segment
overflow_add-segment c = grind (arith, common_steps)
