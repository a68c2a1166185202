use Rattle.std.proofs.Common.{◌≡◌, ◌∙◌, ◌++◌, ◌∷◌, [], None, ap, map, refl, rules, subst, sym}
use Rattle.std.specs.Prelude.{if◌then◌else◌}
use Rattle.semantics65.specs.declared.contents.Segment.{Segment}
use Rattle.semantics65.specs.Layout.{Cursor, segment_index}
use Rattle.symbols65.proofs.InternedNames.{insert_name, with_one}
use Rattle.symbols65.proofs.Segments.{new_name, sound_begun}
use Rattle.symbols65.proofs.cursor.Cursor.select.Goals as goal

pub invariant_of-self-2 : goal.invariant_of-self-2
invariant_of-self-2 c =
    let w = c.self.inside in
    let n = c.args.name.now in
    let g = c.in_ok-segment.segment in
    let known = map (λ k. k.items) w.names.keys in
    let new = subst (λ (v : Cursor). segment_index v.segments n ≡ None) (sym c.self.view_is) (sym c.segment_index.ensures ∙ c.in_default.is) in
    sound_begun w _ n g c.self.invariant
    (ap (λ (h : Segment). h.name) c.in_ok-segment.ensures) (ap (λ (h : Segment). h.end) c.in_ok-segment.ensures)
    (c.push_reserved.ensures.items ∙ ap (λ hs. hs ++ g ∷ []) c.reserve.ensures.items) (search rules) refl
    (ap (map (λ k. k.items)) c.in_ok-insert.ensures.keys
    ∙ insert_name (λ k. k.items) w.names.keys c.in_ok-from_slice.field-0
    ∙ ap (with_one known) c.in_ok-from_slice.ensures.items
    ∙ ap (λ b. if b then known else known ++ n ∷ []) (new_name n w c.self.invariant new))
