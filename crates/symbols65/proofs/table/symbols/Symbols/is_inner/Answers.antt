use Rattle.std.proofs.Common.{◌≡◌, ◌∙◌, Some, None, length, slice_get, refl, sym, ap, false}
use Rattle.std.proofs.lemmas.Option.{slice_get_past, slice_get_read}
use Rattle.symbols65.specs.Views.{interned_names_of}
use Rattle.symbols65.proofs.InternedNames.{never_inner}
use Rattle.symbols65.proofs.table.symbols.Symbols.is_inner.Goals as goal

pub returns-in-Some : goal.returns-in-Some
returns-in-Some c = λ inner.
    (let t = c.args.self.now in
    let xs = c.deref.result.now in
    let look = c.in-Some.ensures.lookup in
    let at : slice_get xs c.args.name_id ≡ Some c.in-Some.is_inner.now = slice_get_read xs (length xs) c.args.name_id c.in-Some.is_inner.now refl look.3.0 look.1 in
    let here : slice_get t.inner.items c.args.name_id ≡ Some false = ap (λ ys. slice_get ys c.args.name_id) (sym c.deref.ensures.value) ∙ at ∙ ap Some inner in
    never_inner (interned_names_of t) t.definitions.entries t.inner.items c.args.name_id t.entries_numbered t.inner_known (λ yes. cc))

pub returns-in-None : goal.returns-in-None
returns-in-None c = λ inner.
    (let t = c.args.self.now in
    let xs = c.deref.result.now in
    let here : slice_get t.inner.items c.args.name_id ≡ None = ap (λ ys. slice_get ys c.args.name_id) (sym c.deref.ensures.value) ∙ slice_get_past xs c.args.name_id c.in-None.ensures.lookup.3 in
    never_inner (interned_names_of t) t.definitions.entries t.inner.items c.args.name_id t.entries_numbered t.inner_known (λ yes. cc))
