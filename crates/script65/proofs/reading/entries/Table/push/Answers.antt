use Rattle.std.proofs.Common.{◌∷◌, [], ◌++◌, map, refl, sym, subst, ap, ◌∙◌}
use Rattle.script65.specs.Internal.Tables.{KeysMatchNames}
use Rattle.script65.proofs.Tables.{named_too, pushed}
use Rattle.script65.proofs.reading.entries.Table.push.Goals as goal

pub invariant_of-self-2 : goal.invariant_of-self-2
invariant_of-self-2 c =
    let es = c.self.inside.entries.entries in
    subst KeysMatchNames (sym (ap (map (λ e. (e.0.now, e.1))) c.in_ok-insert.ensures.entries
    ∙ pushed (λ k. k.now) _ (λ k l. refl) es c.as_slice.result c.args.entry _ c.self.view_is c.as_slice.ensures c.self.invariant c.requires (λ e. (e.0.now, e.1))))
    (named_too _ (c.as_slice.result.now, c.args.entry) c.self.invariant c.as_slice.ensures)

pub returns : goal.returns
returns c = record {
  ok = ap (map (λ e. e.1)) c.in_ok-insert.ensures.entries
      ∙ pushed (λ k. k.now) _ (λ k l. refl) c.self.inside.entries.entries c.as_slice.result c.args.entry _ c.self.view_is c.as_slice.ensures c.self.invariant c.requires (λ e. e.1)
      ∙ ap (λ l. l ++ c.args.entry ∷ []) c.self.view_is;
}
