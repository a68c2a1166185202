use Rattle.std.proofs.Common.{◌∙◌, ◌++◌, ◌∷◌, [], List, ℕ, map, if◌then◌else◌, ap}
use Rattle.link65.specs.Names.{is_among}
use Rattle.link65.specs.Representation.{names_in}
use Rattle.link65.proofs.DefinedNameLemmas.{inserted, not_weak, weak_next}
use Rattle.link65.proofs.name_checks.DefinedNames.add_weak.Goals as goal
use Rattle.link65.proofs.name_checks.DefinedNames.add_weak.Goals.{in-Weak+in_ok-from_slice+in_ok-insert, in_default}

pub loop-symbol-preserved : goal.loop-symbol-preserved
loop-symbol-preserved c =
    let symbol = c.symbol-item.result in
    let before = names_in c.loop-symbol.self in
    weak_next c.args.symbols.now c.loop-symbol.symbol-index symbol before (names_in c.match-symbol.self) _ c.loop-symbol-test.true c.symbol-item.is
    (elim c.match-symbol.branch [
      | in-Weak+in_ok-from_slice+in_ok-insert w ↦ rw (w.self-is, w.in-Weak.is) (
          ap (map (λ n. n.items)) w.in_ok-insert.ensures.keys
          ∙ inserted (λ n. n.items) c.loop-symbol.self.names.keys w.in_ok-from_slice.field-0
          ∙ ap (λ (n : List ℕ). if is_among before n then before else before ++ n ∷ []) (w.in_ok-from_slice.ensures.items ∙ w.as_slice.ensures))
      | in_default w ↦ rw w.self-is (not_weak symbol.kind before symbol.name w.in_default.not-Weak)
    ])
    c.loop-symbol.invariant
