use Rattle.std.proofs.Common.{◌≡◌, ◌∙◌, ◌++◌, [], Bool, true, false, ap, sym, refl, append-nil, if◌then◌else◌}
use Rattle.std.specs.List.{flat_map}
use Rattle.std.specs.Prelude.{is_some}
use Rattle.link65.specs.Placed.{provider_found}
use Rattle.link65.specs.Texts.{definition_line, weak_line}
use Rattle.link65.proofs.TextLemmas.{lines_next}
use Rattle.link65.proofs.mapping.weak_lines.Goals as goal
use Rattle.link65.proofs.mapping.weak_lines.Goals.{then-not-contains_key+in_ok-add_definition_line, else-not-contains_key}

pub loop-weak-preserved : goal.loop-weak-preserved
loop-weak-preserved c =
    let names = c.args.names.now in
    let line = weak_line names.script_symbols.now names.exports.now in
    let weak = c.weak-item.result in
    let test = sym (c.requires.defined weak.name) ∙ ap (λ n. is_some (provider_found names.defined n)) (sym c.as_slice.ensures) ∙ sym c.contains_key.ensures in
    let is : (b : Bool) → c.contains_key.result ≡ b → (if b then [] else definition_line weak) ≡ line weak = λ b e. sym (ap (λ (d : Bool). if d then [] else definition_line weak) (test ∙ e)) in
    let added : c.if-not-contains_key.text ≡ c.loop-weak.text ++ line weak = elim c.if-not-contains_key.branch [
      | then-not-contains_key+in_ok-add_definition_line w ↦ rw w.text-is (w.in_ok-add_definition_line.ensures ∙ ap (λ l. c.loop-weak.text ++ l) (is false w.if-not-contains_key.true))
      | else-not-contains_key w ↦ rw w.text-is (sym (append-nil c.loop-weak.text) ∙ ap (λ l. c.loop-weak.text ++ l) (is true w.if-not-contains_key.false))
    ] in
    lines_next line names.weak.now c.loop-weak.weak-index weak c.loop-weak.text _ _ (flat_map line names.weak.now) c.loop-weak-test.true c.weak-item.is added refl c.loop-weak.invariant
