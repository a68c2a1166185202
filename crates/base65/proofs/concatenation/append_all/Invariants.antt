use Rattle.std.proofs.Common.{◌≡◌, ◌++◌, map, take}
use Rattle.base65.specs.Texts.{concat_texts}
use Rattle.base65.proofs.concatenation.append_all.Given as goal

abbrev pub invariant-loop-part : goal.invariant-loop-part
invariant-loop-part l = l.text ≡ l.fn.text ++ concat_texts (map (λ p. p.now) (take l.part-index l.parts))
