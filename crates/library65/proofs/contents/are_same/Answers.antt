use Rattle.std.proofs.lemmas.Grind.{common_steps}
use Rattle.std.proofs.Common.{◌≡◌, ◌∙◌, false, sym, arith}
use Rattle.std.specs.Str.{bytes_eq}
use Rattle.library65.proofs.Members.{differ, turned}
use Rattle.library65.proofs.contents.are_same.Goals as goal

pub returns-then-ne : goal.returns-then-ne
returns-then-ne c =
    let names = c.args.names.now in
    let others = c.args.others.now in
    let i = c.loop-i.i in
    let x = c.index-names-i.result in
    let y = c.index-others-i.result in
    let read : bytes_eq c.as_slice.result.now c.as_slice-in-loop-i.result.now ≡ false = turned _ (sym c.ne.ensures ∙ c.if-ne.true) in
    let unlike : bytes_eq x y ≡ false = rw (c.as_slice.ensures, c.as_slice-in-loop-i.ensures) at read in
    sym (sym c.loop-i.invariant ∙ differ names others i x y (omega arith) (omega arith) c.index-names-i.is c.index-others-i.is unlike)

pub loop-i-preserved : goal.loop-i-preserved
loop-i-preserved c = grind (arith, common_steps)
