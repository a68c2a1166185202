use Rattle.std.proofs.lemmas.Grind.{common_steps}
use Rattle.std.proofs.Common.{◌≡◌, ◌∙◌, false, sym, subst, arith}
use Rattle.std.specs.Str.{bytes_eq}
use Rattle.link65.specs.declared.parts.ModuleExport.{ModuleExport}
use Rattle.library65.proofs.Members.{turned}
use Rattle.link65.proofs.LinkerStates.{differ}
use Rattle.link65.proofs.module_reader.same_exports.Goals as goal

pub returns-then-ne : goal.returns-then-ne
returns-then-ne c =
    let names = c.args.names.now in
    let exports = c.args.exports.now in
    let i = c.loop-i.i in
    let x = c.index-names-i.result in
    let y = c.index-exports-i.result in
    let read : bytes_eq c.as_slice.result.now c.as_slice-in-loop-i.result.now ≡ false = turned _ (sym c.ne.ensures ∙ c.if-ne.true) in
    let unlike : bytes_eq x y.name ≡ false = subst (λ (e : ModuleExport). bytes_eq x e.name ≡ false) (sym c.index-exports-i.is) (rw (c.as_slice.ensures, c.as_slice-in-loop-i.ensures) at read) in
    sym (sym c.loop-i.invariant ∙ differ names exports i x y (omega arith) (omega arith) c.index-names-i.is c.index-exports-i.is unlike)

pub loop-i-preserved : goal.loop-i-preserved
loop-i-preserved c = grind (arith, common_steps)
