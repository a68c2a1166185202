use Rattle.std.proofs.lemmas.Grind.{common_steps}
use Rattle.std.proofs.Common.{◌<◌, List, ℕ, arith, length, subst, sym}
use Rattle.std.proofs.lemmas.Result.{err_from_is_err_and}
use Rattle.library65.proofs.WrittenLibraries.{many_names, name_short}
use Rattle.library65.proofs.writing.encode_names.Goals as goal

pub returns-in_err-count : goal.returns-in_err-count
returns-in_err-count c =
    let p = err_from_is_err_and c.from_residual.result c.from_residual.ensures.1 in
    let err = c.in_err-count.ensures.err in
    rw (p.1, p.2, err.0) (omega (arith, many_names c.args.names.now, err.1))

pub encode_name-requires : goal.encode_name-requires
encode_name-requires c =
    let P : List ℕ → Type 0 = λ n. length n < 256 in
    subst P (sym c.as_slice.ensures) (name_short c.args.names.now c.loop-name.name-index c.name-item.result c.requires c.loop-name-test.true c.name-item.is)

pub loop-name-preserved : goal.loop-name-preserved
loop-name-preserved c = grind (arith, common_steps)

pub returns : goal.returns
returns c = grind (arith, common_steps)
