use Rattle.std.proofs.lemmas.Grind.{common_steps}
use Rattle.std.proofs.Common.{arith}
use Rattle.library65.specs.Libraries.{with_library_entry, indexed_contents}
use Rattle.library65.specs.Libraries.{indexed_contents}
use Rattle.std.proofs.lemmas.Result.{err_from_is_err_and}
use Rattle.library65.proofs.Members.{not_stored}
use Rattle.library65.proofs.Steps.{kept_on}
use Rattle.library65.proofs.loading.load_member.Goals as goal

pub returns-in_err-contents-clause-frame : goal.returns-in_err-contents-clause-frame
returns-in_err-contents-clause-frame g c =
    let p = err_from_is_err_and c.from_residual-in_err-contents.result c.from_residual-in_err-contents.ensures.1 in
    rw (p.1, p.2) (kept_on _ _ c.in_ok-bytes.ensures.frame (not_stored c.as_slice-name.result.now c.as_slice.result.now c.in_err-contents.field-0.0 c.in_err-contents.ensures.checked))

pub returns-clause-frame : goal.returns-clause-frame
unfolding with_library_entry indexed_contents
returns-clause-frame g c = grind (arith, common_steps)
