use Rattle.std.proofs.lemmas.Grind.{common_steps}
use Rattle.std.proofs.Common.{◌≡◌, ◌∙◌, Err, ap, get_or, subst, arith}
use Rattle.std.proofs.lemmas.Result.{err_from_is_err_and}
use Rattle.base65.specs.Store.{FailedAt}
use Rattle.syntax65.specs.declared.fault.ExpandFault.TheVariants.{FileError}
use Rattle.expand65.specs.Expansion.{path_in}
use Rattle.expand65.proofs.FileSearch.{among_at}
use Rattle.expand65.proofs.includes.find_in_folders.Goals as goal

pub returns-in_err-found-clause-last_failure : goal.returns-in_err-found-clause-last_failure
returns-in_err-found-clause-last_failure g c = λ is.
    (let r = c.from_residual-in_err-found.result in
    let p = err_from_is_err_and r c.from_residual-in_err-found.ensures.1 in
    let last_failure = g.S.Store.last_failure c.existing_file.new.store in
    let fails : r ≡ Err c.in_err-found.field-0.0 = p.1 ∙ ap Err p.2 in
    let failed : r ≡ Err FileError = is in
    let same : c.in_err-found.field-0.0 ≡ FileError = cc in
    let folder = get_or c.args.folders.now c.loop-folder.folder-index c.folder-item.result in
    let name_is : c.as_slice.result.now ≡ path_in c.args.name.now folder = c.as_slice.ensures.value ∙ c.in_ok-path.ensures ∙ ap (path_in c.args.name.now) (c.as_bytes.ensures.value ∙ c.as_str.ensures ∙ c.folder-item.is) in
    among_at last_failure (path_in c.args.name.now) c.args.folders.now c.loop-folder.folder-index c.folder-item.result c.loop-folder-test.true (subst (λ n. FailedAt last_failure n 16777216) name_is (c.in_err-found.ensures.last_failure (ap Err same))))

pub loop-folder-preserved : goal.loop-folder-preserved
loop-folder-preserved g c = grind (arith, common_steps)

pub returns-in_err-found-clause-found : goal.returns-in_err-found-clause-found
returns-in_err-found-clause-found g c = grind (arith, common_steps)

pub returns-in-Some-clause-found : goal.returns-in-Some-clause-found
returns-in-Some-clause-found g c = grind (arith, common_steps)

pub returns-in-Some-clause-frame : goal.returns-in-Some-clause-frame
returns-in-Some-clause-frame g c = grind (arith, common_steps)
