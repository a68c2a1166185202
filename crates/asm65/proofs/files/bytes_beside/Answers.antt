use Rattle.std.proofs.Common.{rules, ◌≡◌, ◌∙◌, sym, ap, subst, Some, Ok, Err}
use Rattle.std.specs.FinMap as fmap
use Rattle.base65.specs.Reading.{file_prefix}
use Rattle.base65.specs.Outcome.{Unless}
use Rattle.base65.specs.StoreFaults.{is_store_system_error}
use Rattle.base65.specs.declared.store.StoreFault.{StoreFault}
use Rattle.expand65.specs.Expansion.{sibling_path}
use Rattle.asm65.proofs.WholeFiles.{read_failed, read_none, read_some, unnamed}
use Rattle.asm65.proofs.Runs.{some_all, some_then}
use Rattle.asm65.proofs.files.bytes_beside.Goals as goal

pub returns-in_default-clause-read : goal.returns-in_default-clause-read
returns-in_default-clause-read g c =
    some_all _ (g.S.Store.files c.args.store.now) (λ m. unnamed m (sibling_path c.args.file.now c.args.name.now) 16777217 (sym c.in_default.is ∙ c.in_ok-name.ensures))

pub returns-in-Ok-clause-read : goal.returns-in-Ok-clause-read
returns-in-Ok-clause-read g c =
    some_then (λ m. file_prefix (fmap.get m c.as_str.result.now) 16777217 ≡ Ok c.in-Ok.bytes.items) _ (g.S.Store.files c.args.store.now)
    (λ m h. read_some m (sibling_path c.args.file.now c.args.name.now) c.as_str.result.now 16777217 c.from_vec.result (ap Some c.as_str.ensures ∙ sym c.in-Some.is ∙ c.in_ok-name.ensures) (h ∙ ap Ok (sym c.from_vec.ensures))) c.in-Ok.ensures.read

pub returns-in-Err-FileNotFound-clause-read : goal.returns-in-Err-FileNotFound-clause-read
returns-in-Err-FileNotFound-clause-read g c =
    let f = c.in-Err-FileNotFound.field-0 in
    some_then (λ m. Unless (is_store_system_error f) (file_prefix (fmap.get m c.as_str.result.now) 16777217 ≡ Err f)) _ (g.S.Store.files c.args.store.now)
    (λ m h. read_none m (sibling_path c.args.file.now c.args.name.now) c.as_str.result.now 16777217 (ap Some c.as_str.ensures ∙ sym c.in-Some.is ∙ c.in_ok-name.ensures) (subst (λ (e : StoreFault). Unless (is_store_system_error e) (file_prefix (fmap.get m c.as_str.result.now) 16777217 ≡ Err e)) c.in-Err-FileNotFound.field-0-is h)) c.in-Err-FileNotFound.ensures.read

pub returns-clause-within : goal.returns-clause-within
returns-clause-within g c = λ failed.
    read_failed (g.S.Store.files c.args.store.now) (g.S.Store.last_failure c.read_prefix.new.store) (sibling_path c.args.file.now c.args.name.now) c.as_str.result.now (ap Some c.as_str.ensures ∙ sym c.in-Some.is ∙ c.in_ok-name.ensures)
    (c.in-Err.ensures.failure_offset (search rules))
