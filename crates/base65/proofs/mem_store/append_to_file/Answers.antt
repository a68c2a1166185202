use Rattle.std.proofs.Common.{◌≡◌, ◌∙◌, ◌++◌, Some, length, refl, sym, ap, arith}
use Rattle.std.proofs.lemmas.List.{take_all}
use Rattle.std.proofs.lemmas.Result.{err_from_is_err_and}
use Rattle.std.specs.FinMap as map
use Rattle.base65.specs.MemStore.{file_index, files_of}
use Rattle.base65.proofs.FileIndex.{set_there, get_nowhere, get_somewhere, named_at, insert_same}
use Rattle.base65.proofs.mem_store.append_to_file.Goals as goal

pub returns-in-None-clause-appended : goal.returns-in-None-clause-appended
returns-in-None-clause-appended c = (get_nowhere c.args.files.now.items c.args.name.now (cc (c.in-None.ensures.index, c.deref.ensures.value)), refl)

pub returns-in_err-extend_from_slice-in-Some-clause-appended : goal.returns-in_err-extend_from_slice-in-Some-clause-appended
returns-in_err-extend_from_slice-in-Some-clause-appended c =
    let p = err_from_is_err_and c.from_residual.result c.from_residual.ensures.1 in
    let at : file_index c.args.name.now c.args.files.now.items ≡ Some c.in-Some.i = cc (c.in-Some.ensures.index, c.deref.ensures.value) in
    let was = get_somewhere c.args.files.now.items c.args.name.now c.in-Some.i c.index_mut-file.result.now at c.index_mut-file.ensures.value in
    rw (p.1, p.2)
    (set_there c.args.files.now.items c.args.name.now c.in-Some.i _ at (named_at c.args.files.now.items c.args.name.now c.in-Some.i c.index_mut-file.result.now at c.index_mut-file.ensures.value)
    ∙ ap (map.insert (files_of c.args.files.now.items) c.args.name.now) c.in_err-extend_from_slice-in-Some.ensures.items
    ∙ insert_same _ _ _ was)

pub returns-in_ok-extend_from_slice-in-Some-clause-appended : goal.returns-in_ok-extend_from_slice-in-Some-clause-appended
returns-in_ok-extend_from_slice-in-Some-clause-appended c =
    let at : file_index c.args.name.now c.args.files.now.items ≡ Some c.in-Some.i = cc (c.in-Some.ensures.index, c.deref.ensures.value) in (
      c.index_mut-file.result.now.bytes.items,
      record {
        existing = get_somewhere c.args.files.now.items c.args.name.now c.in-Some.i c.index_mut-file.result.now at c.index_mut-file.ensures.value;
        extended =
            set_there c.args.files.now.items c.args.name.now c.in-Some.i _ at (named_at c.args.files.now.items c.args.name.now c.in-Some.i c.index_mut-file.result.now at c.index_mut-file.ensures.value)
            ∙ ap (map.insert (files_of c.args.files.now.items) c.args.name.now) (c.in_ok-extend_from_slice-in-Some.ensures.items ∙ ap (λ xs. c.index_mut-file.result.now.bytes.items ++ xs) (sym (take_all (length c.args.piece.now) c.args.piece.now (omega arith))));
      },
    )
