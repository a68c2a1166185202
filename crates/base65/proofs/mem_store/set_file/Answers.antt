use Rattle.std.proofs.Common.{◌∙◌, ap}
use Rattle.std.specs.FinMap as map
use Rattle.base65.specs.MemStore.{files_of}
use Rattle.base65.proofs.FileIndex.{set_there, pushed}
use Rattle.base65.proofs.mem_store.set_file.Goals as goal

pub returns-in-Some-clause-ok : goal.returns-in-Some-clause-ok
returns-in-Some-clause-ok c =
    set_there c.args.files.now.items c.args.name.now c.in-Some.i _ (cc (c.in-Some.ensures.index, c.deref.ensures.value)) c.in_ok-from_slice.ensures.items
    ∙ ap (map.insert (files_of c.args.files.now.items) c.args.name.now) c.in_ok-from_slice-2.ensures.items

pub returns-in_ok-push-in-None-clause-ok : goal.returns-in_ok-push-in-None-clause-ok
returns-in_ok-push-in-None-clause-ok c =
    ap files_of c.in_ok-push-in-None.ensures.items
    ∙ pushed c.args.files.now.items c.args.name.now _ (cc (c.in-None.ensures.index, c.deref.ensures.value)) c.in_ok-from_slice.ensures.items
    ∙ ap (map.insert (files_of c.args.files.now.items) c.args.name.now) c.in_ok-from_slice-2.ensures.items
