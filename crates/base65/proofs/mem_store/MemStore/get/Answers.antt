use Rattle.std.proofs.Common.{sym}
use Rattle.base65.proofs.FileIndex.{get_nowhere, get_somewhere}
use Rattle.base65.proofs.mem_store.MemStore.get.Goals as goal

pub returns-in_err-i : goal.returns-in_err-i
returns-in_err-i c =
    let none = get_nowhere c.self.inside.files.items c.args.name.now (cc (c.in_err-i.ensures.index, c.deref.ensures.value, c.as_bytes.ensures.value)) in
    rw (c.from_residual.ensures, ← c.self.view_is) (sym none)

pub returns : goal.returns
returns c =
    let some = get_somewhere c.self.inside.files.items c.args.name.now c.in_ok-i.i c.index.result.now (cc (c.in_ok-i.ensures.index, c.deref.ensures.value, c.as_bytes.ensures.value)) c.index.ensures in
    rw (← c.self.view_is, c.as_slice.ensures.value) (sym some)
