use Rattle.std.proofs.Common.{◌<◌, length, arith}
use Rattle.std.proofs.lemmas.Bool.Decides.{nat_tests}
use Rattle.object65.proofs.Forms.{form_steps}
use Rattle.object65.proofs.body_decoding.+form.Goals as goal

pub read_form-returns : goal.read_form-returns
read_form-returns t c =
    let some : 0 < length c.args.bytes.now = (let e = c.if-is_empty.ensures in grind (arith, nat_tests)) in
    let steps = form_steps c.args.depth c.args.bytes.now c.split_at.result.0.now c.split_at.result.1.now c.if-depth-eq0.false some c.split_at.ensures.front c.split_at.ensures.back in
    rw steps c.read_after.ensures
