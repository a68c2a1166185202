use Rattle.std.proofs.lemmas.Grind.{common_steps}
use Rattle.std.proofs.Common.{length, ap, arith}
use Rattle.object65.specs.Spelling.{form_bytes, origin_bytes}
use Rattle.object65.proofs.Forms.{origin_len, small_form, added_len}
use Rattle.object65.proofs.writing.encode_value.Goals as goal

pub encode_record-requires : goal.encode_record-requires
encode_record-requires c =
    let form = c.args.form.now in
    let a = added_len c.clear.new.self.items _ c.push.new.self.items c.in_ok-push.ensures.items in
    let b = added_len c.push.new.self.items (origin_bytes c.args.origin) c.encode_origin.new.out.items c.in_ok-encode_origin.ensures in
    let d = added_len c.encode_origin.new.out.items (form_bytes form) c.encode_form.new.out.items c.in_ok-encode_form.ensures in
    omega (arith, ap length c.clear.ensures.items, ap length c.deref.ensures.value, a, b, d, small_form form c.requires, origin_len c.args.origin)

pub returns : goal.returns
returns c = grind (arith, common_steps)
