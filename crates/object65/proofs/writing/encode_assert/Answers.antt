use Rattle.std.proofs.lemmas.Grind.{common_steps}
use Rattle.std.proofs.Common.{length, ap, arith}
use Rattle.object65.specs.Spelling.{form_bytes, origin_bytes}
use Rattle.object65.proofs.Forms.{origin_len, small_assert, added_len}
use Rattle.object65.proofs.writing.encode_assert.Goals as goal

pub encode_record-requires : goal.encode_record-requires
encode_record-requires c =
    let e = c.args.assert.now in
    let small = small_assert e c.requires in
    let a = added_len c.clear.new.self.items _ c.push.new.self.items c.in_ok-push.ensures.items in
    let b = added_len c.push.new.self.items (origin_bytes e.origin) c.encode_origin.new.out.items c.in_ok-encode_origin.ensures in
    let k = added_len c.encode_origin.new.out.items _ c.push-2.new.self.items c.in_ok-push-2.ensures.items in
    let n = added_len c.push-2.new.self.items _ c.extend_from_slice.new.self.items c.in_ok-extend_from_slice.ensures.items in
    let d = added_len c.extend_from_slice.new.self.items (form_bytes e.form) c.encode_form.new.out.items c.in_ok-encode_form.ensures in
    omega (arith, ap length c.clear.ensures.items, ap length c.deref.ensures.value, ap length c.as_slice.ensures, a, b, k, n, d, small.0, small.1, origin_len e.origin)

pub returns : goal.returns
returns c = grind (arith, common_steps)
