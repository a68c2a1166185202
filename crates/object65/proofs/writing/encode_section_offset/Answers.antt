use Rattle.std.proofs.Common.{◌≡◌, ◌∷◌, [], to_z, of_z, FitsSigned, rules}
use Rattle.std.proofs.lemmas.Int.{to_z-of_z}
use Rattle.std.proofs.lemmas.Result.{on_ok_weaker}
use Rattle.std.specs.Int.{w64, cast_unsigned}
use Rattle.byteorder.specs.Endian.{little_bytes}
use Rattle.object65.proofs.Names.{joined}
use Rattle.object65.proofs.writing.encode_section_offset.Goals as goal

pub returns : goal.returns
returns c =
    let same : to_z w64 (of_z w64 c.args.offset) ≡ c.args.offset = (let fits : FitsSigned w64 c.args.offset = search rules in to_z-of_z w64 c.args.offset fits) in
    on_ok_weaker c.encode_i64.result (λ last. joined c.args.out.now.items (1 ∷ []) (little_bytes 4 c.args.section) (little_bytes 8 (cast_unsigned w64 c.args.offset)) c.push.new.self.items c.encode_u32.new.out.items c.encode_i64.new.out.items c.in_ok-push.ensures.items c.in_ok-encode_u32.ensures (rw same at last)) c.encode_i64.ensures
