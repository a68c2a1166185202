use Rattle.std.proofs.Common.{◌<◌, ◌≤◌, length, arith}
use Rattle.std.proofs.lemmas.Result.{on_ok_weaker}
use Rattle.std.proofs.lemmas.Bool.Decides.{nat_tests}
use Rattle.std.specs.List.{flat_map}
use Rattle.object65.specs.Spelling.{literal_records, record_bytes, body_limit}
use Rattle.object65.proofs.Drafts.{written_piece, written_last}
use Rattle.object65.proofs.writing.encode_literal.Goals as goal

pub loop-rest-preserved : goal.loop-rest-preserved
loop-rest-preserved c =
    let long : body_limit < length c.loop-rest.rest.now = omega arith in
    rw c.split_at.ensures.back (written_piece c.loop-rest.out.items c.encode_record.new.out.items c.args.out.now.items c.loop-rest.rest.now (flat_map record_bytes (literal_records c.args.bytes.now)) long (rw c.split_at.ensures.front at c.in_ok-encode_record.ensures) c.loop-rest.invariant)

pub returns : goal.returns
returns c =
    let some : 0 < length c.loop-rest.rest.now = grind (arith, nat_tests) in
    let within : length c.loop-rest.rest.now ≤ body_limit = omega arith in
    on_ok_weaker c.encode_record-2.result (λ last. written_last c.loop-rest.out.items c.encode_record-2.new.out.items c.args.out.now.items c.loop-rest.rest.now (flat_map record_bytes (literal_records c.args.bytes.now)) some within last c.loop-rest.invariant) c.encode_record-2.ensures
