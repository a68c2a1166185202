use Rattle.std.proofs.lemmas.Grind.{common_steps}
use Rattle.std.proofs.Common.{◌∙◌, ap, map, arith, length-append}
use Rattle.std.proofs.lemmas.List.{length-map}
use Rattle.std.proofs.lemmas.Result.{err_from_is_err_and}
use Rattle.std.specs.List.{flat_map}
use Rattle.library65.specs.declared.library.StoredMember.{StoredMember}
use Rattle.library65.specs.Libraries.{member_entry_bytes, member_of}
use Rattle.library65.specs.Spelling.{Member}
use Rattle.library65.proofs.WrittenLibraries.{bodies_seen, many_members}
use Rattle.library65.proofs.writing.encode_library.Goals as goal

pub returns-in_err-count : goal.returns-in_err-count
returns-in_err-count c =
    let p = err_from_is_err_and c.from_residual.result c.from_residual.ensures.1 in
    let err = c.in_err-count.ensures.err in
    let ms = map member_of c.args.members.now.entries in
    rw (p.1, p.2, err.0) (omega (arith, err.1, c.len.ensures.len, many_members ms, length-map c.args.members.now.entries member_of, length-append (flat_map member_entry_bytes ms) (flat_map (λ (m : Member). m.1) ms)))

pub loop-stored-init : goal.loop-stored-init
loop-stored-init c =
    let items = c.into_iter-stored-iterator.ensures.into_iter_gives in
    let rest = c.values-stored-items.ensures.rest in
    let seen = ap (flat_map (λ (s : StoredMember). s.bytes.items)) (items ∙ rest) ∙ bodies_seen c.args.members.now.entries in
    rw seen (grind (arith, common_steps))

pub loop-stored-preserved : goal.loop-stored-preserved
loop-stored-preserved c = grind (arith, common_steps)

pub returns-in_err-encode_entries : goal.returns-in_err-encode_entries
returns-in_err-encode_entries c = grind (arith, common_steps)
