use Rattle.std.proofs.Common.{[], subst}
use Rattle.std.proofs.lemmas.Result.{err_from_is_err_and}
use Rattle.std.specs.List.{AllByRecursion}
use Rattle.library65.specs.Libraries.{HasMatchingContents}
use Rattle.library65.proofs.WrittenLibraries.{names_next, out_next, passed_on, size_first, size_next}
use Rattle.library65.proofs.writing.encode_entries.Goals as goal

pub loop-name-preserved : goal.loop-name-preserved
loop-name-preserved c =
    let steps = c.in-Some.ensures.steps in
    let all = c.loop-name.name-iterator in
    let k = c.in-Some.name.now in
    let v = c.in-Some.stored.now in
    let es = c.next.new.self in
    let inv = c.loop-name.invariant in
    let stored = subst (AllByRecursion HasMatchingContents) steps inv.stored in
    record {
      names = names_next all k v es steps inv.names;
      stored = stored.1;
      out = out_next all k v es c.as_slice.result.now c.loop-name.out.items c.encode_entry.new.out.items _ steps stored.0 c.as_slice.ensures.value c.in_ok-encode_entry.ensures inv.out;
      size = size_next all k v es _ steps inv.size;
    }

pub returns-in_err-encode_entry : goal.returns-in_err-encode_entry
returns-in_err-encode_entry c =
    let p = err_from_is_err_and c.from_residual.result c.from_residual.ensures.1 in
    let steps = c.in-Some.ensures.steps in
    let all = c.loop-name.name-iterator in
    let k = c.in-Some.name.now in
    let v = c.in-Some.stored.now in
    let inv = c.loop-name.invariant in
    let stored = subst (AllByRecursion HasMatchingContents) steps inv.stored in
    rw (p.1, p.2) (passed_on c.in_err-encode_entry.field-0.0 [] [] [] [] [] [] _ _ c.in_err-encode_entry.ensures (size_first all k v c.next.new.self c.as_slice.result.now _ steps stored.0 c.as_slice.ensures.value inv.size))
