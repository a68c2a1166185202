use Rattle.std.proofs.Common.{Some, map, position, sym, ap, subst, ◌∙◌}
use Rattle.std.specs.Str.{bytes_eq}
use Rattle.symbols65.specs.Tables.{IsPrefixOf}
use Rattle.symbols65.proofs.InternedNames.{insert_name, number_mapped, one_begins, one_found, with_one}
use Rattle.symbols65.proofs.table.intern.Goals as goal

pub returns-clause-more : goal.returns-clause-more
returns-clause-more c =
    let ws = map (λ k. k.items) c.args.interned_names.now.keys in
    let key = c.in_ok-from_slice.field-0 in
    subst (IsPrefixOf ws) (sym (ap (map (λ k. k.items)) c.in_ok-name_id.ensures.keys ∙ insert_name (λ k. k.items) c.args.interned_names.now.keys key)) (one_begins ws key.items)

pub returns-clause-number : goal.returns-clause-number
returns-clause-number c =
    let keys = c.args.interned_names.now.keys in
    let ws = map (λ k. k.items) keys in
    let key = c.in_ok-from_slice.field-0 in
    let same = c.in_ok-from_slice.ensures.ok in
    let now = ap (map (λ k. k.items)) c.in_ok-name_id.ensures.keys ∙ insert_name (λ k. k.items) keys key in
    ap (λ l. position (bytes_eq c.args.name.now) l) now
    ∙ ap (λ n. position (bytes_eq n) (with_one ws key.items)) (sym same)
    ∙ one_found ws key.items
    ∙ ap Some (number_mapped (λ k. k.items) key.items keys ∙ sym c.in_ok-name_id.ensures.index)
