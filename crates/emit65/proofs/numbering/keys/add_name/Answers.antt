use Rattle.std.proofs.Common.{◌≡◌, ◌∙◌, ap, rules, sym, Some}
use Rattle.semantics65.specs.Numbering.{key_of, distinct_keys, optional_key}
use Rattle.emit65.specs.SectionContents.{names_of}
use Rattle.emit65.proofs.Keys.{key_found}
use Rattle.emit65.proofs.numbering.keys.add_name.Goals as goal

pub returns-in_ok-insert : goal.returns-in_ok-insert
returns-in_ok-insert c =
    let key : key_of (names_of c.args.imports.now) c.args.name.now ≡ Some c.in_ok-narrow.field-0 = key_found c.args.imports.now c.args.name.now ∙ sym c.get_index_of.ensures.index ∙ c.in-Some.is ∙ ap Some (sym c.in_ok-narrow.ensures) in
    rw key (search rules)

pub returns-in_default : goal.returns-in_default
returns-in_default c = ap (λ k. distinct_keys c.args.keys.now.keys (optional_key k)) (sym (key_found c.args.imports.now c.args.name.now ∙ sym c.get_index_of.ensures.index ∙ c.in_default.is))
