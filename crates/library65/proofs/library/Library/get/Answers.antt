use Rattle.std.proofs.Common.{◌∙◌, Some, List, ℕ, sym, ap}
use Rattle.std.specs.Option.{option_copied, option_map}
use Rattle.library65.specs.declared.library.StoredMember.{StoredMember}
use Rattle.library65.proofs.Edits.{found}
use Rattle.library65.proofs.library.Library.get.Goals as goal

pub returns-in_err-get : goal.returns-in_err-get
returns-in_err-get c = rw (← c.self.view_is) (ap option_copied c.from_residual.ensures ∙ sym (found c.self.inside.members.entries c.args.name.now ∙ ap (option_map (λ (s : StoredMember). s.bytes.items)) (sym c.in_err-get.ensures.value)))

pub returns : goal.returns
returns c = rw (← c.self.view_is) (ap (λ (bs : List ℕ). Some bs) c.as_slice.ensures.value ∙ sym (found c.self.inside.members.entries c.args.name.now ∙ ap (option_map (λ (s : StoredMember). s.bytes.items)) (sym c.in_ok-get.ensures.value)))
