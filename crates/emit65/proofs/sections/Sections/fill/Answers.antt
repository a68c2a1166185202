use Rattle.std.proofs.Common.{◌≡◌, ◌∙◌, ◌∷◌, [], List, ℕ, refl, rules, subst}
use Rattle.std.specs.Prelude.{replicate}
use Rattle.semantics65.specs.Contents.{Known, section_part}
use Rattle.semantics65.specs.Module.{resolved}
use Rattle.emit65.specs.SectionContents.{AppendsSlotsWithFiles, names_in}
use Rattle.emit65.proofs.RepresentedSlots.{begins_same, stands_taken}
use Rattle.emit65.proofs.sections.Sections.fill.Goals as goal

pub returns : goal.returns
returns c = λ xs h.
    let bytes : c.resize.new.self.items ≡ replicate c.args.count c.args.byte = search rules in
    stands_taken c.args.self.now _ _ xs refl refl refl (begins_same (names_in c.args.self.now.files)) (subst (λ (bytes : List ℕ). AppendsSlotsWithFiles (names_in c.args.self.now.files) c.args.self.now.entries c.add_bytes.new.self (resolved (section_part c.args.segment (Known bytes)) ∷ [])) (c.as_slice.ensures.value ∙ bytes) (c.in_ok-add_bytes.ensures (names_in c.args.self.now.files))) h
