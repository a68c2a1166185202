use Rattle.std.proofs.Common.{◌≡◌, ap, length, refl, rules, true}
use Rattle.semantics65.specs.Contents.{LinkTimeValue, section_part}
use Rattle.semantics65.specs.Module.{resolved}
use Rattle.emit65.specs.SectionContents.{names_in, has_file_below}
use Rattle.emit65.specs.declared.entries.SectionEntry.TheVariants.{Value}
use Rattle.emit65.proofs.RepresentedSlots.{stands_put}
use Rattle.emit65.proofs.sections.Sections.value.Goals as goal

pub returns : goal.returns
returns c = λ xs h.
    let pos = c.in_ok-pos.ensures in
    let names = names_in c.pos_of.new.self in
    let entry = Value c.args.width c.args.segment c.in_ok-pos.pos c.args.form in
    let listed : has_file_below (length names) entry ≡ true = search rules in
    stands_put c.args.self.now _ entry _ xs refl refl refl pos.more (ap (λ p. resolved (section_part c.args.segment (LinkTimeValue c.args.width p c.args.form))) pos.location) (c.in_ok-push.ensures names listed) h
