use Rattle.std.proofs.Common.{◌≡◌, ◌∙◌, ap, length, refl, rules, true}
use Rattle.std.specs.Prelude.{nat_lt}
use Rattle.semantics65.specs.Module.{deferred}
use Rattle.emit65.specs.SectionContents.{fixup_of, names_in, piece_of, has_file_below}
use Rattle.emit65.specs.declared.entries.SectionEntry.TheVariants.{FixupEntry}
use Rattle.emit65.specs.declared.fixups.Fixup.{Fixup}
use Rattle.emit65.proofs.RepresentedSlots.{stands_put}
use Rattle.emit65.proofs.sections.Sections.defer.Goals as goal

pub returns : goal.returns
returns c = λ xs h.
    let pos = c.in_ok-pos.ensures in
    let names = names_in c.pos_of.new.self in
    let box = c.in_ok-fixup.fixup in
    let fixup : Fixup = record { pos = c.in_ok-pos.pos; context = c.args.context; piece = c.args.piece } in
    let held : box.value ≡ fixup = c.in_ok-fixup.ensures.ok in
    let there : nat_lt c.in_ok-pos.pos.file (length names) ≡ true = search rules in
    let listed : has_file_below (length names) (FixupEntry box) ≡ true = ap (λ (w : Fixup). nat_lt w.pos.file (length names)) held ∙ there in
    stands_put c.args.self.now _ (FixupEntry box) _ xs refl refl refl pos.more
    (ap (λ (w : Fixup). deferred (fixup_of names w)) held ∙ ap (λ p. deferred (record { place = p; context = c.args.context; piece = piece_of c.args.piece })) pos.location)
    (c.in_ok-push.ensures names listed) h
