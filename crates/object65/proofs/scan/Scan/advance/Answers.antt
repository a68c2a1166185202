use Rattle.std.proofs.lemmas.Grind.{common_steps}
use Rattle.std.proofs.Common.{Bool, Ok, ap, refl, sym, subst, ◌∙◌, arith}
use Rattle.object65.specs.declared.record.Item.{Item}
use Rattle.object65.specs.Record.{raw_record}
use Rattle.object65.specs.Scanning.{Outline, IsWithinLimits, scan_step}
use Rattle.object65.specs.Internal.Sound.{outline_in}
use Rattle.object65.proofs.ItemLimits.{scanned_on, stands_next, within_next}
use Rattle.object65.proofs.scan.Scan.advance.Goals as goal

pub invariant_of-self-2 : goal.invariant_of-self-2
invariant_of-self-2 c = λ running.
    let o = outline_in c.self.inside.scan_state in
    let e = raw_record c.args.next.now in
    let x : Outline × Item = (outline_in c.accept_record.new.scan_state, c.in_ok-item.item) in
    record {
      sound = c.in_ok-item.ensures.sound;
      reachable = stands_next o e x (c.self.invariant c.if-self.false).reachable (scanned_on o e (Ok x) refl c.if-self-2.false c.in_ok-item.ensures.taken);
    }

pub returns-clause-within : goal.returns-clause-within
returns-clause-within c =
    let o = outline_in c.self.inside.scan_state in
    let e = raw_record c.args.next.now in
    let x : Outline × Item = (outline_in c.accept_record.new.scan_state, c.in_ok-item.item) in
    let same = ap (λ (b : Bool). record o { failed = b }) (sym c.if-self.false) ∙ c.self.view_is in
    subst (λ (p : Outline). IsWithinLimits p c.in_ok-item.item) same
    (within_next o e x (c.self.invariant c.if-self.false).reachable (scanned_on o e (Ok x) refl c.if-self-2.false c.in_ok-item.ensures.taken) c.in_ok-item.ensures.small)

pub returns-clause-scanned : goal.returns-clause-scanned
unfolding scan_step
returns-clause-scanned c = grind (arith, common_steps)
