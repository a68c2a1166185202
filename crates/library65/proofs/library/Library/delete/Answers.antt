use Rattle.std.proofs.Common.{◌≡◌, ◌∙◌, List, Ok, true, false, map, refl, sym, subst, ap}
use Rattle.std.specs.List.{AllByRecursion}
use Rattle.library65.specs.Libraries.{member_names, HasMatchingContents, member_of}
use Rattle.library65.specs.Spelling.{are_member_names, is_among, Member}
use Rattle.library65.proofs.Edits.{known, remove_stored, removed, without_good}
use Rattle.library65.proofs.library.Library.delete.Goals as goal

pub returns-then-not-contains_key-clause-deleted : goal.returns-then-not-contains_key-clause-deleted
returns-then-not-contains_key-clause-deleted c =
    let none : is_among (member_names (map member_of c.self.inside.members.entries)) c.args.name.now ≡ false = sym (c.contains_key.ensures ∙ known c.self.inside.members.entries c.args.name.now) ∙ c.if-not-contains_key.true in
    rw (← c.self.view_is, none, c.in_ok-copy_of.ensures) refl

pub invariant_of-self : goal.invariant_of-self
invariant_of-self c =
    let made = ap (map member_of) c.shift_remove.ensures.entries ∙ removed c.self.inside.members.entries c.args.name.now in
    record {
      names = ap (λ (ms : List Member). are_member_names (member_names ms)) made ∙ without_good (map member_of c.self.inside.members.entries) c.args.name.now c.self.invariant.names;
      stored = subst (AllByRecursion HasMatchingContents) (sym c.shift_remove.ensures.entries) (remove_stored c.self.inside.members.entries c.args.name.now c.self.invariant.stored);
    }

pub returns-clause-deleted : goal.returns-clause-deleted
returns-clause-deleted c =
    let some : is_among (member_names (map member_of c.self.inside.members.entries)) c.args.name.now ≡ true = sym (c.contains_key.ensures ∙ known c.self.inside.members.entries c.args.name.now) ∙ c.if-not-contains_key.false in
    rw (← c.self.view_is, some) (ap Ok (sym (ap (map member_of) c.shift_remove.ensures.entries ∙ removed c.self.inside.members.entries c.args.name.now)))
