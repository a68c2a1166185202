use Rattle.std.proofs.Common.{◌∙◌, List, map, sym, subst, ap}
use Rattle.std.specs.List.{AllByRecursion}
use Rattle.library65.specs.Libraries.{member_names, HasMatchingContents, member_of}
use Rattle.library65.specs.Spelling.{are_member_names, Member}
use Rattle.library65.proofs.Edits.{checked_good, insert_stored, inserted, with_good}
use Rattle.library65.proofs.library.insert_member.Goals as goal

pub returns-clause-inserted : goal.returns-clause-inserted
returns-clause-inserted c = ap (map member_of) c.in_ok-insert.ensures.entries ∙ inserted c.args.members.now.entries c.args.name c.args.stored

pub returns-clause-sound : goal.returns-clause-sound
returns-clause-sound c =
    let good = checked_good c.args.name.items c.args.stored.bytes.items c.args.stored.contents c.requires.checked in
    let made = ap (map member_of) c.in_ok-insert.ensures.entries ∙ inserted c.args.members.now.entries c.args.name c.args.stored in
    record {
      names = ap (λ (ms : List Member). are_member_names (member_names ms)) made ∙ with_good (map member_of c.args.members.now.entries) c.args.name.items c.args.stored.bytes.items good c.requires.sound.names;
      stored = subst (AllByRecursion HasMatchingContents) (sym c.in_ok-insert.ensures.entries) (insert_stored c.args.members.now.entries c.args.name c.args.stored c.requires.sound.stored (c.requires.checked, c.requires.symbols));
    }
