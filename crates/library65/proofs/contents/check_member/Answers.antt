use Rattle.std.proofs.lemmas.Grind.{common_steps}
use Rattle.library65.specs.Libraries.{member_contents, contents_in}
use Rattle.library65.specs.Libraries.{contents_in}
use Rattle.object65.specs.Reading.{object_at}
use Rattle.std.proofs.Common.{◌≡◌, rules, true, arith}
use Rattle.library65.specs.Spelling.{is_member_name}
use Rattle.library65.proofs.Members.{trailing}
use Rattle.library65.proofs.contents.check_member.Goals as goal

pub returns-then-end-bytes-clause-checked : goal.returns-then-end-bytes-clause-checked
returns-then-end-bytes-clause-checked c =
    let named : is_member_name c.args.name.now ≡ true = search rules in
    trailing c.args.name.now c.args.bytes.now c.in_ok-version.version c.in_ok-version.first c.in_ok-contents.end c.in_ok-contents.contents named c.in_ok-version.ensures.read c.in_ok-contents.ensures.read c.if-end-bytes.true

pub returns-in_err-version-clause-checked : goal.returns-in_err-version-clause-checked
unfolding member_contents contents_in object_at
returns-in_err-version-clause-checked c = grind (arith, common_steps)

pub returns-clause-checked : goal.returns-clause-checked
unfolding member_contents contents_in object_at
returns-clause-checked c = grind (arith, common_steps)

pub returns-in_err-contents-clause-checked : goal.returns-in_err-contents-clause-checked
unfolding member_contents contents_in object_at
returns-in_err-contents-clause-checked c = grind (arith, common_steps)
