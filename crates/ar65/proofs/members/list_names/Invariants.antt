use Rattle.std.proofs.Common.{◌≡◌, ◌++◌}
use Rattle.library65.specs.Libraries.{member_names}
use Rattle.ar65.specs.Librarian.{names_text}
use Rattle.ar65.proofs.members.list_names.Given as goal

abbrev pub invariant-loop-name : goal.invariant-loop-name
invariant-loop-name l = l.text ++ names_text l.name-iterator ≡ names_text (member_names l.library)
