use Rattle.std.proofs.Common.{sym, subst}
use Rattle.base65.specs.Outcome.{Refines}
use Rattle.library65.specs.Fault.{is_memory}
use Rattle.ar65.proofs.DeletionsAndExtractions.{some_named}
use Rattle.ar65.proofs.members.extract_files.Goals as goal

pub returns-clause-found : goal.returns-clause-found
returns-clause-found c = λ all.
    subst (Refines is_memory (λ found. found) c.named_files.result) (sym (some_named c.args.library.now c.args.files.now c.is_empty.result c.if-is_empty.false c.is_empty.ensures)) c.named_files.ensures.found
