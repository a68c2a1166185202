use Rattle.ar65.proofs.Names.{named_after, named_whole}
use Rattle.ar65.proofs.members.member_name.Goals as goal

pub returns-in-Some : goal.returns-in-Some
returns-in-Some c = let h = c.in-Some.ensures.cases in named_after c.args.file.now c.in-Some.name.now h.0 h.1 h.2 h.4 h.7

pub returns-in-None : goal.returns-in-None
returns-in-None c = named_whole c.args.file.now c.in-None.ensures.cases
