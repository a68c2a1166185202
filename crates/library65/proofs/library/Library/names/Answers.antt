use Rattle.std.proofs.Common.{◌∙◌, ap, map}
use Rattle.library65.specs.Libraries.{member_names}
use Rattle.library65.proofs.Edits.{named}
use Rattle.library65.proofs.library.Library.names.Goals as goal

pub returns : goal.returns
returns c = ap (map (λ k. k.items)) c.keys.ensures.rest ∙ named c.self.inside.members.entries ∙ ap member_names c.self.view_is
