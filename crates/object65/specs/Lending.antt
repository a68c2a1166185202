-- The root node of a form, borrowed mutably.
use Rattle.std.specs.Borrow.{Lends, MutBor, Fml}
use Rattle.object65.specs.Form.{Form}
use Rattle.object65.specs.Norm.{form_of}
use Rattle.object65.specs.declared.form.Node.{Node}
use Rattle.object65.specs.contracts.form.Norm as norm
use Rattle.object65.specs.contracts.form.Node as node

-- a form finally has as its root the reference's final node
abbrev pub LendsNode : MutBor Form → MutBor Node → Fml
LendsNode form r = Lends norm.the_row node.the_row form r form_of
