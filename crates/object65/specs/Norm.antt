-- Normal forms as contracts see them.
use Rattle.object65.specs.Form.{Form, lit, sec, imp, prefix, binary}
use Rattle.object65.specs.declared.form.Node.{Node}
use Rattle.object65.specs.declared.form.Node.TheVariants.{NumberNode, SectionOffset, ImportedName, Prefix, Binary}

abbrev pub form_of : Node → Form
form_of (NumberNode v) = lit v
form_of (SectionOffset k a) = sec k a
form_of (ImportedName j) = imp j
form_of (Prefix op p) = prefix op p.value
form_of (Binary op p) = binary op p.value.left p.value.right
