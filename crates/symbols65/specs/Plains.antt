-- Numbers and addresses: the forms that decide an address size.
use Rattle.std.specs.Prelude.{Option, Some, None, Result, Ok, Err}
use Rattle.object65.specs.Form.{Form, lit, sec}
use Rattle.ast65.specs.declared.fault.AsmFault.{AsmFault}

-- a form that is a number or an address
abbrev pub plain_form : Form → Option Form
plain_form (lit v) = Some (lit v)
plain_form (sec k a) = Some (sec k a)
plain_form f = None

abbrev pub plain_result : Result Form AsmFault → Option Form
plain_result (Ok f) = plain_form f
plain_result (Err e) = None
