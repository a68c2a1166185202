-- At most one message reports a call that failed while files were read.
use Rattle.std.proofs.Common.{◌∙◌, sym}
use Rattle.ar65.proofs.NamingUniqueness.{one_naming as archive_naming}
use Rattle.ld65.proofs.NamingUniqueness.{one_naming as link_naming}
use Rattle.tools65.specs.OutcomeLaws.{FailureIsUnique}

pub one_failure : FailureIsUnique
one_failure m c out err other_out other_err = (
  λ l tells x y. (x.3 ∙ sym y.3, x.4 ∙ link_naming m l c x.0 y.0 tells x.2 y.2 ∙ sym y.4),
  λ a x y. (x.3 ∙ sym y.3, x.4 ∙ archive_naming a c x.0 x.2 ∙ sym (archive_naming a c y.0 y.2) ∙ sym y.4),
)
