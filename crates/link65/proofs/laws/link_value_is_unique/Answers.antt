use Rattle.link65.specs.Values.{exports_to_depth, value_of_form}
use Rattle.link65.proofs.Attempts.{settles_once, form_grows}
use Rattle.link65.proofs.laws.link_value_is_unique.Goals as goal

pub returns : goal.returns
returns c = λ l owner f r q h k. settles_once (λ n. value_of_form l (exports_to_depth l n) owner f) r q (form_grows l owner f) h k
