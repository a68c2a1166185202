use Rattle.std.proofs.Common.{rules, ◌≡◌, ◌∙◌, Some, refl, ap, not, sym, FitsSigned, to_z, of_z, w64}
use Rattle.std.proofs.lemmas.Int.{to_z-of_z}
use Rattle.symbols65.proofs.Evaluations.{found_number}
use Rattle.symbols65.proofs.measuring.bytes.optional_constant.Goals as goal

pub returns-in-Some : goal.returns-in-Some
returns-in-Some c =
    let v = c.in-Some.value in
    let fits : FitsSigned w64 v = search rules in
    let same : to_z w64 (of_z w64 v) ≡ v = to_z-of_z w64 v fits in
    λ y s own e h d. found_number y s own e c.args.found.now c.constant_value.result h (c.is_none.ensures ∙ ap not c.if-is_none.false) (λ t q. c.constant_value.ensures y s own t q) d ∙ c.in-Some.is ∙ sym (ap Some same)

pub returns-in-None : goal.returns-in-None
returns-in-None c = λ y s own e h. (refl, λ d. found_number y s own e c.args.found.now c.constant_value.result h (c.is_none.ensures ∙ ap not c.if-is_none.false) (λ t q. c.constant_value.ensures y s own t q) d ∙ c.in-None.is)
