use Rattle.std.proofs.Common.{◌≡◌, ◌∷◌, List, ℕ, Option, Some, Err, rules, subst, sym}
use Rattle.std.proofs.lemmas.Result.{err_from_is_err_and}
use Rattle.base65.specs.Outcome.{Unless}
use Rattle.syntax65.specs.Faults.{is_system_error}
use Rattle.syntax65.specs.Tokens.{lexeme_of, lexemes}
use Rattle.expand65.specs.LineStart.{name_in, ok_or_not_understood}
use Rattle.expand65.specs.Macros.{params_of}
use Rattle.expand65.proofs.Definitions.{header_split, refused_on}
use Rattle.expand65.proofs.macros.header_of.Goals as goal

pub returns-in_err-params-clause-header : goal.returns-in_err-params-clause-header
returns-in_err-params-clause-header c =
    let p = err_from_is_err_and c.from_residual.result c.from_residual.ensures.1 in
    let f = c.in_err-params.field-0.0 in
    let t = lexeme_of c.in-Some.first.now in
    let us = lexemes c.in-Some.following.now in
    let name = c.in-Some-name_in.name.now in
    let split : lexemes c.args.tokens.now ≡ t ∷ us = search rules in
    let named : name_in t ≡ Some name = search rules in
    let P : Option (List ℕ × List (List ℕ)) → Type 0 = λ h. Unless (is_system_error f) (ok_or_not_understood h ≡ Err f) in
    rw (p.1, p.2) (subst P (sym (header_split (lexemes c.args.tokens.now) us t name split named)) (refused_on (params_of us) (λ params. Some (name, params)) f c.in_err-params.ensures.params))
