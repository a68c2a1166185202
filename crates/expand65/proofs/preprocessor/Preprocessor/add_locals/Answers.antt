use Rattle.std.proofs.Common.{◌≡◌, ◌∙◌, ◌++◌, ◌∷◌, ℕ, Bor, List, map, refl, subst, sym, rules}
use Rattle.std.proofs.lemmas.Result.{err_from_is_err_and}
use Rattle.syntax65.specs.Tokens.{lexemes}
use Rattle.expand65.specs.Representation.{remaining_in}
use Rattle.expand65.specs.Lines.{with_local_names, end_mark}
use Rattle.expand65.proofs.ExpansionFailures.{bad_names, names_added, no_macro}
use Rattle.expand65.specs.declared.input_stack.InputStack.{InputStack}
use Rattle.expand65.proofs.FilePositions.{call_at, call_kind, reads_on, stands_so}
use Rattle.expand65.proofs.preprocessor.Preprocessor.add_locals.Goals as goal

pub returns-then-not-is_call-clause-outcome : goal.returns-then-not-is_call-clause-outcome
returns-then-not-is_call-clause-outcome c = λ m. no_macro m c.args.self.now (lexemes c.args.tokens.now) (sym c.is_call.ensures ∙ c.if-not-is_call.true)

pub returns-in_err-names-clause-outcome : goal.returns-in_err-names-clause-outcome
returns-in_err-names-clause-outcome c =
    let p = err_from_is_err_and c.from_residual.result c.from_residual.ensures.1 in
    λ m. rw (p.1, p.2) (bad_names m c.args.self.now (lexemes c.args.tokens.now) c.in_err-names.field-0.0 (sym c.is_call.ensures ∙ c.if-not-is_call.false) c.in_err-names.ensures.names)

pub returns-clause-outcome : goal.returns-clause-outcome
returns-clause-outcome c = λ m. names_added m c.args.self.now c.add_locals.new.self (lexemes c.args.tokens.now) (map (λ s. s.now) c.in_ok-names.names.items) (sym c.is_call.ensures ∙ c.if-not-is_call.false) c.in_ok-names.ensures.names c.add_locals.ensures.call (λ k is. let P : List (Bor (List ℕ)) → Type 0 = λ ns. remaining_in m c.add_locals.new.self ++ end_mark k ∷ is ≡ with_local_names (map (λ s. s.now) ns) (remaining_in m c.args.self.now.stack.top.source ++ end_mark k ∷ is) in subst P c.as_slice.ensures.value (c.in_ok-add_locals.ensures.added m k is))

pub returns-clause-keeps : goal.returns-clause-keeps
returns-clause-keeps c = λ files.
    (let old = c.args.self.now.stack in
    let new : InputStack = record { top = record { source = c.add_locals.new.self; conditions = old.top.conditions; return_location = old.top.return_location }; outer = old.outer; budget = old.budget; location = old.location } in
    let was = sym c.is_call.ensures ∙ c.if-not-is_call.false in
    let is = c.add_locals.ensures.call ∙ was in
    record { stands = stands_so files old new (λ m h. reads_on m old new refl refl (call_kind old.top.source new.top.source was is) refl (call_at m new.top.source old.location is) h); size = search rules })
