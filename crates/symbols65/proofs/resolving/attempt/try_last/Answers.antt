use Rattle.std.proofs.Common.{Ok, ap, refl, sym, ◌∙◌}
use Rattle.symbols65.specs.Resolving.{attempt_definition, attempt_value, constant_attempt, form_attempt}
use Rattle.symbols65.specs.Views.{known_among, table_of}
use Rattle.symbols65.proofs.LastPending.{last_is}
use Rattle.symbols65.proofs.resolving.attempt.try_last.Goals as goal

pub returns-in_default-definition : goal.returns-in_default-definition
returns-in_default-definition c =
    let attempt = form_attempt (known_among c.args.symbols.now c.args.known.now) (table_of c.args.symbols.now) in
    rw (last_is (constant_attempt (known_among c.args.symbols.now c.args.known.now) (table_of c.args.symbols.now)) (attempt c.args.context c.args.value.now) c.args.pending_constants.now c.in-Some.last.now c.in-Some.ensures.value
    ∙ ap (attempt_definition attempt) c.in_default-definition.ensures.definition) refl

pub returns-in-None : goal.returns-in-None
returns-in-None c =
    let attempt = form_attempt (known_among c.args.symbols.now c.args.known.now) (table_of c.args.symbols.now) in
    let d = c.in-Some-definition.definition.now in
    rw (last_is (constant_attempt (known_among c.args.symbols.now c.args.known.now) (table_of c.args.symbols.now)) (attempt c.args.context c.args.value.now) c.args.pending_constants.now c.in-Some.last.now c.in-Some.ensures.value
    ∙ ap (attempt_definition attempt) c.in-Some-definition.ensures.definition ∙ ap (attempt_value attempt d.context) c.in-None.is) (ap Ok (sym c.address.ensures))

pub returns-in-Some-value : goal.returns-in-Some-value
returns-in-Some-value c =
    let attempt = form_attempt (known_among c.args.symbols.now c.args.known.now) (table_of c.args.symbols.now) in
    let d = c.in-Some-definition.definition.now in
    rw (last_is (constant_attempt (known_among c.args.symbols.now c.args.known.now) (table_of c.args.symbols.now)) (attempt c.args.context c.args.value.now) c.args.pending_constants.now c.in-Some.last.now c.in-Some.ensures.value
    ∙ ap (attempt_definition attempt) c.in-Some-definition.ensures.definition ∙ ap (attempt_value attempt d.context) c.in-Some-value.is) c.try_norm-in-Some-value.ensures
