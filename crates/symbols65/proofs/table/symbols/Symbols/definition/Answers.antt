use Rattle.std.proofs.Common.{sym}
use Rattle.symbols65.specs.Tables.{definition_in}
use Rattle.symbols65.specs.Views.{interned_names_of}
use Rattle.symbols65.proofs.InternedNames.{get_mapped_none, without_imports}
use Rattle.symbols65.proofs.table.symbols.Symbols.definition.Goals as goal

pub returns-clause-forms : goal.returns-clause-forms
returns-clause-forms c =
    let t = c.args.self.now in
    let kept = t.forms_final c.args.index (c.in_ok-definition.field-0-0.now, c.in_ok-definition.definition.now) (sym c.in_ok-definition.ensures.entry) in
    ((λ f is z more. kept.0 f is z (without_imports t z more)), (λ r is z more none. kept.1 r is z (without_imports t z more) none))

pub returns-in_err-definition-clause-definition : goal.returns-in_err-definition-clause-definition
returns-in_err-definition-clause-definition c = rw c.from_residual.ensures (get_mapped_none (definition_in (interned_names_of c.args.self.now)) c.args.self.now.definitions.entries c.args.index (sym c.in_err-definition.ensures.entry))
