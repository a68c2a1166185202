use Rattle.std.proofs.Common.{Option, Ok, ◌≡◌, ◌∙◌, ap, subst, sym}
use Rattle.std.proofs.lemmas.Result.{err_from_is_err_and}
use Rattle.syntax65.specs.Trees.{Tree}
use Rattle.syntax65.specs.declared.instructions.names.Mnemonic.{Mnemonic}
use Rattle.ast65.specs.declared.language.Operand.{Operand}
use Rattle.ast65.specs.declared.language.Statement.TheVariants.{Instruction}
use Rattle.semantics65.specs.Contents.{operand_tree}
use Rattle.semantics65.specs.Layout.{Cursor, context_of, missing_scopes_fault, operand_trees, optional_tree, own_size, unless_fault}
use Rattle.semantics65.specs.Symbols.{Symbols}
use Rattle.symbols65.specs.Evaluations.{IsEvaluated}
use Rattle.symbols65.specs.Measuring.{naming_fault}
use Rattle.symbols65.specs.Views.{table_of}
use Rattle.symbols65.proofs.Evaluations.{operand_trees_are}
use Rattle.symbols65.proofs.StatementLayouts.{last_of_two, measured_named, measured_refused, refused_same, room_of}
use Rattle.symbols65.proofs.measuring.lay_out_instruction.Goals as goal

-- the only possible error in the names of an instruction is a missing scope
naming_is : (y : Symbols) (w : Cursor) (m : Mnemonic) (operand : Operand) (o : Option Tree) → o ≡ operand_tree operand →
    unless_fault {A = Unit {0}} (naming_fault y (context_of w) (Instruction m operand)) tt ≡ unless_fault {A = Unit {0}} (missing_scopes_fault y.scopes (context_of w).scope (optional_tree o)) tt
naming_is y w m operand o same =
    ap (λ f. unless_fault {A = Unit {0}} f tt) (last_of_two (missing_scopes_fault y.scopes (context_of w).scope (operand_trees operand)) ∙ ap (missing_scopes_fault y.scopes (context_of w).scope) (operand_trees_are operand ∙ ap optional_tree (sym same)))

pub returns-in_err-found-clause-measured : goal.returns-in_err-found-clause-measured
returns-in_err-found-clause-measured c =
    let p = err_from_is_err_and c.from_residual.result c.from_residual.ensures.1 in
    let e = c.in_err-found.field-0.0 in
    let y = table_of c.args.before.symbols.now in
    let w = c.args.before.cursor.now in
    rw (p.1, p.2) (measured_refused y w (Instruction c.args.mnemonic c.args.operand.now) e (refused_same e _ _ (naming_is y w c.args.mnemonic c.args.operand.now _ c.operand_value.ensures) c.in_err-found.ensures.scopes))

pub returns-in_err-measured-clause-measured : goal.returns-in_err-measured-clause-measured
returns-in_err-measured-clause-measured c =
    let p = err_from_is_err_and c.from_residual-in_err-measured.result c.from_residual-in_err-measured.ensures.1 in
    let y = table_of c.args.before.symbols.now in
    let w = c.args.before.cursor.now in
    let named = naming_is y w c.args.mnemonic c.args.operand.now _ c.operand_value.ensures ∙ c.in_ok-found.ensures.scopes in
    let found = subst (λ (o : Option Tree). IsEvaluated y (context_of w) (own_size w) o c.in_ok-found.found) c.operand_value.ensures c.in_ok-found.ensures.found in
    rw (p.1, p.2) (refused_same c.in_err-measured.field-0.0 _ _ (measured_named y w (Instruction c.args.mnemonic c.args.operand.now) named) (c.in_err-measured.ensures y found))

pub returns : goal.returns
returns c =
    let y = table_of c.args.before.symbols.now in
    let w = c.args.before.cursor.now in
    let found = subst (λ (o : Option Tree). IsEvaluated y (context_of w) (own_size w) o c.in_ok-found.found) c.operand_value.ensures c.in_ok-found.ensures.found in
    let measured = c.in_ok-measured.ensures y found in record {
      measured = measured_named y w (Instruction c.args.mnemonic c.args.operand.now) (naming_is y w c.args.mnemonic c.args.operand.now _ c.operand_value.ensures ∙ c.in_ok-found.ensures.scopes) ∙ measured;
      fits = room_of y w (Instruction c.args.mnemonic c.args.operand.now) (Ok c.in_ok-measured.measured) measured;
      form = c.final_form-form.ensures y (context_of w) (own_size w) (operand_tree c.args.operand.now) found;
    }
