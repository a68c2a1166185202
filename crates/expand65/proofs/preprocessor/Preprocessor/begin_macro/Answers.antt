use Rattle.std.proofs.lemmas.Grind.{common_steps}
use Rattle.std.proofs.Common.{◌∙◌, ℕ, List, [], None, Ok, Err, ap, map, refl, subst, sym, arith}
use Rattle.std.specs.Prelude.{is_some}
use Rattle.std.proofs.lemmas.Result.{err_from_is_err_and}
use Rattle.base65.specs.Outcome.{Unless}
use Rattle.base65.specs.Store.{Files}
use Rattle.expand65.specs.Blocks.{Block}
use Rattle.expand65.specs.declared.blocks.BlockKind.TheVariants.{Macro}
use Rattle.syntax65.specs.Faults.{is_system_error}
use Rattle.syntax65.specs.Tokens.{lexemes}
use Rattle.expand65.specs.Representation.{branch_of, remaining_of, macros_of, state_of}
use Rattle.expand65.specs.Replay.{tokens_in}
use Rattle.expand65.specs.Expansion.{StepReaches}
use Rattle.expand65.specs.Macros.{definition_step, macro_line, macro_of}
use Rattle.expand65.specs.State.{continues, raises}
use Rattle.syntax65.specs.declared.fault.ExpandFault.TheVariants.{MacroTwice}
use Rattle.expand65.specs.declared.macro_replay.Body.{Body}
use Rattle.expand65.specs.declared.preprocessor.LineOutcome.{LineOutcome}
use Rattle.expand65.proofs.ExpansionFailures.{stops_by}
use Rattle.expand65.proofs.StepSequences.{turns_by, where_known, where_so}
use Rattle.expand65.proofs.Definitions.{block_refused, entry_of, is_none, kept_one, macro_is, rewritten, twice}
use Rattle.expand65.proofs.preprocessor.Preprocessor.begin_macro.Goals as goal

pub returns-then-has_macro-clause-outcome : goal.returns-then-has_macro-clause-outcome
returns-then-has_macro-clause-outcome g c =
    let o = g.S.Store.files c.args.store.now in
    let old = c.args.self.now in
    let ts = lexemes c.args.tokens.now in
    let header = c.in_ok-name.field-0 in
    let name = header.name.items in
    let params = map (λ k. k.items) header.params.keys in
    let there = ap (λ (n : List ℕ). is_some (macro_of (macros_of old) n)) (sym c.as_slice.ensures.value) ∙ sym c.has_macro.ensures ∙ c.if-has_macro.true in
    turns_by o (Err MacroTwice) old (λ m. definition_step (state_of m old) name params (macro_of (macros_of old) name)) (λ m. macro_line (state_of m old) ts) (λ m. macro_is (state_of m old) ts name params (macro_of (macros_of old) name) c.in_ok-name.ensures.header refl) (where_so o (λ m. StepReaches m (definition_step (state_of m old) name params (macro_of (macros_of old) name)) (raises (MacroTwice, old.stack.location))) (λ m. twice m (state_of m old) name params there))

pub returns-in_err-block-clause-outcome : goal.returns-in_err-block-clause-outcome
returns-in_err-block-clause-outcome g c =
    let p = err_from_is_err_and c.from_residual-in_err-block.result c.from_residual-in_err-block.ensures.1 in
    let o = g.S.Store.files c.args.store.now in
    let old = c.args.self.now in
    let ts = lexemes c.args.tokens.now in
    let location = c.read_block.new.self.location in
    let f = c.in_err-block.field-0.0 in
    let header = c.in_ok-name.field-0 in
    let name = header.name.items in
    let params = map (λ k. k.items) header.params.keys in
    let none = is_none (macro_of (macros_of old) name) (ap (λ (n : List ℕ). is_some (macro_of (macros_of old) n)) (sym c.as_slice.ensures.value) ∙ sym c.has_macro.ensures ∙ c.if-has_macro.false) in
    rw (p.1, p.2) (where_known o (λ m. Unless (is_system_error f) (Block Macro 0 [] (remaining_of m old.stack) (Err (f, location)))) (λ m. Unless (is_system_error f) (StepReaches m (macro_line (state_of m old) ts) (raises (f, location)))) (λ m h. subst (λ z. Unless (is_system_error f) (StepReaches m z (raises (f, location)))) (macro_is (state_of m old) ts name params None c.in_ok-name.ensures.header none) (block_refused m (state_of m old) name params f location h)) c.in_err-block.ensures.read)

pub returns-clause-outcome : goal.returns-clause-outcome
returns-clause-outcome g c =
    let o = g.S.Store.files c.args.store.now in
    let old = c.args.self.now in
    let ts = lexemes c.args.tokens.now in
    let new = c.read_block.new.self in
    let lines = c.in_ok-block.block.lines in
    let end = branch_of c.in_ok-block.block.end in
    let header = c.in_ok-name.field-0 in
    let name = header.name.items in
    let params = map (λ k. k.items) header.params.keys in
    let body : Body = record { params = header.params; lines = lines } in
    let none = is_none (macro_of (macros_of old) name) (ap (λ (n : List ℕ). is_some (macro_of (macros_of old) n)) (sym c.as_slice.ensures.value) ∙ sym c.has_macro.ensures ∙ c.if-has_macro.false) in
    let state = λ (m : Files). continues (rewritten m old new (map entry_of c.insert.new.self.entries)) in
    where_known o (λ m. Block Macro 0 [] (remaining_of m old.stack) (Ok ((map tokens_in lines, end), remaining_of m new))) (λ m. StepReaches m (macro_line (state_of m old) ts) (state m)) (λ m h. subst (λ z. StepReaches m z (state m)) (macro_is (state_of m old) ts name params None c.in_ok-name.ensures.header none) (kept_one m old new header.name c.in_ok-body.body body end c.insert.new.self.entries none c.in_ok-insert.ensures.entries c.in_ok-body.ensures.ok h)) c.in_ok-block.ensures.read

pub returns-in_err-block-clause-stopped : goal.returns-in_err-block-clause-stopped
returns-in_err-block-clause-stopped g c = λ names.
    (let p = err_from_is_err_and c.from_residual-in_err-block.result c.from_residual-in_err-block.ensures.1 in
    let old = c.args.self.now in
    let ts = lexemes c.args.tokens.now in
    let name = c.in_ok-name.field-0.name.items in
    let params = map (λ k. k.items) c.in_ok-name.field-0.params.keys in
    let none = is_none (macro_of (macros_of old) name) (ap (λ (n : List ℕ). is_some (macro_of (macros_of old) n)) (sym c.as_slice.ensures.value) ∙ sym c.has_macro.ensures ∙ c.if-has_macro.false) in
    rw (p.1, p.2) (stops_by {A = LineOutcome} (g.S.Store.files c.args.store.now) (g.S.Store.last_failure c.read_block.new.store) (λ m. definition_step (state_of m old) name params None) (λ m. macro_line (state_of m old) ts) old.stack c.read_block.new.self (Err c.in_err-block.field-0.0) (λ m. macro_is (state_of m old) ts name params None c.in_ok-name.ensures.header none) (c.in_err-block.ensures.stopped names)))

pub returns-in_err-insert-clause-stopped : goal.returns-in_err-insert-clause-stopped
returns-in_err-insert-clause-stopped g c = grind (arith, common_steps)

pub returns-then-has_macro-clause-stopped : goal.returns-then-has_macro-clause-stopped
returns-then-has_macro-clause-stopped g c = grind (arith, common_steps)

pub returns-then-has_macro-clause-frame : goal.returns-then-has_macro-clause-frame
returns-then-has_macro-clause-frame g c = grind (arith, common_steps)

pub returns-clause-keeps : goal.returns-clause-keeps
returns-clause-keeps g c = grind (arith, common_steps)
