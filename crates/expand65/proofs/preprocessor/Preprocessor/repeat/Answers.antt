use Rattle.std.proofs.Common.{◌≡◌, ℕ, [], false, None, Ok, Err, map, refl, subst, rules}
use Rattle.std.proofs.lemmas.Result.{err_from_is_err_and}
use Rattle.base65.specs.Outcome.{Unless}
use Rattle.syntax65.specs.Faults.{is_system_error}
use Rattle.expand65.specs.Blocks.{Block}
use Rattle.expand65.specs.declared.blocks.BlockKind.TheVariants.{Repeat}
use Rattle.expand65.specs.Lines.{with_lines}
use Rattle.expand65.specs.Representation.{branch_of, remaining_of, remaining_iterations, macros_of, state_of}
use Rattle.expand65.specs.Replay.{tokens_in}
use Rattle.expand65.specs.Expansion.{StepReaches}
use Rattle.expand65.specs.Macros.{iterations_step}
use Rattle.expand65.specs.State.{continues, raises}
use Rattle.expand65.specs.declared.macro_replay.Body.{Body}
use Rattle.expand65.specs.declared.macro_replay.Replay.{Replay}
use Rattle.expand65.proofs.StepSequences.{where_known}
use Rattle.expand65.proofs.Definitions.{repeated_none, repeated_one, rewritten, turns_ready}
use Rattle.expand65.proofs.FilePositions.{goes_back, stands_so}
use Rattle.expand65.proofs.preprocessor.Preprocessor.repeat.Goals as goal

pub returns-clause-outcome : goal.returns-clause-outcome
returns-clause-outcome g c =
    let old = c.args.self.now in
    let rd = c.read_block.new.self in
    let new = c.push_input.new.self in
    let lines = c.in_ok-block.block.lines in
    let end = branch_of c.in_ok-block.block.end in
    let body : Body = record { params = c.args.variable; lines = lines } in
    let replay : Replay = record { body = c.in_ok-body.body; at = c.len-at.result; arguments = c.new-arguments.result; count = None; locals = c.with_hasher-locals.result; number = 0 } in
    let n = c.args.count in
    let params = map (λ k. k.items) c.args.variable.keys in
    let ready = turns_ready replay body n c.in_ok-body.ensures.ok c.len-at.ensures c.new-arguments.ensures refl c.with_hasher-locals.ensures.empty refl in
    where_known (g.S.Store.files c.args.store.now) (λ m. Block Repeat 0 [] (remaining_of m old.stack) (Ok ((map tokens_in lines, end), remaining_of m rd))) (λ m. StepReaches m (iterations_step (state_of m old) n params) (continues (rewritten m old new (macros_of old)))) (λ m h. let P : ℕ → Type 0 = λ i. Ok (remaining_of m new) ≡ with_lines (remaining_iterations replay 0 n) (record { is_macro = false; conditions = i; return_location = None }) (remaining_of m rd) in repeated_one m old rd new replay body end n h ready (subst P c.len.ensures (c.in_ok-push_input.ensures.entered m))) c.in_ok-block.ensures.read

pub returns-in_err-push_input-clause-outcome : goal.returns-in_err-push_input-clause-outcome
returns-in_err-push_input-clause-outcome g c =
    let p = err_from_is_err_and c.from_residual-in_err-push_input.result c.from_residual-in_err-push_input.ensures.1 in
    let f = c.in_err-push_input.field-0.0 in
    let old = c.args.self.now in
    let rd = c.read_block.new.self in
    let location = c.push_input.new.self.location in
    let lines = c.in_ok-block.block.lines in
    let end = branch_of c.in_ok-block.block.end in
    let body : Body = record { params = c.args.variable; lines = lines } in
    let replay : Replay = record { body = c.in_ok-body.body; at = c.len-at.result; arguments = c.new-arguments.result; count = None; locals = c.with_hasher-locals.result; number = 0 } in
    let n = c.args.count in
    let params = map (λ k. k.items) c.args.variable.keys in
    let ready = turns_ready replay body n c.in_ok-body.ensures.ok c.len-at.ensures c.new-arguments.ensures refl c.with_hasher-locals.ensures.empty refl in
    rw (p.1, p.2) (where_known (g.S.Store.files c.args.store.now) (λ m. Block Repeat 0 [] (remaining_of m old.stack) (Ok ((map tokens_in lines, end), remaining_of m rd))) (λ m. Unless (is_system_error f) (StepReaches m (iterations_step (state_of m old) n params) (raises (f, location)))) (λ m h. let P : ℕ → Type 0 = λ i. Unless (is_system_error f) (Err (f, location) ≡ with_lines (remaining_iterations replay 0 n) (record { is_macro = false; conditions = i; return_location = None }) (remaining_of m rd)) in repeated_none m old rd replay body end n (is_system_error f) f location h ready (subst P c.len.ensures (c.in_err-push_input.ensures.entered m))) c.in_ok-block.ensures.read)

pub returns-clause-keeps : goal.returns-clause-keeps
returns-clause-keeps g c =
    let mid = c.read_block.new.self in
    let new = c.push_input.new.self in
    record { stands = λ h. stands_so (g.S.Store.files c.args.store.now) mid new (λ m s. goes_back m new new mid.location refl refl c.push_input.ensures.current_location (c.in_ok-push_input.ensures.stack_position m mid.location tt refl refl s)) (c.in_ok-block.ensures.stack_position h); size = search rules }
