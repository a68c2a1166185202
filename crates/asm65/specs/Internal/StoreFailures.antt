-- The store fails while the one pass reads a source.
use Rattle.std.specs.Prelude.{◌≡◌, ◌⊎◌, ℕ, true, List, IfErr, Result, Ok}
use Rattle.base65.specs.Store.{Files, LastFailure}
use Rattle.expand65.specs.Expansion.{first_state_in}
use Rattle.expand65.specs.Representation.{IsPositioned, RepresentsFirstState, location_of}
use Rattle.ast65.specs.declared.fault.AsmFault.{AsmFault}
use Rattle.ast65.specs.Faults.{is_failure}
use Rattle.semantics65.specs.Module.{LocatedFault}
use Rattle.sources65.specs.Reading.{DefinesConstants, Job, no_line}
use Rattle.sources65.specs.Machine.{State, StepsTo, initial_state, machine_semantics}
use Rattle.asm65.specs.Assembly.{is_store_failure, located_fault}
use Rattle.asm65.specs.Failing.{FailsAfterStatements, FailsAtSource}
use Rattle.asm65.specs.Internal.RunState.{RunRepresents}
use Rattle.asm65.specs.declared.assembling.Assembly.{Assembly}
use Rattle.asm65.specs.declared.driver.Run.{Run}

-- after statements that the machine has taken
abbrev pub RunFailsAfterStatements : Files → LastFailure → Job → LocatedFault → (out err : List ℕ) → Type 0
RunFailsAfterStatements = FailsAfterStatements machine_semantics initial_state (λ t. t.out) (λ t. t.err)

-- an assembly that ends since the store failed
abbrev pub RunReportsStoreFailure : Files → LastFailure → Job → Assembly → Type 0
RunReportsStoreFailure m last_failure job a = IfErr a.result (λ e. is_store_failure e ≡ true →
    FailsAtSource last_failure job (located_fault e) a.out a.err ⊎ RunFailsAfterStatements m last_failure job (located_fault e) a.out a.err)

-- a source that was opened, whose constants an assembler has taken when a run begins
abbrev pub StartsRun : Files → Job → Run → Type 0
StartsRun m job run =
    (t : State) × RepresentsFirstState m (Ok run.expander) (first_state_in m job.source job.include) × IsPositioned m run.expander
    × DefinesConstants StepsTo initial_state (no_line job.source) job.defines (Ok t) × RunRepresents t run

-- the store fails after such a beginning
abbrev pub RunReportsFailure : Files → LastFailure → Run → Run → Result (Unit {0}) AsmFault → Type 0
RunReportsFailure m last_failure first now r = IfErr r (λ e. is_failure e ≡ true → (job : Job) → StartsRun m job first →
    RunFailsAfterStatements m last_failure job (record { place = location_of now.expander; fault = e })
    now.assembler.texts.out now.assembler.texts.err)
