-- If the store fails after statements of the machine, it fails after the layout of these statements.
use Rattle.std.proofs.Common.{◌≡◌, ◌∙◌, List, ℕ, Option, true, inl, inr, sym, ap, subst}
use Rattle.std.specs.Prelude.{◌⊎◌, Result, Ok, Err, IfErr, IfSome}
use Rattle.base65.specs.Store.{Files, LastFailure}
use Rattle.expand65.specs.State as expand
use Rattle.expand65.specs.Expansion.{statement}
use Rattle.expand65.specs.Failures.{FailsBetweenStatements}
use Rattle.syntax65.specs.declared.source_location.SourceLocation.{SourceLocation}
use Rattle.ast65.specs.declared.fault.AsmFault.{AsmFault}
use Rattle.ast65.specs.declared.fault.AsmFault.TheVariants.{Expansion, FileError, FileNotFound}
use Rattle.object65.specs.declared.object.Object.{Object}
use Rattle.semantics65.specs.Layout.{Layout, empty_layout}
use Rattle.semantics65.specs.Module.{LocatedFault}
use Rattle.sources65.specs.Reading.{DefinesConstants, AssemblesExpanded, IsLaidOut, Job, layout_semantics, no_line}
use Rattle.sources65.specs.Machine.{State, StepsTo, initial_state, machine_semantics}
use Rattle.sources65.proofs.LayoutUniqueness.{Matches, defined_matches, given_matches, next_same}
use Rattle.sources65.proofs.TwoPasses.{Follows, begun_follows, laying_stands_in, takes_follows}
use Rattle.asm65.specs.declared.assembling.Assembly.{Assembly}
use Rattle.asm65.specs.declared.texts.Diagnostic.{Diagnostic}
use Rattle.asm65.specs.Assembly.{is_store_failure, located_fault}
use Rattle.asm65.specs.Failing.{ReachesState, first_state, next_state, IsFailureLocation, FailsAfterLayout, FailsAtSource, IsStoreFailureOutcome, ReportsStoreFailure}
use Rattle.asm65.specs.Internal.StoreFailures.{RunFailsAfterStatements, RunReportsStoreFailure}
use Rattle.asm65.proofs.Runs.{some_then}
use Rattle.asm65.proofs.Sources.{}

record LaidTo (m : Files) (job : Job) (s : expand.State) (t : State) : Type 0 where
  layout : Layout
  taken : ReachesState m layout_semantics empty_layout job s layout
  follows : Follows layout t

laid_to : (m : Files) (job : Job) (s : expand.State) (t : State) → ReachesState m machine_semantics initial_state job s t → LaidTo m job s t
laid_to m job _ _ (first_state s t opened defined) =
    let d : Matches Follows (DefinesConstants IsLaidOut empty_layout (no_line job.source) job.defines) (Ok t) = defined_matches Follows IsLaidOut StepsTo takes_follows empty_layout initial_state (no_line job.source) job.defines (Ok t) begun_follows defined in
    record { layout = d.0; taken = first_state s d.0 opened d.1; follows = d.2 }
laid_to m job _ _ (next_state s left x t u taken reaches given) =
    let before = laid_to m job s t taken in
    let y = before.layout in
    let g : Matches Follows (AssemblesExpanded m IsLaidOut y left.left.place x) (Ok u) = given_matches m Follows IsLaidOut StepsTo takes_follows y t left.left.place x (Ok u) before.follows given in
    record { layout = g.0; taken = next_state s left x y g.0 before.taken (next_same Follows layout_semantics machine_semantics laying_stands_in m s y t (statement x left) before.follows reaches) g.1; follows = g.2 }

where_laid : (m : Files) (last_failure : LastFailure) (s : expand.State) (y : Layout) (t : State) (e : AsmFault) (location : SourceLocation) → Follows y t → IsFailureLocation m machine_semantics last_failure s t e location → IsFailureLocation m layout_semantics last_failure s y e location
where_laid m last_failure s y t FileError location follows next =
    let w = next.unread in
    record {
      stated = next.stated;
      left = next.left;
      reaches = next_same Follows layout_semantics machine_semantics laying_stands_in m s y t (statement next.stated next.left) follows next.reaches;
      at = next.at;
      unread = record { name = w.name; requested = w.requested; inside = w.inside; answered = λ n none. given_matches n Follows IsLaidOut StepsTo takes_follows y t location next.stated (Err FileNotFound) follows (w.answered n none) };
    }
where_laid m last_failure s y t (Expansion e) location follows way = subst (λ k. FailsBetweenStatements m last_failure k s location) (sym (laying_stands_in.environment y t follows)) way
where_laid m last_failure s y t _ location follows never = absurd never

stops_laid : (m : Files) (last_failure : LastFailure) (job : Job) (e : LocatedFault) (out err : List ℕ) → RunFailsAfterStatements m last_failure job e out err → FailsAfterLayout m last_failure job e out err
stops_laid m last_failure job e out err stops =
    let laid = laid_to m job stops.left stops.following stops.taken in
    record {
      left = stops.left;
      following = laid.layout;
      taken = laid.taken;
      failure_location = where_laid m last_failure stops.left laid.layout stops.following e.fault e.place laid.follows stops.failure_location;
      printed_out = stops.printed_out ∙ ap (λ (t : State). t.out) laid.follows.same;
      printed_err = stops.printed_err ∙ ap (λ (t : State). t.err) laid.follows.same;
    }

so_laid : (m : Files) (last_failure : LastFailure) (job : Job) (a : Assembly) → RunReportsStoreFailure m last_failure job a → ReportsStoreFailure m last_failure job a
so_laid m last_failure job a = by a.result
  where
    by : (r : Result Object Diagnostic) → IfErr r (λ e. is_store_failure e ≡ true → FailsAtSource last_failure job (located_fault e) a.out a.err ⊎ RunFailsAfterStatements m last_failure job (located_fault e) a.out a.err) → IfErr r (λ e. is_store_failure e ≡ true → IsStoreFailureOutcome m last_failure job (located_fault e) a.out a.err)
    by (Ok o) h = tt
    by (Err e) h = λ failed. elim (h failed) [
      | inl first ↦ inl first
      | inr following ↦ inr (stops_laid m last_failure job (located_fault e) a.out a.err following)
    ]

pub all_laid : (o : Option Files) (last_failure : LastFailure) (job : Job) (a : Assembly) → IfSome o (λ m. RunReportsStoreFailure m last_failure job a) → IfSome o (λ m. ReportsStoreFailure m last_failure job a)
all_laid o last_failure job a = some_then (λ m. RunReportsStoreFailure m last_failure job a) (λ m. ReportsStoreFailure m last_failure job a) o (λ m. so_laid m last_failure job a)
