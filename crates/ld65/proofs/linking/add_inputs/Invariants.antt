use Rattle.std.proofs.Common.{map, Ok}
use Rattle.ld65.specs.Internal.AddedModules.{AddModulesFrame}
use Rattle.ld65.specs.Naming.{IsInputListFailure, NamesFailure}
use Rattle.ld65.proofs.LineInputs.{ComesAfter}
use Rattle.ld65.proofs.FailureOrder.{IsInputTurn}
use Rattle.ld65.proofs.linking.add_inputs.Given as goal

abbrev pub invariant-loop-input_index : goal.invariant-loop-input_index
invariant-loop-input_index g l = record {
  kept : AddModulesFrame g.S.Store.files g.S.Store.failures g.S.Store.last_failure (λ first b. NamesFailure (IsInputListFailure (g.S.Store.files l.fn.store) l.fn.linker.script first b (map (λ s. s.now) l.inputs))) l.fn.store l.store l.fn.linker l.linker (Ok tt);
  stands : ComesAfter (g.S.Store.files l.fn.store) (map (λ s. s.now) l.inputs) l.input_index l.fn.linker l.linker;
  turned : IsInputTurn (g.S.Store.files l.fn.store) (map (λ s. s.now) l.inputs) l.input_index l.fn.linker l.linker;
}
