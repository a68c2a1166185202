use Rattle.link65.specs.declared.parts.ModuleExport.{ModuleExport}
use Rattle.link65.specs.declared.parts.Provider.TheVariants.{ByModule}
use Rattle.link65.specs.Placed.{provider_found}
use Rattle.link65.proofs.ListLemmas.{AreKnown}
use Rattle.link65.proofs.resolving.add_exports.Given as goal

abbrev pub invariant-loop-i : goal.invariant-loop-i
invariant-loop-i l = AreKnown (λ (x : ModuleExport). x.name) (ByModule) l.exports l.i (provider_found l.fn.providers) l.providers
