use Rattle.std.proofs.Common.{refl, arith}
use Rattle.std.proofs.Common.{length}
use Rattle.link65.specs.declared.parts.ModuleExport.{ModuleExport}
use Rattle.link65.specs.declared.parts.Provider.TheVariants.{ByModule}
use Rattle.link65.specs.Placed.{provider_found}
use Rattle.link65.proofs.ListLemmas.{known_all, known_more, known_none}
use Rattle.link65.proofs.resolving.add_exports.Goals as goal

pub loop-i-init : goal.loop-i-init
loop-i-init c = known_none (λ (x : ModuleExport). x.name) (ByModule) c.args.exports.now (length c.args.exports.now) (provider_found c.args.providers.now) c.args.providers.now refl (λ name. refl)

pub loop-i-preserved : goal.loop-i-preserved
loop-i-preserved c =
    known_more (λ (x : ModuleExport). x.name) (ByModule) c.args.exports.now c.loop-i.i c.index-exports-i.result c.as_slice.result.now _ (provider_found c.args.providers.now) c.loop-i.providers c.insert.new.self (omega arith) (omega arith) c.index-exports-i.is c.as_slice.ensures refl
    (λ name. c.in_ok-insert.ensures.updates.0 (record { ref_ptr = (0, 0); now = name })) c.loop-i.invariant

pub returns : goal.returns
returns c = known_all (λ (x : ModuleExport). x.name) (ByModule) c.args.exports.now c.loop-i.i (provider_found c.args.providers.now) c.loop-i.providers (omega arith) c.loop-i.invariant
