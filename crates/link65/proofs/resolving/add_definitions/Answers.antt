use Rattle.std.proofs.Common.{refl, arith, rules}
use Rattle.std.proofs.Common.{length, ◌-◌}
use Rattle.std.proofs.lemmas.Option.{slice_get_read}
use Rattle.link65.specs.declared.parts.ScriptSymbol.{ScriptSymbol}
use Rattle.link65.specs.Placed.{definition_at, provider_found}
use Rattle.link65.proofs.ListLemmas.{known_all, known_more, known_none}
use Rattle.link65.proofs.resolving.add_definitions.Goals as goal

pub loop-i-init : goal.loop-i-init
loop-i-init c = known_none (λ (x : ScriptSymbol). x.name) (definition_at c.args.definitions.now) c.args.definitions.now (length c.args.definitions.now) (provider_found c.args.providers.now) c.args.providers.now refl (λ name. refl)

pub loop-i-preserved : goal.loop-i-preserved
loop-i-preserved c =
    let at = slice_get_read c.args.definitions.now (length c.args.definitions.now) (c.loop-i.i - 1) c.index-definitions-i.result refl (omega arith) c.index-definitions-i.is in
    known_more (λ (x : ScriptSymbol). x.name) (definition_at c.args.definitions.now) c.args.definitions.now c.loop-i.i c.index-definitions-i.result c.as_slice.result.now _ (provider_found c.args.providers.now) c.loop-i.providers c.insert.new.self (omega arith) (omega arith) c.index-definitions-i.is c.as_slice.ensures (search (rules, at))
    (λ name. c.in_ok-insert.ensures.updates.0 (record { ref_ptr = (0, 0); now = name })) c.loop-i.invariant

pub returns : goal.returns
returns c = known_all (λ (x : ScriptSymbol). x.name) (definition_at c.args.definitions.now) c.args.definitions.now c.loop-i.i (provider_found c.args.providers.now) c.loop-i.providers (omega arith) c.loop-i.invariant
