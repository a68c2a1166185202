use Rattle.std.proofs.lemmas.Grind.{common_steps}
use Rattle.std.proofs.Common.{◌∙◌, [], ap, map, sym, arith}
use Rattle.std.proofs.lemmas.List.{drop_all}
use Rattle.link65.specs.Names.{script_names}
use Rattle.link65.specs.Representation.{names_in, with_new_names}
use Rattle.link65.proofs.DefinedNameLemmas.{each_once_all}
use Rattle.link65.proofs.name_checks.DefinedNames.of.Goals as goal

pub loop-name-init : goal.loop-name-init
loop-name-init c =
    ap (λ ks. with_new_names (map (λ n. n.items) ks) c.as_slice-name-items.result.now) c.new.ensures.empty
    ∙ ap (λ ns. with_new_names [] ns) (c.as_slice-name-items.ensures ∙ c.in_ok-names.ensures)
    ∙ each_once_all (script_names c.args.script.now) []

pub returns : goal.returns
returns c = sym c.loop-name.invariant ∙ ap (λ ns. with_new_names (names_in c.loop-name.provided) ns) (drop_all c.loop-name.name-index c.as_slice-name-items.result.now c.loop-name-test.false)

pub returns-in_err-add : goal.returns-in_err-add
returns-in_err-add c = grind (arith, common_steps)

pub loop-name-preserved : goal.loop-name-preserved
loop-name-preserved c = grind (arith, common_steps)
