use Rattle.std.proofs.Common.{◌∙◌, ◌++◌, take, ap}
use Rattle.link65.specs.Faults.{separator_after}
use Rattle.link65.proofs.TextLemmas.{next_listed, next_names, next_separator}
use Rattle.link65.proofs.texts.listed.Goals as goal

pub loop-name-preserved : goal.loop-name-preserved
loop-name-preserved c =
    let names = c.args.names.now in
    let i = c.loop-name.name-index in
    let name = c.name-item.result in
    record {
      separator = next_separator (take i names) name ∙ ap separator_after (next_names names i name c.loop-name-test.true c.name-item.is);
      text =
          c.in_ok-extend_from_slice-2.ensures.ok
          ∙ ap (λ n. c.extend_from_slice.new.self ++ n) c.as_slice.ensures
          ∙ ap (λ t. t ++ name) (c.in_ok-extend_from_slice.ensures.ok ∙ ap (λ t. t ++ c.loop-name.separator.now) c.loop-name.invariant.text)
          ∙ next_listed names i name c.loop-name.separator.now c.loop-name-test.true c.name-item.is c.loop-name.invariant.separator;
    }
