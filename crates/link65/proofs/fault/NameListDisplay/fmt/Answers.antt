use Rattle.std.proofs.Common.{rules, ◌∙◌, ◌++◌, take, ap}
use Rattle.std.proofs.Output.{has_written_append, has_written_of_eq}
use Rattle.std.specs.Prelude.{encode_utf8_all}
use Rattle.link65.specs.Faults.{comma_separated, separator_after}
use Rattle.link65.proofs.TextLemmas.{names_more, next_names, next_separator}
use Rattle.link65.proofs.fault.NameListDisplay.fmt.Goals as goal

pub loop-name-preserved : goal.loop-name-preserved
loop-name-preserved g c =
    let names = c.args.self.now.0.now in
    let i = c.loop-name.name-index in
    let name = c.name-item.result in
    let more =
    ap (λ n. encode_utf8_all (comma_separated (take i names)) ++ (c.loop-name.separator.now ++ encode_utf8_all n)) c.as_slice.ensures
    ∙ names_more names i name c.loop-name.separator.now c.loop-name-test.true c.name-item.is c.loop-name.invariant.separator in
    record {
      separator = next_separator (take i names) name ∙ ap separator_after (next_names names i name c.loop-name-test.true c.name-item.is);
      written = λ p. has_written_of_eq _ _ _ _ _ more (has_written_append _ _ _ _ _ _ (c.loop-name.invariant.written p) (search rules));
    }
