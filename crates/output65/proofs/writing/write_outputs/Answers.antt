use Rattle.std.proofs.Common.{◌<◌, List, length, subst, arith, rules}
use Rattle.base65.specs.declared.output.OutputFile.{OutputFile}
use Rattle.output65.proofs.Texts.{next_output}
use Rattle.output65.proofs.writing.write_outputs.Goals as goal

pub loop-index-preserved : goal.loop-index-preserved
loop-index-preserved g c = record {
  files =
      next_output _ _ _ c.args.outputs.now c.loop-index.index c.index-outputs-index.result c.loop-index-test.true c.index-outputs-index.is c.loop-index.invariant.files
      (rw (c.as_str.ensures, c.as_slice.ensures) at c.in_default.ensures.ok);
  untouched = λ none. (let P : List OutputFile → Type 0 = λ os. c.loop-index.index < length os in absurd (omega (arith, subst P none c.loop-index-test.true)));
  count = search rules;
}
