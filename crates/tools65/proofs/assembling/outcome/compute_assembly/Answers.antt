use Rattle.std.proofs.Common.{◌≡◌, map, rules}
use Rattle.cli65.specs.Line.{AssembleView, assemble_view}
use Rattle.asm65.specs.Assembly.{define_of}
use Rattle.sources65.specs.Reading.{Job}
use Rattle.tools65.specs.Assembling.{define_in}
use Rattle.tools65.proofs.ComputedOutcomes.{assembly_fails_so, computes_assembly, same_job}
use Rattle.tools65.proofs.assembling.outcome.compute_assembly.Goals as goal

pub returns-clause-computed : goal.returns-clause-computed
returns-clause-computed g c =
    let a : AssembleView = assemble_view c.args.line.now in
    let j : Job = record { source = a.source; include = c.as_slice-3.result.now; defines = map define_of c.as_slice-4.result.now } in
    let include : c.as_slice-3.result.now ≡ a.include = search rules in
    let defines : map define_of c.as_slice-4.result.now ≡ map define_in a.defines = search rules in
    let made = c.assemble-assembly in
    computes_assembly a made.result.out made.result.err _ _ _ _ j made.result.result c.asm_outcome.result (same_job a _ _ include defines) made.ensures.count made.ensures.at_last_count made.ensures.stopped made.ensures.assembled made.ensures.numbers c.asm_outcome.ensures

pub returns-clause-frame : goal.returns-clause-frame
returns-clause-frame g c =
    let made = c.assemble-assembly in
    record {
      files = made.ensures.files;
      monotone = made.ensures.count.monotone;
      failing = assembly_fails_so (assemble_view c.args.line.now) made.result.out made.result.err _ _ made.result.result c.asm_outcome.result made.ensures.count made.ensures.at_last_count c.asm_outcome.ensures;
    }
