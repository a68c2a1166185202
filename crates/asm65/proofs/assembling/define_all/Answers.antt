use Rattle.std.proofs.lemmas.Grind.{common_steps}
use Rattle.std.proofs.Common.{arith, rules, ◌∙◌, ◌+◌, ◌<◌, ap, subst, drop, get_or, length, map, List, [], Err}
use Rattle.std.proofs.lemmas.Result.{err_from_is_err_and}
use Rattle.sources65.specs.Reading.{Define, no_line}
use Rattle.asm65.specs.declared.assembling.Define as code
use Rattle.asm65.specs.Assembly.{define_of}
use Rattle.asm65.proofs.CommandLineConstants.{SoFar, left_dropped, none_so_far, one_more, one_wrong}
use Rattle.asm65.proofs.assembling.define_all.Goals as goal

-- the default element for an index outside the list
none : code.Define
none = record { name = record { ref_ptr = (0, 0); now = [] }; value = 0 }

pub loop-one-init : goal.loop-one-init
loop-one-init c = none_so_far (no_line c.args.job.now.source.now) (map define_of c.args.job.now.defines.now) c.args.assembler.now c.requires

pub returns-in_err-define_one-clause-defined : goal.returns-in_err-define_one-clause-defined
unfolding none
returns-in_err-define_one-clause-defined c =
    let location = no_line c.args.job.now.source.now in
    let xs = c.args.job.now.defines.now in
    let i = c.loop-one.one-index in
    let lt : i < length xs = search rules in
    let p = err_from_is_err_and c.from_residual.result c.from_residual.ensures.1 in
    let left = subst (λ (ds : List Define). SoFar location (map define_of xs) ds c.loop-one.assembler) (left_dropped xs i none lt) c.loop-one.invariant in
    one_wrong location (map define_of xs) (map define_of (drop (i + 1) xs)) (define_of (get_or xs i none)) c.loop-one.assembler c.define_one.new.assembler c.in_err-define_one.field-0.0 c.from_residual.result (p.1 ∙ ap Err p.2) left c.in_err-define_one.ensures.transitions

pub loop-one-preserved : goal.loop-one-preserved
unfolding none
loop-one-preserved c =
    let location = no_line c.args.job.now.source.now in
    let xs = c.args.job.now.defines.now in
    let i = c.loop-one.one-index in
    let lt : i < length xs = search rules in
    let left = subst (λ (ds : List Define). SoFar location (map define_of xs) ds c.loop-one.assembler) (left_dropped xs i none lt) c.loop-one.invariant in
    one_more location (map define_of xs) (map define_of (drop (i + 1) xs)) (define_of (get_or xs i none)) c.loop-one.assembler c.define_one.new.assembler c.in_ok-define_one.field-0 left c.in_ok-define_one.ensures.transitions

pub returns-clause-defined : goal.returns-clause-defined
returns-clause-defined c = grind (arith, common_steps)
