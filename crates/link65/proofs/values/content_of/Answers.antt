use Rattle.std.proofs.Common.{◌≡◌, ◌∙◌, sym, ap, arith, slice_get}
use Rattle.std.proofs.lemmas.Grind.{common_steps}
use Rattle.std.proofs.lemmas.Option.{gets}
use Rattle.std.specs.Option.{option_copied}
use Rattle.std.specs.Option.{option_map}
use Rattle.link65.specs.CodeInvariants.{segment_from, segment_index}
use Rattle.link65.proofs.SegmentLemmas.{at_most, found_at}
use Rattle.link65.proofs.values.content_of.Goals as goal

pub returns-in-Some : goal.returns-in-Some
returns-in-Some c =
    let name = c.args.name.now in
    let contents = c.args.program.now.contents.now in
    let at = ap (segment_index name) (sym c.requires) ∙ sym c.in-Some.ensures.index in
    let there : option_copied c.get.result ≡ slice_get contents c.in-Some.index = grind (arith, common_steps, gets) in
    ap (option_map segment_from) there ∙ sym (found_at name contents ∙ ap (at_most contents) at)

pub returns-in-None : goal.returns-in-None
returns-in-None c =
    let name = c.args.name.now in
    let contents = c.args.program.now.contents.now in
    let at = ap (segment_index name) (sym c.requires) ∙ sym c.in-None.ensures.index in
    sym (found_at name contents ∙ ap (at_most contents) at)
