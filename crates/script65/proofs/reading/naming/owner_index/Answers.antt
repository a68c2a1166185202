use Rattle.std.proofs.Common.{◌∙◌, sym}
use Rattle.script65.proofs.Members.{named_nowhere, named_there}
use Rattle.script65.proofs.reading.naming.owner_index.Goals as goal

pub returns-in_err-name_before_ending : goal.returns-in_err-name_before_ending
returns-in_err-name_before_ending c =
    c.from_residual.ensures ∙ sym (named_nowhere c.args.table.now c.args.name.now c.args.ending.now c.in_err-name_before_ending.ensures)

pub returns : goal.returns
returns c =
    c.index_of.ensures ∙ sym (named_there c.args.table.now c.args.name.now c.in_ok-name_before_ending.field-0.now c.args.ending.now c.in_ok-name_before_ending.ensures)
