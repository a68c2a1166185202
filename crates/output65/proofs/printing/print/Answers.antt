use Rattle.std.proofs.Common.{rules}
use Rattle.output65.proofs.Texts.{printed_part, kept, nothing}
use Rattle.output65.proofs.printing.print.Goals as goal

pub returns-in-Ok-eq0-clause-printed : goal.returns-in-Ok-eq0-clause-printed
returns-in-Ok-eq0-clause-printed g c = printed_part _ _ _ c.args.text.now c.printing.rest.now (search rules) c.printing.invariant.within c.printing.invariant.done (nothing _ _ _ _ c.in-Ok-eq0.field-0-test c.in-Ok-eq0.ensures.bytes)

pub returns-in-Err-clause-printed : goal.returns-in-Err-clause-printed
returns-in-Err-clause-printed g c = printed_part _ _ _ c.args.text.now c.printing.rest.now (search rules) c.printing.invariant.within c.printing.invariant.done (kept _ _ c.in-Err.ensures.bytes)
