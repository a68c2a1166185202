use Rattle.std.proofs.Common.{◌*◌, ◌+◌}
use Rattle.object65.proofs.body_decoding.+form.Given as goal

-- the measure of `read_operation` is between the measures of `read_form` and `read_after` at the same depth
abbrev pub decreases-read_form : goal.decreases-read_form
decreases-read_form l = 3 * l.depth

abbrev pub decreases-read_operation : goal.decreases-read_operation
decreases-read_operation l = 3 * l.depth + 1

abbrev pub decreases-read_after : goal.decreases-read_after
decreases-read_after l = 3 * l.depth + 2
