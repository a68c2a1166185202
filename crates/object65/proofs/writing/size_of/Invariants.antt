use Rattle.std.proofs.Common.{◌≡◌, take}
use Rattle.std.specs.Prelude.{sum_by}
use Rattle.object65.specs.Objects.{fragment_len}
use Rattle.object65.proofs.writing.size_of.Given as goal

abbrev pub invariant-loop-fragment : goal.invariant-loop-fragment
invariant-loop-fragment l = l.size ≡ sum_by fragment_len (take l.fragment-index l.fragments)
