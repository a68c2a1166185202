use Rattle.std.proofs.Common.{◌≡◌, drop}
use Rattle.base65.specs.Outcome.{try_map}
use Rattle.script65.specs.Entries.{terms_for}
use Rattle.script65.specs.Scripts.{sum_for, term_from}
use Rattle.script65.proofs.ListLemmas.{following}
use Rattle.script65.proofs.reading.naming.sum_for.Given as goal

abbrev pub invariant-loop-part : goal.invariant-loop-part
invariant-loop-part l = following l.terms (try_map (term_from l.entries) (drop l.part-index (terms_for l.identifier l.entry))) ≡ sum_for l.entries l.identifier l.entry
