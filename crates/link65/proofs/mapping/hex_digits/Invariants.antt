use Rattle.std.proofs.Common.{◌≤◌}
use Rattle.link65.proofs.TextLemmas.{IsBefore}
use Rattle.link65.proofs.mapping.hex_digits.Given as goal

abbrev pub invariant-digits : goal.invariant-digits
invariant-digits l = record {
  within : l.remaining ≤ l.count;
  before : IsBefore l.count l.number l.remaining l.digits.items;
}

abbrev pub decreases-digits : goal.decreases-digits
decreases-digits l = l.remaining
