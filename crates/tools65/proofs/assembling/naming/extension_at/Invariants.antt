use Rattle.std.proofs.Common.{ℕ, ◌≤◌, ◌<◌, length, get_or}
use Rattle.tools65.specs.Naming.{IsPlain}
use Rattle.tools65.proofs.assembling.naming.extension_at.Given as goal

abbrev pub invariant-scanning : goal.invariant-scanning
invariant-scanning l = record {
  within : l.end ≤ length l.name;
  following : (i : ℕ) → l.end ≤ i → i < length l.name → IsPlain (get_or l.name i 0);
}

abbrev pub decreases-scanning : goal.decreases-scanning
decreases-scanning l = l.end
