use Rattle.std.proofs.Common.{◌≡◌, ◌<◌, ◌^◌, drop}
use Rattle.base65.specs.Digit.{digits}
use Rattle.base65.proofs.Digit.{digits_from}
use Rattle.base65.proofs.numbers.digits.Given as goal

abbrev pub invariant-loop-byte : goal.invariant-loop-byte
invariant-loop-byte l = record { same : digits_from l.radix l.value (drop l.byte-index l.text) ≡ digits l.radix l.text; small : l.value < 2 ^ 32 }
