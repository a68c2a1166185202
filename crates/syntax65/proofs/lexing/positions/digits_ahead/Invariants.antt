use Rattle.std.proofs.Common.{◌≡◌, ◌<◌, ◌≤◌, ◌^◌, ◌-◌, drop, take, length}
use Rattle.std.specs.List.{prefix_len}
use Rattle.syntax65.specs.Forms.{is_identifier_byte}
use Rattle.base65.proofs.Digit.{digits_from}
use Rattle.syntax65.proofs.lexing.positions.digits_ahead.Given as goal

abbrev pub invariant-digits : goal.invariant-digits
invariant-digits l = record {
  within : l.len ≤ prefix_len is_identifier_byte l.bytes;
  same : digits_from l.radix l.number (drop l.len (take (prefix_len is_identifier_byte l.bytes) l.bytes)) ≡ digits_from l.radix 0 (take (prefix_len is_identifier_byte l.bytes) l.bytes);
  small : l.number < 2 ^ 32;
}

abbrev pub decreases-digits : goal.decreases-digits
decreases-digits l = length l.bytes - l.len
