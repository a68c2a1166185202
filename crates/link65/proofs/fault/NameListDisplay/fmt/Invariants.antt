use Rattle.std.proofs.Common.{◌≡◌, take}
use Rattle.std.specs.Prelude.{encode_utf8_all}
use Rattle.std.specs.Fmt.{HasWritten, IsPlainFormatter}
use Rattle.link65.specs.Faults.{comma_separated, separator_after}
use Rattle.link65.proofs.fault.NameListDisplay.fmt.Given as goal

abbrev pub invariant-loop-name : goal.invariant-loop-name
invariant-loop-name g l = record {
  separator : l.separator ≡ separator_after (take l.name-index l.self.0.now);
  written : IsPlainFormatter l.initial.f → HasWritten g.W.Write.write_str_gives l.initial.f (encode_utf8_all (comma_separated (take l.name-index l.self.0.now))) l.f;
}
