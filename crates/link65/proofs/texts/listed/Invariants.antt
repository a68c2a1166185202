use Rattle.std.proofs.Common.{◌≡◌, take}
use Rattle.link65.specs.Faults.{comma_separated, separator_after}
use Rattle.link65.proofs.texts.listed.Given as goal

abbrev pub invariant-loop-name : goal.invariant-loop-name
invariant-loop-name l = record {
  separator : l.separator ≡ separator_after (take l.name-index l.names);
  text : l.text ≡ comma_separated (take l.name-index l.names);
}
