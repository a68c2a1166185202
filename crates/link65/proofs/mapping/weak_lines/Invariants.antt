use Rattle.std.proofs.Common.{◌≡◌, ◌++◌, drop}
use Rattle.std.specs.List.{flat_map}
use Rattle.link65.specs.Texts.{weak_line}
use Rattle.link65.proofs.mapping.weak_lines.Given as goal

abbrev pub invariant-loop-weak : goal.invariant-loop-weak
invariant-loop-weak l = l.text ++ flat_map (weak_line l.names.script_symbols.now l.names.exports.now) (drop l.weak-index l.names.weak.now) ≡ flat_map (weak_line l.names.script_symbols.now l.names.exports.now) l.names.weak.now
