use Rattle.std.proofs.Common.{◌≡◌, ◌++◌, drop}
use Rattle.semantics65.specs.Symbols.{qualified_name}
use Rattle.symbols65.proofs.Scopes.{joined_after}
use Rattle.symbols65.proofs.resolving.scopes.append_name.Given as goal

abbrev pub invariant-loop-part : goal.invariant-loop-part
invariant-loop-part l = l.text ++ joined_after (drop l.part-index l.following) ≡ l.fn.text ++ qualified_name l.parts
