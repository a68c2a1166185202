use Rattle.std.proofs.Common.{◌≡◌, ◌++◌}
use Rattle.std.specs.Prelude.{filter_map}
use Rattle.std.specs.Vec.Iter.{into_iter_items}
use Rattle.emit65.specs.Internal.Drafts.{DeclarationsFit, assert_by, export_by}
use Rattle.emit65.proofs.numbering.exports.declaration_tables.Given as goal

abbrev pub invariant-loop-located : goal.invariant-loop-located
invariant-loop-located l = record {
  exports : l.declared.exports ++ filter_map (export_by l.numbers) (into_iter_items l.located-iterator) ≡ filter_map (export_by l.numbers) l.fn.declarations;
  asserts : l.declared.asserts ++ filter_map (assert_by l.numbers) (into_iter_items l.located-iterator) ≡ filter_map (assert_by l.numbers) l.fn.declarations;
  fits : DeclarationsFit l.declared;
}
