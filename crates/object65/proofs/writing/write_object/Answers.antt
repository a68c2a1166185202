use Rattle.std.proofs.lemmas.Grind.{common_steps}
use Rattle.std.proofs.Common.{arith}
use Rattle.object65.proofs.SmallParts.{good_files, good_imports, good_sections, good_exports, good_asserts}
use Rattle.object65.proofs.writing.write_object.Goals as goal

pub encode_object-requires : goal.encode_object-requires
encode_object-requires c =
    let o = c.args.object.now in
    record {
      files = good_files o c.requires;
      imports = good_imports o c.requires;
      sections = good_sections o c.requires;
      exports = good_exports o c.requires;
      asserts = good_asserts o c.requires;
    }

pub returns-then-is_empty-clause-written : goal.returns-then-is_empty-clause-written
returns-then-is_empty-clause-written c = grind (arith, common_steps)
