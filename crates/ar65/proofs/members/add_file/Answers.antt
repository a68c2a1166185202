use Rattle.std.proofs.Common.{◌∙◌}
use Rattle.ar65.proofs.Additions.{not_failed, passes_on, put_of}
use Rattle.ar65.proofs.members.add_file.Goals as goal

pub returns-clause-inserted : goal.returns-clause-inserted
returns-clause-inserted g c =
    put_of _ c.args.library.now c.args.file.now c.in_ok-bytes.bytes.items c.as_bytes.result.now c.replace.new.self c.replace.result (c.as_bytes.ensures.value ∙ c.member_name.ensures) c.in_ok-bytes.ensures.read (rw c.deref.ensures.value at c.replace.ensures.replaced)

pub returns-clause-frame : goal.returns-clause-frame
returns-clause-frame g c =
    let not = not_failed c.args.library.now c.as_bytes.result.now c.deref.result.now c.replace.new.self c.replace.result c.replace.ensures.replaced in
    record {
      files = c.in_ok-bytes.ensures.files;
      count = passes_on _ _ _ c.in_ok-bytes.bytes c.replace.result c.in_ok-bytes.ensures.count not;
      last_failure = λ h. absurd (not h);
    }
