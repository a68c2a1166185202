use Rattle.std.proofs.Common.{◌∙◌, ap, sym, subst}
use Rattle.ar65.specs.Librarian.{AreUtf8, file_of, files_of}
use Rattle.ar65.proofs.LoopSteps.{ahead, each_one}
use Rattle.ar65.proofs.members.all_files.Goals as goal

pub loop-name-preserved : goal.loop-name-preserved
loop-name-preserved c =
    let steps = c.in-Some.ensures.steps in
    let library = c.args.library.now in
    let inv = c.loop-name.invariant in
    record {
      texts = λ all. (subst AreUtf8 steps (inv.texts all)).1;
      files = λ all.
          let same = c.text_of.ensures (subst AreUtf8 steps (inv.texts all)).0 in
          ap (λ xs. ahead xs (files_of library c.next.new.self)) c.in_ok-push.ensures.ok
          ∙ each_one (file_of library) c.loop-name.found c.loop-name.name-iterator c.in-Some.name.now c.next.new.self c.in_ok-file_of.field-0 steps (ap (file_of library) (sym same) ∙ c.in_ok-file_of.ensures.found)
          ∙ inv.files all;
    }
