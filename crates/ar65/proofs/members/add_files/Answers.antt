use Rattle.std.proofs.Common.{◌∙◌, Err, ap, map}
use Rattle.ar65.proofs.FailureNames.{of_file}
use Rattle.ar65.proofs.Additions.{file_more, file_none, left_more, refused_count, same_count}
use Rattle.ar65.proofs.LoopSteps.{name_next, name_there}
use Rattle.ar65.proofs.members.add_files.Goals as goal

pub returns-in-Err-clause-inserted : goal.returns-in-Err-clause-inserted
returns-in-Err-clause-inserted g c =
    file_none _ _ c.args.library.now c.loop-index.library (map (λ s. s.now) c.args.files.now) c.loop-index.index _ c.in-Err.fault c.loop-index.invariant.files (name_next (λ s. s.now) c.args.files.now c.loop-index.index _ c.loop-index-test.true) c.loop-index.invariant.left c.in-Err.ensures.inserted

pub returns-in-Err-clause-count : goal.returns-in-Err-clause-count
returns-in-Err-clause-count g c = refused_count _ _ _ c.loop-index.index c.in-Err.fault c.loop-index.invariant.count c.in-Err.ensures.frame.count

pub loop-index-preserved : goal.loop-index-preserved
loop-index-preserved g c = record {
  files = c.in-Ok.ensures.frame.files ∙ c.loop-index.invariant.files;
  left = file_more _ _ c.args.library.now c.loop-index.library c.add_file.new.library (map (λ s. s.now) c.args.files.now) c.loop-index.index _ c.loop-index.invariant.files (name_next (λ s. s.now) c.args.files.now c.loop-index.index _ c.loop-index-test.true) c.loop-index.invariant.left c.in-Ok.ensures.inserted;
  bytes = left_more _ _ (map (λ s. s.now) c.args.files.now) c.loop-index.index _ c.loop-index.invariant.files (name_next (λ s. s.now) c.args.files.now c.loop-index.index _ c.loop-index-test.true) c.loop-index.invariant.bytes c.in-Ok.ensures.bytes;
  count = same_count _ _ _ _ c.loop-index.invariant.count c.in-Ok.ensures.frame.count;
}

pub returns-in-Err-clause-named : goal.returns-in-Err-clause-named
returns-in-Err-clause-named g c =
    of_file _ (map (λ s. s.now) c.args.files.now) c.loop-index.index _ c.in-Err.fault (name_there c.args.files.now c.loop-index.index _ c.loop-index-test.true) (λ h. c.in-Err.ensures.frame.last_failure (ap (λ f. Err f) h))
