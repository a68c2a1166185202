use Rattle.std.proofs.Common.{◌≡◌, ◌<◌, true, arith, length, Ok, Err}
use Rattle.std.specs.FinMap as fmap
use Rattle.base65.specs.Store.{ReadsAt}
use Rattle.expand65.specs.Macros.{file_exists}
use Rattle.syntax65.specs.declared.fault.ExpandFault.TheVariants.{FileTooLong}
use Rattle.expand65.proofs.StepSequences.{where_known}
use Rattle.expand65.proofs.FileSearch.{fits, too_long}
use Rattle.expand65.proofs.includes.file_exists.Goals as goal

pub returns-in-Ok-eq0-clause-there : goal.returns-in-Ok-eq0-clause-there
returns-in-Ok-eq0-clause-there g c =
    let name = c.args.name.now in
    let buffer = c.read_at.new.buf in
    let n = c.in-Ok-eq0.field-0 in
    let some : 0 < length buffer = omega (arith, c.read_at.auto.buf) in
    where_known (g.S.Store.files c.args.store.now) (λ m. ReadsAt (fmap.get m name) 16777216 buffer (Ok n)) (λ m. file_exists (fmap.get m name) ≡ Ok true) (λ m h. fits (fmap.get m name) buffer n h c.in-Ok-eq0.field-0-test some) c.in-Ok-eq0.ensures.read

pub returns-in-Ok-clause-there : goal.returns-in-Ok-clause-there
returns-in-Ok-clause-there g c =
    let name = c.args.name.now in
    let buffer = c.read_at.new.buf in
    let n = c.in-Ok.field-0 in
    where_known (g.S.Store.files c.args.store.now) (λ m. ReadsAt (fmap.get m name) 16777216 buffer (Ok n)) (λ m. file_exists (fmap.get m name) ≡ Err FileTooLong) (λ m h. too_long (fmap.get m name) buffer n h c.in-Ok.field-0-test.1) c.in-Ok.ensures.read
