use Rattle.std.proofs.Common.{inl}
use Rattle.std.specs.Prelude.{false, true}
use Rattle.ld65.specs.Naming.{IsInputFailure, IsLibraryFailure, IsObjectFailure, NamesFailure}
use Rattle.ld65.proofs.Frames.{after_others, front_read, front_unread}
use Rattle.ld65.proofs.FailureOrder.{by_library, by_object, kind}
use Rattle.ld65.proofs.linking.add_input.Goals as goal

pub returns-in-Ok-true-clause-frame : goal.returns-in-Ok-true-clause-frame
returns-in-Ok-true-clause-frame g c =
    let name = c.args.input.now.name.now in
    let input_index = c.args.input.now.input_index in
    let known = g.S.Store.files c.args.store.now in
    let now = g.S.Store.files c.is_library.new.store in
    let s = c.args.linker.now.script in
    let first_bytes = c.in-Ok-true.ensures in
    let read = rw c.in-Ok-true.field-0-test at first_bytes.read in
    after_others (λ before b. NamesFailure (IsInputFailure known s before b input_index name)) (λ before b. NamesFailure (IsLibraryFailure now s before b input_index name)) _ _ _ _ _ _ c.add_library.result
    (λ modules stands. (modules, stands, by_library known now s input_index name first_bytes.frame.files modules _ c.add_library.result (kind known name true read)))
    (front_read _ name _ _ _ _ c.requires first_bytes.frame) c.add_library.ensures.frame

pub returns-in-Ok-false-clause-frame : goal.returns-in-Ok-false-clause-frame
returns-in-Ok-false-clause-frame g c =
    let name = c.args.input.now.name.now in
    let input_index = c.args.input.now.input_index in
    let known = g.S.Store.files c.args.store.now in
    let s = c.args.linker.now.script in
    let first_bytes = c.in-Ok-false.ensures in
    let read = rw c.in-Ok-false.field-0-test at first_bytes.read in
    after_others (λ before b. NamesFailure (IsInputFailure known s before b input_index name)) (λ _ b. NamesFailure (IsObjectFailure b input_index name)) _ _ _ _ _ _ c.add_file.result
    (λ modules stands. (modules, stands, by_object known s input_index name modules _ c.add_file.result (kind known name false read)))
    (front_read _ name _ _ _ _ c.requires first_bytes.frame) c.add_file.ensures.frame

pub returns-in-Err-clause-frame : goal.returns-in-Err-clause-frame
returns-in-Err-clause-frame g c =
    let name = c.args.input.now.name.now in
    let input_index = c.args.input.now.input_index in
    front_unread (λ before b. IsInputFailure (g.S.Store.files c.args.store.now) c.args.linker.now.script before b input_index name) name _ _ _ input_index c.in-Err.fault
    (λ modules e h. inl h) c.in-Err.ensures.frame c.in-Err.ensures.within
