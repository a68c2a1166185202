use Rattle.ld65.proofs.Frames.{file_left, object_left}
use Rattle.ld65.proofs.LineInputs.{file_fed, file_refused}
use Rattle.ld65.proofs.linking.add_file.Goals as goal

pub returns-in-Ok-clause-added : goal.returns-in-Ok-clause-added
returns-in-Ok-clause-added g c =
    file_fed _ c.args.input.now.input_index c.args.input.now.name.now _ c.args.linker.now c.add_object.new.linker c.as_bytes.ensures.value c.in-Ok.ensures.added

pub returns-in-Ok-clause-frame : goal.returns-in-Ok-clause-frame
returns-in-Ok-clause-frame g c =
    let fed = c.in-Ok.ensures in
    object_left _ _ _ _ fed.keeps fed.files _ c.args.input.now.name.now fed.opened fed.frame

pub returns-in-Err-clause-added : goal.returns-in-Err-clause-added
returns-in-Err-clause-added g c =
    rw c.of_input.ensures (file_refused _ c.args.input.now.input_index c.args.input.now.name.now _ c.args.linker.now c.add_object.new.linker c.in-Err.fault c.as_bytes.ensures.value c.in-Err.ensures.added)

pub returns-in-Err-clause-frame : goal.returns-in-Err-clause-frame
returns-in-Err-clause-frame g c =
    let refused = c.in-Err.ensures in
    rw c.of_input.ensures (file_left _ _ _ _ refused.keeps refused.files c.args.input.now.input_index c.args.input.now.name.now c.in-Err.fault refused.frame)
