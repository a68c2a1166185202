use Rattle.ar65.proofs.MissingLibraries.{begun_empty, missing_bytes}
use Rattle.ar65.proofs.members.load_or_create.Goals as goal

pub returns-in-Err-FileNotFound-clause-read : goal.returns-in-Err-FileNotFound-clause-read
returns-in-Err-FileNotFound-clause-read g c = begun_empty _ c.args.file.now _ c.in-Err-FileNotFound.field-0 c.seeded.ensures c.in-Err-FileNotFound.field-0-is c.in-Err-FileNotFound.ensures.read

pub returns-in-Err-FileNotFound-clause-bytes : goal.returns-in-Err-FileNotFound-clause-bytes
returns-in-Err-FileNotFound-clause-bytes g c = missing_bytes _ c.args.file.now c.in-Err-FileNotFound.field-0 c.in-Err-FileNotFound.field-0-is c.in-Err-FileNotFound.ensures.read
