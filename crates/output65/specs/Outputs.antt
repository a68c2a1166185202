-- The files that commands write.
use Rattle.std.specs.Prelude.{ℕ, ◌==◌, if◌then◌else◌, List, [], ◌∷◌, ◌++◌, length, Option, Some, None}
use Rattle.base65.specs.declared.output.OutputFile.{OutputFile}
use Rattle.output65.specs.declared.outcome.Outcome.{Outcome}
use Rattle.output65.specs.declared.outcome.Status.TheVariants.{Failure}

-- the outcome of a command that fails with this message
abbrev pub error_outcome : List ℕ → Outcome
error_outcome message = record { out = []; err = message; outputs = []; status = Failure }

-- the file with this name, or none if the name is empty
abbrev pub outputs_of : List ℕ → List ℕ → List OutputFile
outputs_of name bytes = if length name == 0 then [] else record { name = name; bytes = bytes } ∷ []

-- the files followed by the map, if it has a name
abbrev pub with_map : Option (List ℕ) → List OutputFile → List ℕ → List OutputFile
with_map None files map = files
with_map (Some name) files map = files ++ record { name = name; bytes = map } ∷ []
