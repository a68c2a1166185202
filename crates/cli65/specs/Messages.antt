-- The texts that are printed.
use Rattle.std.specs.Prelude.{ℕ, List, [], ◌∷◌, codes, decimal}
pub use Rattle.base65.specs.Texts.{concat_texts}
use Rattle.cli65.specs.declared.fault.LineFault.{LineFault}
use Rattle.cli65.specs.declared.fault.LineFault.TheVariants as line

-- `name: Error: text`
abbrev pub file_message : List ℕ → List ℕ → List ℕ
file_message name text = concat_texts (name ∷ codes ": Error: " ∷ text ∷ codes "\n" ∷ [])

-- the message *out of memory*: `name: Error: out of memory`
abbrev pub file_memory_message : List ℕ → List ℕ
file_memory_message name = concat_texts (name ∷ codes ": Error: out of memory\n" ∷ [])

-- `name:line: Error: text`
abbrev pub line_message : List ℕ → ℕ → List ℕ → List ℕ
line_message name line text = concat_texts (name ∷ codes ":" ∷ decimal line ∷ codes ": Error: " ∷ text ∷ codes "\n" ∷ [])

-- the messages of errors of a command line
abbrev pub arguments_memory_message : List ℕ
arguments_memory_message = codes "bin65: Error: out of memory\n"

abbrev pub arguments_error_message : LineFault → List ℕ
arguments_error_message line.OutOfMemory = arguments_memory_message
arguments_error_message line.BadArguments = codes "bin65: Error: bad arguments\n"
