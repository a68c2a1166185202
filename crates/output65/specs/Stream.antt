-- The model of a stream over a writer.
use Rattle.std.specs.Prelude.{ℕ, Bool, true, ◌==◌, Result, Ok, Err}

-- whether a writer returned an error for a text that isn't empty, or accepted nothing of
-- it
abbrev pub is_write_failure : {E : Type 0} → Result ℕ E → Bool
is_write_failure (Ok n) = n == 0
is_write_failure (Err e) = true
