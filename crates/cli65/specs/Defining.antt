-- The constants that a command line of ca65 defines.
use Rattle.std.specs.Prelude.{ℕ, Bool, false, List, [], ◌∷◌, ◌==◌, ◌&&◌, ◌+◌, not, nat_le, length, take, drop, Option, Some, None, Result, Ok, Err, if◌then◌else◌}
use Rattle.std.specs.Char.{is_ascii_digit}
use Rattle.std.specs.List.{list_all, position}
use Rattle.clap.specs.Words.{Text}
use Rattle.base65.specs.Digit.{digits}
use Rattle.syntax65.specs.Forms.{is_identifier_byte, plain_number_of}
use Rattle.base65.specs.Outcome.{◌>>=◌}
use Rattle.syntax65.specs.Expressions.{is_reserved}
use Rattle.cli65.specs.declared.fault.LineFault.{LineFault}
use Rattle.cli65.specs.declared.fault.LineFault.TheVariants.{BadArguments}
use Rattle.cli65.specs.declared.line.Define.{Define}

-- a name and its value
pub record DefineView : Type 0 where
  pub name : Text
  pub value : ℕ

-- whether the first byte is a letter or `_`
abbrev pub has_identifier_start : List ℕ → Bool
has_identifier_start [] = false
has_identifier_start (b ∷ bs) = is_identifier_byte b && not (is_ascii_digit b)

-- whether the bytes are an identifier: a letter or `_`, then letters, digits and `_`, at most 200 bytes, and neither a
-- mnemonic nor a register
unfoldable pub is_constant_name : List ℕ → Bool
is_constant_name name = has_identifier_start name && list_all is_identifier_byte name && nat_le (length name) 200 && not (is_reserved name)

abbrev pub checked_name : Text → Result Text LineFault
checked_name name = if is_constant_name name then Ok name else Err BadArguments

-- the value of a number: `$` and hex digits, `%` and binary digits, or, with a decimal digit first, hex digits and `h`
-- or decimal digits
unfoldable pub number_in : List ℕ → Option ℕ
number_in [] = None
number_in (b ∷ bs) =
    if b == 36 then digits 16 bs
    else if b == 37 then digits 2 bs
    else if is_ascii_digit b then plain_number_of (b ∷ bs)
    else None

abbrev pub as_value : Option ℕ → Result ℕ LineFault
as_value (Some v) = Ok v
as_value None = Err BadArguments

abbrev pub checked_number : Text → Result ℕ LineFault
checked_number text = as_value (number_in text)

-- `NAME[=NUMBER]`, by the offset of the first `=`; without a number, 0
abbrev pub define_at : Text → Option ℕ → Result DefineView LineFault
define_at text None = checked_name text >>= (λ n. Ok (record { name = n; value = 0 }))
define_at text (Some i) = checked_name (take i text) >>= (λ n. checked_number (drop (i + 1) text) >>= (λ v. Ok (record { name = n; value = v })))

unfoldable pub define_of : Text → Result DefineView LineFault
define_of text = define_at text (position (λ b. b == 61) text)

-- a constant, as a value without references
abbrev pub define_view : Define → DefineView
define_view d = record { name = d.name.now; value = d.value }
