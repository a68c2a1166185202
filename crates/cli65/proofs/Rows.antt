-- The values that clap's getters return, in terms of the rows of the matches.
use Rattle.std.proofs.Common.{◌≡◌, List, ℕ}
use Rattle.std.specs.Prelude.{option_map}
use Rattle.clap.specs.Words.{all_of, found_of, first_value, raw_values, rows_of, first_of}
use Rattle.clap.specs.Matches.{matched_of}
use Rattle.clap.specs.declared.parser.matches.ArgMatches.{ArgMatches}
use Rattle.clap.proofs.WalkLemmas.{first_value-rows, raw_values-rows}

pub first_rows : (m : ArgMatches) (id : List ℕ) → first_value (found_of m) id ≡ first_of id (rows_of (found_of m))
first_rows m id = first_value-rows (found_of m) id

pub all_rows : (m : ArgMatches) (id : List ℕ) → option_map raw_values (matched_of (found_of m) id) ≡ all_of id (rows_of (found_of m))
all_rows m id = raw_values-rows (found_of m) id
