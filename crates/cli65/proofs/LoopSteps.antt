-- Steps of a loop that processes one element at a time.
use Rattle.std.proofs.Common.{List, ◌++◌, Result, Ok}
use Rattle.base65.specs.Outcome.{◌>>=◌}

-- the result of the rest, with the elements found so far before it
abbrev pub following : {E B : Type 0} → List B → Result (List B) E → Result (List B) E
following front r = r >>= (λ ys. Ok (front ++ ys))
