-- Expansion is total, and each statement leaves less input.
use Rattle.std.specs.Prelude.{◌≡◌, ℕ, ◌+◌, ◌*◌, ◌<◌, false, List, [], ◌∷◌, ⊤}
use Rattle.base65.specs.SystemErrors.{IsNoSystemError}
use Rattle.base65.specs.Store.{Files}
use Rattle.syntax65.specs.Faults.{is_system_error}
use Rattle.expand65.specs.Expansion.{Next, statement, nothing, fault, ReachesNext, first_state, first_state_in}
use Rattle.expand65.specs.Lines.{Item, label_rest, elseif_rest, end_mark}
use Rattle.expand65.specs.State.{EnvironmentView, State}

-- ---- The remaining input of a source.

-- only lines and end marks
abbrev pub AreLines : List Item → Type 0
AreLines [] = ⊤
AreLines (label_rest ts ∷ is) = ⊥
AreLines (elseif_rest ts ∷ is) = ⊥
AreLines (_ ∷ is) = AreLines is

-- Only the first item may be the rest of a line after its label or an `.elseif`. No source leads to other
-- states, and the definitions leave those open: a block reads only lines.
abbrev pub HasPendingOnlyFirst : List Item → Type 0
HasPendingOnlyFirst [] = ⊤
HasPendingOnlyFirst (label_rest ts ∷ is) = AreLines is
HasPendingOnlyFirst (elseif_rest ts ∷ is) = AreLines is
HasPendingOnlyFirst (_ ∷ is) = AreLines is

abbrev pub IsOrdered : State → Type 0
IsOrdered s = HasPendingOnlyFirst s.left.items

-- ---- The measure of the remaining input.

-- the number of items besides lines
abbrev pub weight : List Item → ℕ
weight [] = 0
weight (end_mark k ∷ is) = weight is + 1
weight (label_rest ts ∷ is) = weight is + 2
weight (elseif_rest ts ∷ is) = weight is + 2
weight (_ ∷ is) = weight is

-- a measure of the remaining input that each step decreases: each line of the budget counts three times
abbrev pub input_measure : State → ℕ
input_measure s = 3 * s.left.room + weight s.left.items

-- after a statement less input remains, and an error is no system error
abbrev pub DecreasesInput : State → Next → Type 0
DecreasesInput s (statement x t) = IsOrdered t × (input_measure t < input_measure s)
DecreasesInput s (nothing t) = ⊤
DecreasesInput s (fault e) = is_system_error e.0 ≡ false

-- ---- Laws about the definitions.

-- A source is opened, or has an error that is no system error. From its first state, and then from the
-- state after each statement, something comes next, for all files and environments.
pub record NextExists : Type 0 where
  pub opened :
      (m : Files) (file : List ℕ) (folders : List (List ℕ)) →
      IsNoSystemError is_system_error (first_state_in m file folders)
  pub first :
      (file : List ℕ) (folders : List (List ℕ)) (bytes : List ℕ) →
      IsOrdered (first_state file folders bytes)
  pub next :
      (m : Files) (k : EnvironmentView) (s : State) → IsOrdered s →
      (n : Next) × ReachesNext m k s n × DecreasesInput s n
