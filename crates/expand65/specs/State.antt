-- The state of expansion, the results of steps, and conditions.
use Rattle.std.specs.Prelude.{ℕ, ℤ, Bool, List, Option, ◌≡◌, pos, negsuc, zero, suc, ◌+◌, nat_lt, ◌==◌, true, false, not, [], ◌∷◌, length, Some, None, Result, Ok, Err, if◌then◌else◌}
use Rattle.syntax65.specs.Trees.{Tree, name}
use Rattle.syntax65.specs.Tokens.{Lexeme}
use Rattle.expand65.specs.Lines.{Item, RemainingInput, remaining_input, LocatedError, Definition, elseif_rest, LineAndRest}
use Rattle.syntax65.specs.Expressions.{IsParsed}
use Rattle.base65.specs.Outcome.{◌>>=◌}
use Rattle.expand65.specs.Types.{ExprFault, ConditionKind, True, Defined, NotDefined, Blank, NotBlank, ExpandFault, NotConstant, NotOpened, NotUnderstood}
use Rattle.expand65.specs.Blocks.{Branch, at_elseif, at_else, at_end, CompleteBlock}
use Rattle.expand65.specs.declared.blocks.BlockKind.{BlockKind}
use Rattle.expand65.specs.declared.blocks.BlockKind.TheVariants.{Skipped, RemainingBranches}
use Rattle.expand65.specs.LineStart.{first_satisfies, opens_parenthesis, not_understood}

-- ---- The environment at a line.

pub record EnvironmentView : Type 0 where
  -- the value of an expression, if it is constant
  pub value : Tree → Option ℤ
  -- whether a name, with or without a leading `::`, is that of a label or constant
  pub defined : Bool → List (List ℕ) → Bool

-- ---- The state of expansion: remaining input, macros and open conditions.

pub record State : Type 0 where
  pub left : RemainingInput
  -- by name
  pub macros : List (List ℕ × Definition)
  -- for each open condition, from the innermost on, whether an `.else` added it
  pub conditions : List Bool
  -- the number of macro calls
  pub expansions : ℕ
  -- the folders in which included files are searched
  pub folders : List (List ℕ)

-- the state with other remaining input
abbrev pub with_remaining : State → RemainingInput → State
with_remaining s l = record { left = l; macros = s.macros; conditions = s.conditions; expansions = s.expansions; folders = s.folders }

abbrev pub with_items : State → List Item → State
with_items s is = with_remaining s (remaining_input is s.left.room s.left.place)

-- the state with these open conditions and other remaining input
abbrev pub with_conditions : State → List Bool → RemainingInput → State
with_conditions s cs l = record { left = l; macros = s.macros; conditions = cs; expansions = s.expansions; folders = s.folders }

-- a statement: a label with its colon, or any other
pub data ExpandedStatement : Type 0 where
  label : List Lexeme → ExpandedStatement
  plain : List Lexeme → ExpandedStatement

-- the result of a step: a next state, a statement with a next state, the end, or an error
pub data StepResult : Type 0 where
  continues : State → StepResult
  yields : ExpandedStatement → State → StepResult
  ends : State → StepResult
  raises : LocatedError → StepResult

-- ---- Steps, by what they read.

-- A step: its result, or what it reads first and how it continues then. It reads an expression, a
-- condition, a line, the lines of a block up to the one that closes it, or the first of several files that
-- exists.
pub data ExpansionStep : Type 0 where
  finishes : StepResult → ExpansionStep
  parses : List Lexeme → (Result (Tree × ℕ) ExprFault → ExpansionStep) → ExpansionStep
  decides : EnvironmentView → ConditionKind → List Lexeme → (Result Bool ExpandFault → ExpansionStep) → ExpansionStep
  reads_line : RemainingInput → (LineAndRest → ExpansionStep) → ExpansionStep
  reads_block : BlockKind → RemainingInput → (CompleteBlock → RemainingInput → StepResult) → ExpansionStep
  searches : RemainingInput → List (List ℕ) → (Result (List ℕ × List ℕ) ExpandFault → ExpansionStep) → ExpansionStep

-- continues with the value, or stops with the error at the current location
abbrev pub and_then_step : {A : Type 0} → State → Result A ExpandFault → (A → ExpansionStep) → ExpansionStep
and_then_step s (Err f) next = finishes (raises (f, s.left.place))
and_then_step s (Ok x) next = next x

-- continues if nothing follows a directive in its line
abbrev pub if_alone : State → List Lexeme → ExpansionStep → ExpansionStep
if_alone s [] next = next
if_alone s _ next = finishes (raises (NotUnderstood, s.left.place))

-- continues with the value, or stops with the located error
abbrev pub and_then_result : {A : Type 0} → Result A LocatedError → (A → StepResult) → StepResult
and_then_result (Err e) next = raises e
and_then_result (Ok x) next = next x

-- ---- The kinds of conditions.

-- an expression that consists of all tokens
abbrev pub complete_expression : ℕ → Result (Tree × ℕ) ExprFault → Result Tree ExpandFault
complete_expression count (Ok (e, n)) = if n == count then Ok e else not_understood
complete_expression count (Err fault) = not_understood

abbrev pub is_zero : ℤ → Bool
is_zero (pos zero) = true
is_zero (pos (suc n)) = false
is_zero (negsuc n) = false

-- the truth of a value
abbrev pub truth : Option ℤ → Result Bool ExpandFault
truth None = Err NotConstant
truth (Some v) = Ok (not (is_zero v))

-- whether a tree that is a name is defined
abbrev pub defined_tree : EnvironmentView → Tree → Result Bool ExpandFault
defined_tree k (name is_global parts) = Ok (k.defined is_global parts)
defined_tree k _ = not_understood

-- the name must not be in parentheses
abbrev pub defined_in : EnvironmentView → List Lexeme → Result (Tree × ℕ) ExprFault → Result Bool ExpandFault
defined_in k ts q = if first_satisfies opens_parenthesis ts then not_understood else complete_expression (length ts) q >>= defined_tree k

-- the result of a condition
abbrev pub IsCondition : EnvironmentView → ConditionKind → List Lexeme → Result Bool ExpandFault → Type 0
IsCondition k True ts r = (q : Result (Tree × ℕ) ExprFault) × IsParsed ts q × (r ≡ (complete_expression (length ts) q >>= (λ e. truth (k.value e))))
IsCondition k Defined ts r = (q : Result (Tree × ℕ) ExprFault) × IsParsed ts q × (r ≡ defined_in k ts q)
IsCondition k NotDefined ts r = (q : Result (Tree × ℕ) ExprFault) × IsParsed ts q × (r ≡ (defined_in k ts q >>= (λ b. Ok (not b))))
IsCondition k Blank ts r = r ≡ Ok (length ts == 0)
IsCondition k NotBlank ts r = r ≡ Ok (not (length ts == 0))

-- ---- An `.if` of any kind, and an `.elseif` that follows a false condition.

-- the state after a false condition
abbrev pub after_false_condition : State → Branch → RemainingInput → StepResult
after_false_condition s at_end l = continues (with_remaining s l)
after_false_condition s at_else l = continues (with_conditions s (true ∷ s.conditions) l)
after_false_condition s (at_elseif ts) l = continues (with_remaining s (remaining_input (elseif_rest ts ∷ l.items) l.room l.place))

abbrev pub condition_step : State → Bool → ExpansionStep
condition_step s true = finishes (continues (with_conditions s (false ∷ s.conditions) s.left))
condition_step s false = reads_block Skipped s.left (λ b l. after_false_condition s b.1 l)

abbrev pub if_line : EnvironmentView → State → ConditionKind → List Lexeme → ExpansionStep
if_line k s test ts = decides k test ts (λ c. and_then_step s c (condition_step s))

-- ---- Any other `.elseif`, `.else` and `.endif`.

-- the last open condition and the outer ones, if more are open than at the beginning of the innermost input
abbrev pub without_last_condition : List Bool → ℕ → Option (Bool × List Bool)
without_last_condition [] n = None
without_last_condition (b ∷ bs) n = if nat_lt n (length bs + 1) then Some (b, bs) else None

abbrev pub endif_result : State → Option (Bool × List Bool) → StepResult
endif_result s None = raises (NotOpened, s.left.place)
endif_result s (Some (b, bs)) = continues (with_conditions s bs s.left)

abbrev pub else_line : State → Option (Bool × List Bool) → ExpansionStep
else_line s (Some (false, bs)) = reads_block RemainingBranches s.left (λ b l. continues (with_conditions s bs l))
else_line s _ = finishes (raises (NotOpened, s.left.place))
