-- Final forms, which stay whatever statements follow, and attempts at the forms of constants.
use Rattle.std.specs.Prelude.{Option, Some, None, Ok, ⊤, ◌≡◌, ℕ, suc, Result, Err, List, slice_get, pos, [], ◌∷◌, length, Bool, false, ◌<◌}
use Rattle.std.specs.Result.{result_ok}
use Rattle.syntax65.specs.Trees.{Tree, number, here, unary, binary}
use Rattle.base65.specs.declared.values.Op1.{Op1}
use Rattle.base65.specs.declared.values.Op2.{Op2}
use Rattle.base65.specs.Outcome.{◌>>=◌, Unless}
use Rattle.object65.specs.Form.{Form, lit, imp}
use Rattle.object65.specs.Folding.{fold1, fold2}
use Rattle.semantics65.specs.Norms.{norm, norm_of, Extends, defined_form, form_of_definition, address_of, fold_result}
use Rattle.ast65.specs.declared.fault.AsmFault.{AsmFault}
use Rattle.semantics65.specs.declared.contexts.Context.{Context}
use Rattle.semantics65.specs.Symbols.{Symbols, Definition, Binding, defined_at, imported_as, binding_of, definition_index, import_index, named}
use Rattle.ast65.specs.declared.fault.AsmFault.TheVariants.{NoSuchLabel}
use Rattle.symbols65.specs.declared.resolving.attempt.AttemptError.{AttemptError}
use Rattle.symbols65.specs.declared.resolving.attempt.AttemptError.TheVariants.{Needs, Fault}
use Rattle.ast65.specs.Faults.{is_out_of_memory}
pub use Rattle.symbols65.specs.Plains.{plain_form, plain_result}
use Rattle.symbols65.specs.declared.resolving.bindings.Binding as code
use Rattle.symbols65.specs.declared.table.symbols.SearchEntry.{SearchEntry}
use Rattle.symbols65.specs.declared.table.symbols.SearchEntry.TheVariants.{KnownForm, NoForm}
use Rattle.symbols65.specs.declared.resolving.bindings.Binding.TheVariants.{Defined, Imported}

-- ---- Optional forms: an expression without a value has none.

-- the folded form of an operation, if its operands have forms and it has a value
abbrev pub prefix_form : Op1 → Option Form → Option Form
prefix_form op None = None
prefix_form op (Some f) = result_ok (fold1 op f)

abbrev pub binary_form : Op2 → Option Form → Option Form → Option Form
binary_form op (Some f) (Some g) = result_ok (fold2 op f g)
binary_form op f g = None

-- a reference to a symbol, by a name or to an unnamed label
abbrev pub IsReference : Tree → Type 0
IsReference (number v) = ⊥
IsReference here = ⊥
IsReference (unary op e) = ⊥
IsReference (binary op e f) = ⊥
IsReference e = ⊤

-- ---- Final forms, within a number of nested expressions.

-- whatever statements follow, an expression has this form, and at most n levels of constants are expanded for it
abbrev pub IsFinalWithin : ℕ → Symbols → Context → Tree → Form → Type 0
IsFinalWithin n y s e f = (z : Symbols) → Extends y z → norm (suc n) z s e ≡ Ok f

-- ---- The meanings of names, as the code divides them.

abbrev pub binding_in : code.Binding → Binding
binding_in (Defined i) = defined_at i
binding_in (Imported k) = imported_as k

-- the index of a defined meaning
abbrev pub defined_index : Result Binding AsmFault → Option ℕ
defined_index (Ok (defined_at i)) = Some i
defined_index _ = None

-- the only part of a plain name
abbrev pub plain_part : Bool → List (List ℕ) → Option (List ℕ)
plain_part false (n ∷ []) = Some n
plain_part global parts = None

-- a name is neither defined nor imported
pub record IsUnknownName (y : Symbols) (n : List ℕ) : Type 0 where
  pub nowhere : (scope : ℕ) → definition_index y (named scope n) ≡ None
  pub absent : import_index y n ≡ None

-- the meaning of an operand by the first table, if it has one, is its meaning by the second
abbrev pub KeepsBinding : Symbols → Symbols → Context → Tree → Type 0
KeepsBinding y z s e = (m : Binding) → binding_of y s e ≡ Ok m → binding_of z s e ≡ Ok m

abbrev pub KeepsBindings : Symbols → Symbols → Type 0
KeepsBindings y z = (s : Context) (e : Tree) → KeepsBinding y z s e

-- ---- Attempts.

-- memory ran out
abbrev pub lacks_memory : AttemptError → Bool
lacks_memory (Needs j) = false
lacks_memory (Fault e) = is_out_of_memory e

abbrev pub attempt_result : {A : Type 0} → Result A AsmFault → Result A AttemptError
attempt_result (Ok x) = Ok x
attempt_result (Err e) = Err (Fault e)

abbrev pub known_form : ℕ → Option Form → Result Form AttemptError
known_form j (Some f) = Ok f
known_form j None = Err (Needs j)

-- a constant has the form of an attempt at its expression, and a label has its address
abbrev pub attempt_value : (Context → Tree → Result Form AttemptError) → Context → Option Tree → Result Form AttemptError
attempt_value constant_form s None = Ok (address_of s)
attempt_value constant_form s (Some e) = constant_form s e

abbrev pub attempt_definition : (Context → Tree → Result Form AttemptError) → Option Definition → Result Form AttemptError
attempt_definition constant_form None = Err (Fault NoSuchLabel)
attempt_definition constant_form (Some d) = attempt_value constant_form d.context d.value

-- the form of a meaning, by the known forms of constants
abbrev pub binding_form : (ℕ → Option Form) → Symbols → Binding → Result Form AttemptError
binding_form known y (imported_as k) = Ok (imp k)
binding_form known y (defined_at j) = attempt_definition (λ s e. known_form j (known j)) (slice_get y.definitions j)

abbrev pub operand_form : (ℕ → Option Form) → Symbols → Context → Tree → Result Form AttemptError
operand_form known y s e = attempt_result (binding_of y s e) >>= binding_form known y

abbrev pub attempt_by : (Tree → Result Form AttemptError) → Context → Tree → Result Form AttemptError
attempt_by operand s (number v) = Ok (lit (pos v))
attempt_by operand s here = Ok (address_of s)
attempt_by operand s (unary op e) = attempt_by operand s e >>= (λ f. attempt_result (fold_result (fold1 op f)))
attempt_by operand s (binary op e g) = attempt_by operand s e >>= (λ f. attempt_by operand s g >>= (λ h. attempt_result (fold_result (fold2 op f h))))
attempt_by operand s e = operand e

-- the form of an expression, by the known forms of constants
abbrev pub form_attempt : (ℕ → Option Form) → Symbols → Context → Tree → Result Form AttemptError
form_attempt known y s e = attempt_by (operand_form known y s) s e

-- the form of the definition at an index, by the known forms of constants
abbrev pub constant_attempt : (ℕ → Option Form) → Symbols → ℕ → Result Form AttemptError
constant_attempt known y j = attempt_definition (form_attempt known y) (slice_get y.definitions j)

-- the attempt at the last of the pending constants, or at the expression itself
abbrev pub last_attempt : {A : Type 0} → (ℕ → A) → A → List ℕ → A
last_attempt at first [] = first
last_attempt at first (w ∷ ws) = last_attempt at (at w) ws

-- each known form is found with at most this many nested expressions
abbrev pub HaveBoundedDepth : ℕ → Symbols → (ℕ → Option Form) → Type 0
HaveBoundedDepth c y known = (j : ℕ) (f : Form) → known j ≡ Some f → form_of_definition (norm c y) (slice_get y.definitions j) ≡ Ok f

-- what a search returns: the form of an expression, or an error if it has none
abbrev pub FindsForm : Result Form AsmFault → Result Form AsmFault → Type 0
FindsForm (Ok f) n = n ≡ Ok f
FindsForm (Err e) n = Unless (is_out_of_memory e) (result_ok n ≡ None)

-- the entry of a constant after a search by this many definitions, unless memory ran out
abbrev pub IsEntryOf : ℕ → Result Form AsmFault → SearchEntry → Type 0
IsEntryOf count (Ok f) e = e ≡ KnownForm f
IsEntryOf count (Err z) e = (is_out_of_memory z ≡ false) × (e ≡ NoForm count)

-- ---- Operands whose meaning stays whatever statements follow.

-- an expression has no number and no address if this constant has none, whatever statements follow
abbrev pub IsBlocked : Symbols → Context → Tree → ℕ → Type 0
IsBlocked y s e r = (z : Symbols) → Extends y z → plain_result (defined_form z r) ≡ None → plain_result (norm_of z s e) ≡ None

-- the constant at an index has no number and no address if the other has none, whatever statements follow
abbrev pub IsBlockedAt : Symbols → ℕ → ℕ → Type 0
IsBlockedAt y j r = (z : Symbols) → Extends y z → plain_result (defined_form z r) ≡ None → plain_result (defined_form z j) ≡ None

-- an operand means the definition at this index of the table whatever statements follow
abbrev pub HasFinalBinding : Symbols → Context → Tree → ℕ → Type 0
HasFinalBinding y s e j = (j < length y.definitions) × ((z : Symbols) → Extends y z → binding_of z s e ≡ Ok (defined_at j))
