-- The evaluation of an expression in the context of a statement.
use Rattle.std.specs.Prelude.{◌≡◌, ⊤, ℕ, List, [], Option, Some, None, Result, Ok, Err, length, slice_get, true}
use Rattle.std.specs.Option.{option_and_then}
use Rattle.syntax65.specs.Trees.{Tree}
use Rattle.syntax65.specs.declared.lexing.tokens.AddressSize.{AddressSize}
use Rattle.object65.specs.Form.{Form}
use Rattle.ast65.specs.declared.fault.AsmFault.{AsmFault}
use Rattle.ast65.specs.Faults.{is_out_of_memory}
use Rattle.base65.specs.Outcome.{Unless}
use Rattle.ast65.specs.declared.language.Item.{Item}
use Rattle.ast65.specs.declared.language.Item.TheVariants.{Value, StringLiteral}
use Rattle.ast65.specs.declared.language.Statement.{Statement}
use Rattle.ast65.specs.declared.language.Statement.TheVariants as statement
use Rattle.semantics65.specs.Contents.{operand_tree}
use Rattle.semantics65.specs.declared.contexts.Context.{Context}
use Rattle.semantics65.specs.Layout.{missing_scope_fault}
use Rattle.semantics65.specs.Norms.{norm_of, size_of}
use Rattle.semantics65.specs.Symbols.{Symbols}
use Rattle.symbols65.specs.Resolving.{IsFinalWithin, plain_form, plain_result}
use Rattle.symbols65.specs.declared.constants.Evaluation.{Evaluation}
use Rattle.symbols65.specs.declared.measuring.trees.Evaluations.{Evaluations}

-- ---- An expression.

-- The evaluation of an expression by a symbol table, in a segment of size `own`: its address size, and its number or
-- address, if it has one. If `is_final`, a stored form is the expression's form whatever statements follow.
pub record IsEvaluation (y : Symbols) (s : Context) (own : AddressSize) (e : Tree) (v : Evaluation) : Type 0 where
  pub form : option_and_then plain_form v.form ≡ plain_result (norm_of y s e)
  pub stays : v.is_final ≡ true → (f : Form) → v.form ≡ Some f → IsFinalWithin (length y.definitions) y s e f
  pub size : v.size ≡ size_of y s own e

-- the evaluation of an optional expression
abbrev pub IsEvaluated : Symbols → Context → AddressSize → Option Tree → Option Evaluation → Type 0
IsEvaluated y s own (Some e) (Some v) = IsEvaluation y s own e v
IsEvaluated y s own None None = ⊤
IsEvaluated y s own e o = ⊥

-- the evaluation of an expression, or the error for its first name with `::` whose scope doesn't exist
abbrev pub EvaluatesTree : Symbols → Context → AddressSize → Tree → Result Evaluation AsmFault → Type 0
EvaluatesTree y s own e (Ok v) = (missing_scope_fault y.scopes s.scope e ≡ None) × IsEvaluation y s own e v
EvaluatesTree y s own e (Err z) = Unless (is_out_of_memory z) (missing_scope_fault y.scopes s.scope e ≡ Some z)

-- if there is a form, it is the form of the expression whatever statements follow
abbrev pub HasFinal : Symbols → Context → Option Tree → Option Form → Type 0
HasFinal y s (Some e) (Some f) = IsFinalWithin (length y.definitions) y s e f
HasFinal y s e o = ⊤

-- ---- A statement.

-- the first and the second expression of a statement other than a list, if it has them
abbrev pub first_tree : Statement → Option Tree
first_tree (statement.Constant n e) = Some e
first_tree (statement.Assert e action text) = Some e
first_tree (statement.Instruction m operand) = operand_tree operand
first_tree (statement.Reserve n v) = Some n
first_tree (statement.Align n v) = Some n
first_tree (statement.Incbin bytes start len) = start
first_tree _ = None

abbrev pub second_tree : Statement → Option Tree
second_tree (statement.Reserve n v) = v
second_tree (statement.Align n v) = v
second_tree (statement.Incbin bytes start len) = len
second_tree _ = None

abbrev pub items_in : Statement → List Item
items_in (statement.Values width items) = items
items_in _ = []

abbrev pub item_tree : Item → Option Tree
item_tree (Value e) = Some e
item_tree (StringLiteral bytes) = None

-- final forms of elements of a list, each at the index of its element
abbrev pub HaveFinals : Symbols → Context → List Item → List (Option Form) → Type 0
HaveFinals y s items forms =
    (i : ℕ) (x : Item) (o : Option Form) → slice_get items i ≡ Some x → slice_get forms i ≡ Some o →
    HasFinal y s (item_tree x) o

-- the evaluations of the expressions of a statement
pub record AreEvaluations (y : Symbols) (s : Context) (own : AddressSize) (x : Statement) (v : Evaluations) : Type 0 where
  pub first : IsEvaluated y s own (first_tree x) v.first
  pub second : IsEvaluated y s own (second_tree x) v.second
  pub forms : HaveFinals y s (items_in x) v.forms.items
