-- Definitions of macros and repetitions.
use Rattle.std.proofs.lemmas.Grind.{common_steps}
use Rattle.std.proofs.Common.{◌≡◌, ℕ, Bool, true, false, List, [], ◌∷◌, length, drop, Option, Some, None, Result, Ok, Err, ap, refl, sym, ◌∙◌, arith, ◌++◌, map, Vec, Global}
use Rattle.std.proofs.lemmas.List.{drop-map, map-append}
use Rattle.syntax65.specs.Expressions.{IsParsed}
use Rattle.syntax65.specs.Faults.{is_expr_system_error, fault_of_parsing, is_system_error}
use Rattle.base65.specs.Outcome.{Unless, ◌>>=◌}
use Rattle.syntax65.specs.Tokens.{Lexeme, lexeme_of, lexemes}
use Rattle.syntax65.specs.Trees.{Tree}
use Rattle.syntax65.specs.declared.expressions.operators.ExprFault.{ExprFault}
use Rattle.syntax65.specs.declared.expressions.operators.ExprFault.TheVariants.{OutOfMemory, OperandExpected, ParenthesisExpected, TooDeep}
use Rattle.syntax65.specs.declared.lexing.tokens.Token.{Token}
use Rattle.expand65.specs.LineStart.{name_in, ok_or_not_understood, ◌>=>◌}
use Rattle.expand65.specs.Expansion.{StepReaches}
use Rattle.expand65.specs.Macros.{header_of, params_of, definition_step, macro_line, new_end_mark, repeat_header, variable_of, iterations_step, macro_of}
use Rattle.syntax65.specs.declared.fault.ExpandFault.{ExpandFault}
use Rattle.syntax65.specs.declared.fault.ExpandFault.TheVariants.{MacroTwice}
use Rattle.std.specs.Map.{lookup}
use Rattle.std.specs.Option.{option_map}
use Rattle.std.specs.Prelude.{is_some}
use Rattle.std.specs.Str.{bytes_eq}
use Rattle.std.specs.declared.rc.Rc.{Rc}
use Rattle.indexmap.specs.IndexMap.{IndexMap, insert_entry}
use Rattle.indexmap.proofs.CallerLemmas.{insert_entry-new}
use Rattle.base65.specs.Store.{Files}
use Rattle.expand65.specs.Blocks.{Block, Branch}
use Rattle.expand65.specs.declared.blocks.BlockKind.TheVariants.{Macro, Repeat}
use Rattle.expand65.specs.Lines.{with_lines, repeat_substitution, Definition, iterations}
use Rattle.expand65.specs.Representation.{remaining_of, remaining_iterations, macros_of, state_of}
use Rattle.expand65.specs.Replay.{tokens_in, definition_of}
use Rattle.expand65.specs.State.{State, continues, raises, and_then_step}
use Rattle.syntax65.specs.declared.source_location.SourceLocation.{SourceLocation}
use Rattle.expand65.specs.declared.macro_replay.Body.{Body}
use Rattle.expand65.specs.declared.macro_replay.Replay.{Replay}
use Rattle.expand65.specs.declared.input_stack.InputStack.{InputStack}
use Rattle.expand65.specs.declared.preprocessor.Preprocessor.{Preprocessor}
use Rattle.expand65.proofs.Tables.{lookup_mapped, same_name}

-- ---- The header of a repetition.

abbrev pub IsHeader : List Lexeme → Result (Tree × List (List ℕ)) ExpandFault → Type 0
IsHeader ts r = (q : Result (Tree × ℕ) ExprFault) × IsParsed ts q × (r ≡ repeat_header ts q)

pub no_expression : (ts : List Lexeme) (f : ExprFault) → Unless (is_expr_system_error f) (IsParsed ts (Err f)) → Unless (is_system_error (fault_of_parsing f)) (IsHeader ts (Err (fault_of_parsing f)))
no_expression ts OutOfMemory h = tt
no_expression ts OperandExpected h = (Err OperandExpected, h, refl)
no_expression ts ParenthesisExpected h = (Err ParenthesisExpected, h, refl)
no_expression ts TooDeep h = (Err TooDeep, h, refl)

pub no_variable : (ts : List Token) (following : List Token) (e : Tree) (n : ℕ) (f : ExpandFault) → IsParsed (lexemes ts) (Ok (e, n)) → following ≡ drop n ts → Unless (is_system_error f) (ok_or_not_understood (variable_of (lexemes following)) ≡ Err f) → Unless (is_system_error f) (IsHeader (lexemes ts) (Err f))
no_variable ts following e n f h b v = by (is_system_error f) v
  where
    by : (o : Bool) → Unless o (ok_or_not_understood (variable_of (lexemes following)) ≡ Err f) → Unless o (IsHeader (lexemes ts) (Err f))
    by true v = tt
    by false v =
        let same : ok_or_not_understood (variable_of (drop n (lexemes ts))) ≡ Err f = ap (λ l. ok_or_not_understood (variable_of l)) (sym (ap lexemes b ∙ sym (drop-map lexeme_of n ts))) ∙ v in
        (Ok (e, n), h, sym (ap (λ (r : Result (List (List ℕ)) ExpandFault). r >>= (λ v. Ok (e, v))) same))

pub a_header : (ts : List Token) (following : List Token) (e : Tree) (n : ℕ) (v : List (List ℕ)) → IsParsed (lexemes ts) (Ok (e, n)) → following ≡ drop n ts → ok_or_not_understood (variable_of (lexemes following)) ≡ Ok v → IsHeader (lexemes ts) (Ok (e, v))
a_header ts following e n v h b r =
    let same : ok_or_not_understood (variable_of (drop n (lexemes ts))) ≡ Ok v = ap (λ l. ok_or_not_understood (variable_of l)) (sym (ap lexemes b ∙ sym (drop-map lexeme_of n ts))) ∙ r in
    (Ok (e, n), h, sym (ap (λ (r : Result (List (List ℕ)) ExpandFault). r >>= (λ v. Ok (e, v))) same))

-- an error of `o` is an error of `o >=> f`
pub refused_on : {A B : Type 0} (o : Option A) (f : A → Option B) (e : ExpandFault) → Unless (is_system_error e) (ok_or_not_understood o ≡ Err e) → Unless (is_system_error e) (ok_or_not_understood (o >=> f) ≡ Err e)
refused_on {A} {B} o f e h = grind (arith, common_steps)

pub header_split : (ts us : List Lexeme) (t : Lexeme) (name : List ℕ) → ts ≡ t ∷ us → name_in t ≡ Some name → header_of ts ≡ (params_of us >=> (λ params. Some (name, params)))
header_split ts us t name e f = rw (e, f) refl

-- ---- The table of macros.

abbrev pub shared : Rc Body Global → Definition
shared b = definition_of b.value

-- a macro by its name, with its definition
abbrev pub entry_of : Vec ℕ Global × Rc Body Global → List ℕ × Definition
entry_of e = (e.0.items, definition_of e.1.value)

pub named : (es : List (Vec ℕ Global × Rc Body Global)) (name : List ℕ) → macro_of (map entry_of es) name ≡ option_map shared (lookup (λ k. bytes_eq name k.items) es)
named es name = lookup_mapped (bytes_eq name) (λ k. k.items) shared es

pub more_macros : {S : Type 0} (t : IndexMap (Vec ℕ Global) (Rc Body Global) S) (k : Vec ℕ Global) (v : Rc Body Global) (es : List (Vec ℕ Global × Rc Body Global)) → macro_of (map entry_of t.entries) k.items ≡ None → es ≡ insert_entry same_name t.entries k v → map entry_of es ≡ map entry_of t.entries ++ entry_of (k, v) ∷ []
more_macros t k v es h e =
    let gone : lookup (λ x. bytes_eq k.items x.items) t.entries ≡ None = none_of (lookup (λ x. bytes_eq k.items x.items) t.entries) (sym (named t.entries k.items) ∙ h) in
    ap (map entry_of) (e ∙ insert_entry-new same_name t k v gone) ∙ map-append entry_of t.entries ((k, v) ∷ [])
  where
    none_of : (o : Option (Rc Body Global)) → option_map shared o ≡ None → o ≡ None
    none_of None h = refl
    none_of (Some b) h = absurd (cc)

pub twice : (m : Files) (s : State) (name : List ℕ) (params : List (List ℕ)) → is_some (macro_of s.macros name) ≡ true → StepReaches m (definition_step s name params (macro_of s.macros name)) (raises (MacroTwice, s.left.place))
twice m s name params h = grind (arith, common_steps)

pub is_none : {A : Type 0} (o : Option A) → is_some o ≡ false → o ≡ None
is_none x h = grind (arith, common_steps)

-- the step of `.macro` with a valid header
pub macro_is : (s : State) (ts : List Lexeme) (name : List ℕ) (params : List (List ℕ)) (o : Option Definition) → ok_or_not_understood (header_of ts) ≡ Ok (name, params) → macro_of s.macros name ≡ o → definition_step s name params o ≡ macro_line s ts
macro_is s ts name params o e none = sym (ap (λ (q : Result (List ℕ × List (List ℕ)) ExpandFault). and_then_step s q (λ h. definition_step s h.0 h.1 (macro_of s.macros h.0))) e ∙ ap (definition_step s name params) none)

-- ---- Adding a macro.

-- the state with other remaining input and other macros
abbrev pub rewritten : Files → Preprocessor → InputStack → List (List ℕ × Definition) → State
rewritten m r rd ms = record { left = remaining_of m rd; macros = ms; conditions = r.conditions; expansions = r.expansions; folders = r.folders }

pub kept_one : (m : Files) (old : Preprocessor) (rd : InputStack) (name : Vec ℕ Global) (body : Rc Body Global) (b : Body) (end : Branch) (es : List (Vec ℕ Global × Rc Body Global)) → macro_of (macros_of old) name.items ≡ None → es ≡ insert_entry same_name old.macros.entries name body → body.value ≡ b → Block Macro 0 [] (remaining_of m old.stack) (Ok ((map tokens_in b.lines, end), remaining_of m rd)) → StepReaches m (definition_step (state_of m old) name.items (map (λ k. k.items) b.params.keys) None) (continues (rewritten m old rd (map entry_of es)))
kept_one m old rd name body b end es h e v block =
    let ms : map entry_of es ≡ macros_of old ++ (name.items, definition_of b) ∷ [] = more_macros old.macros name body es h e ∙ ap (λ (x : Body). macros_of old ++ (name.items, definition_of x) ∷ []) v in
    (Ok ((map tokens_in b.lines, end), remaining_of m rd), block, ap (λ x. continues (rewritten m old rd x)) ms)

pub block_refused : (m : Files) (s : State) (name : List ℕ) (params : List (List ℕ)) (f : ExpandFault) (p : SourceLocation) → Unless (is_system_error f) (Block Macro 0 [] s.left (Err (f, p))) → Unless (is_system_error f) (StepReaches m (definition_step s name params None) (raises (f, p)))
block_refused m s name params f p h = grind (arith, common_steps)

-- ---- The beginning of a repetition.

pub turns_ready : (r : Replay) (b : Body) (n : ℕ) → r.body.value ≡ b → r.at ≡ length b.lines → r.arguments ≡ [] → r.count ≡ None → r.locals.entries ≡ [] → r.number ≡ 0 → remaining_iterations r 0 n ≡ iterations (repeat_substitution (map (λ k. k.items) b.params.keys)) (map tokens_in b.lines) 0 n
turns_ready r b n v a g c l k = grind (arith, common_steps)

pub repeated_one : (m : Files) (old : Preprocessor) (rd new : InputStack) (replay : Replay) (b : Body) (end : Branch) (n : ℕ) → Block Repeat 0 [] (remaining_of m old.stack) (Ok ((map tokens_in b.lines, end), remaining_of m rd)) → remaining_iterations replay 0 n ≡ iterations (repeat_substitution (map (λ k. k.items) b.params.keys)) (map tokens_in b.lines) 0 n → Ok (remaining_of m new) ≡ with_lines (remaining_iterations replay 0 n) (new_end_mark (state_of m old) false None) (remaining_of m rd) → StepReaches m (iterations_step (state_of m old) n (map (λ k. k.items) b.params.keys)) (continues (rewritten m old new (macros_of old)))
repeated_one m old rd new replay b end n block ts e = grind (arith, common_steps)

pub repeated_none : (m : Files) (old : Preprocessor) (rd : InputStack) (replay : Replay) (b : Body) (end : Branch) (n : ℕ) (outside : Bool) (f : ExpandFault) (p : SourceLocation) → Block Repeat 0 [] (remaining_of m old.stack) (Ok ((map tokens_in b.lines, end), remaining_of m rd)) → remaining_iterations replay 0 n ≡ iterations (repeat_substitution (map (λ k. k.items) b.params.keys)) (map tokens_in b.lines) 0 n → Unless outside (Err (f, p) ≡ with_lines (remaining_iterations replay 0 n) (new_end_mark (state_of m old) false None) (remaining_of m rd)) → Unless outside (StepReaches m (iterations_step (state_of m old) n (map (λ k. k.items) b.params.keys)) (raises (f, p)))
repeated_none m old rd replay b end n true f p block ts e = tt
repeated_none m old rd replay b end n false f p block ts e = grind (arith, common_steps)
