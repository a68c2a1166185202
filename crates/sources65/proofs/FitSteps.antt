-- Each expansion step preserves that the remaining input fits, and returns tokens that fit; the number of macro calls is at
-- most the number of tokens.
use Rattle.std.proofs.lemmas.Grind.{common_steps}
use Rattle.std.proofs.Common.{arith, ◌≡◌, ℕ, zero, suc, ◌+◌, Bool, true, false, List, [], ◌∷◌, length, drop, map, Option, Some, None, refl, sym, subst}
use Rattle.std.specs.Prelude.{⊤, Result, Ok, Err}
use Rattle.std.specs.List.{AllByRecursion}
use Rattle.std.proofs.lemmas.List.{length-drop, length-take}
use Rattle.base65.specs.Outcome.{◌>>=◌}
use Rattle.base65.specs.Store.{Files}
use Rattle.syntax65.specs.Tokens.{Lexeme}
use Rattle.syntax65.specs.Trees.{Tree}
use Rattle.syntax65.specs.declared.expressions.operators.ExprFault.{ExprFault}
use Rattle.syntax65.specs.declared.fault.ExpandFault.{ExpandFault}
use Rattle.syntax65.specs.declared.fault.ExpandFault.TheVariants as faults
use Rattle.syntax65.specs.declared.lexing.tokens.TokenKind.{TokenKind}
use Rattle.syntax65.specs.declared.source_location.SourceLocation.{SourceLocation}
use Rattle.expand65.specs.Blocks.{Block, Branch, CompleteBlock}
use Rattle.expand65.specs.declared.blocks.BlockKind.{BlockKind}
use Rattle.expand65.specs.declared.blocks.BlockKind.TheVariants as kind
use Rattle.expand65.specs.declared.line_start.Directive.{Directive}
use Rattle.expand65.specs.declared.line_start.Directive.TheVariants.{Macro, EndMacro, ExitMacro, Local, Repeat, EndRepeat, If, ElseIf, Else, EndIf, Include, Error, End}
use Rattle.expand65.specs.declared.line_start.ConditionKind.{ConditionKind}
use Rattle.expand65.specs.declared.line_start.ConditionKind.TheVariants.{True}
use Rattle.expand65.specs.Expansion.{line_step, end_mark_step, bytes_in, directive_step, file_named, first_file, first_state, include_file, IsStep, last_condition, StepReaches, Next, statement, nothing, fault, not_opened, first_state_in, ReachesNext, further, yielded, label_step, step_after, step_from, unless_mislabelled}
use Rattle.expand65.specs.LineStart.{first_directive, is_mislabelled, label_len, line_directive, string_of, ok_or_not_understood}
use Rattle.expand65.specs.Lines.{Definition, line_location, Item, line_limit, body_line, label_rest, elseif_rest, RemainingInput, remaining_input, lines_of, InputEnd, Substitution, file_lines_after, after_innermost_macro, repeat_substitution, LineAndRest, ReadsNextLine, iterations}
use Rattle.expand65.specs.Macros.{arguments_of, call_result, with_one_more_call, definition_step, with_input, exit_macro, exit_result, call_substitution, header_of, local_line, macro_at, macro_of, new_end_mark, plain_line_result, repeat_line, repeat_of, iterations_step}
use Rattle.expand65.specs.State.{condition_step, else_line, endif_result, after_false_condition, continues, yields, ends, raises, if_alone, if_line, finishes, parses, decides, reads_line, reads_block, searches, EnvironmentView, State, ExpandedStatement, label, plain, ExpansionStep, StepResult, and_then_step, with_items, with_remaining}
use Rattle.sources65.proofs.FitItems.{AreLines, after_mark, block_fit, fewer, IsLeftFit, IsOutsideFit, IsTakenFit, localised_fit, localised_tokens, outside_fit, played_lines, pushed_fit, taken_fit, turns_lines, written_lines}
use Rattle.sources65.proofs.FitLines.{AreAllFit, arguments_few, arguments_fit, Each, lookup_each, new_names_fit}
use Rattle.sources65.proofs.FitTokens.{all_drop, all_take, AreFit, IsTokenFit}
use Rattle.semantics65.proofs.Segments.{all_more}

-- ---- States.

abbrev pub tokens_of : ExpandedStatement → List Lexeme
tokens_of (label ts) = ts
tokens_of (plain ts) = ts

module _ (m : Files) where
  -- the state after `n` tokens were returned or executed, and one further token for each macro call
  pub record IsStateFit (n : ℕ) (s : State) : Type 0 where
    pub left : IsLeftFit m (n + s.expansions) s.left
    pub macros : AllByRecursion (λ e. AreAllFit m e.1.body) s.macros

  -- the invariant for fewer tokens
  pub fewer_given : (n k : ℕ) (s : State) → IsStateFit (n + k) s → IsStateFit n s
  fewer_given n k s fit = record { left = fewer m (n + s.expansions) ((n + k) + s.expansions) s.left (omega arith) fit.left; macros = fit.macros }

  macro_fit : (ms : List (List ℕ × Definition)) (k : TokenKind) (t : List ℕ) → AllByRecursion (λ e. AreAllFit m e.1.body) ms → Each (λ d. AreAllFit m d.body) (macro_at ms (k, t))
  macro_fit ms x1 t h = grind (arith, common_steps, lookup_each)

  module _ (n : ℕ) where
    abbrev pub IsKept : StepResult → Type 0
    IsKept (continues t) = IsStateFit n t
    IsKept (yields x t) = AreFit m (tokens_of x) × IsStateFit (n + length (tokens_of x)) t
    IsKept (ends t) = ⊤
    IsKept (raises e) = ⊤

    -- a step whose results all preserve the invariant
    abbrev Keeps : ExpansionStep → Type 0
    Keeps (finishes x) = IsKept x
    Keeps (parses ts next) = (q : Result (Tree × ℕ) ExprFault) → Keeps (next q)
    Keeps (decides k test ts next) = (c : Result Bool ExpandFault) → Keeps (next c)
    Keeps (reads_line l next) = (t : LineAndRest) → ReadsNextLine l t → Keeps (next t)
    Keeps (reads_block k l next) = (b : CompleteBlock) (x : RemainingInput) → Block k 0 [] l (Ok (b, x)) → IsKept (next b x)
    Keeps (searches l names next) = (q : Result (List ℕ × List ℕ) ExpandFault) → Keeps (next q)

    led_fit : (step : ExpansionStep) (r : StepResult) → Keeps step → StepReaches m step r → IsKept r
    led_fit (finishes x) r fit h = subst IsKept (sym h) fit
    led_fit (parses ts next) r fit (q, p, h) = led_fit (next q) r (fit q) h
    led_fit (decides k test ts next) r fit (c, p, h) = led_fit (next c) r (fit c) h
    led_fit (reads_line l next) r fit (t, p, h) = led_fit (next t) r (fit t p) h
    led_fit (reads_block k l next) r fit (Ok (b, x), p, h) = subst IsKept (sym h) (fit b x p)
    led_fit (reads_block k l next) r fit (Err e, p, h) = subst IsKept (sym h) tt
    led_fit (searches l names next) r fit h = led_fit (next (first_file m names)) r (fit (first_file m names)) h

    -- ---- Control flow of steps.

    unless : {A : Type 0} (s : State) (q : Result A ExpandFault) (after : A → ExpansionStep) → ((x : A) → q ≡ Ok x → Keeps (after x)) → Keeps (and_then_step s q after)
    unless s (Ok x) after h = h x refl
    unless s (Err f) after h = tt

    alone : (s : State) (ts : List Lexeme) (after : ExpansionStep) → Keeps after → Keeps (if_alone s ts after)
    alone s [] after h = h
    alone s (t ∷ ts) after h = tt

    enters : (s : State) (is : List Item) (k : InputEnd) (p : SourceLocation) → IsStateFit n s → AreLines m is → IsKept (with_input s is k p)
    enters s is k p fit lines = let inner = pushed_fit m (n + s.expansions) is k s.left p fit.left lines in grind (arith, common_steps, inner)

    module _ (s : State) (fit : IsStateFit n s) where
      block : (k : BlockKind) (b : CompleteBlock) (x : RemainingInput) → Block k 0 [] s.left (Ok (b, x)) → AreAllFit m b.0 × IsLeftFit m (n + s.expansions) x
      block k b x p = block_fit m (n + s.expansions) k 0 [] s.left (Ok (b, x)) tt fit.left p

      -- ---- Conditions.

      finds : (b : Branch) (x : RemainingInput) → IsLeftFit m (n + s.expansions) x → IsKept (after_false_condition s b x)
      finds x1 x h = grind (arith, common_steps)

      decides_on : (b : Bool) → Keeps (condition_step s b)
      decides_on true = record { left = fit.left; macros = fit.macros }
      decides_on false = λ b x p. finds b.1 x (block kind.Skipped b x p).1

      if_on : (k : EnvironmentView) (test : ConditionKind) (ts : List Lexeme) → Keeps (if_line k s test ts)
      if_on k test ts = λ c. unless s c (condition_step s) (λ b e. decides_on b)

      else_on : (o : Option (Bool × List Bool)) → Keeps (else_line s o)
      else_on (Some (false, bs)) = λ b x p. record { left = (block kind.RemainingBranches b x p).1; macros = fit.macros }
      else_on _ = tt

      end_if_on : (o : Option (Bool × List Bool)) → IsKept (endif_result s o)
      end_if_on x1 = grind (arith, common_steps)

      -- ---- Macros.

      defines_on : (name : List ℕ) (params : List (List ℕ)) (o : Option Definition) → Keeps (definition_step s name params o)
      defines_on name params (Some d) = tt
      defines_on name params None = λ b x p. (let h = block kind.Macro b x p in record { left = h.1; macros = all_more (λ (e : List ℕ × Definition). AreAllFit m e.1.body) s.macros (name, record { params = params; body = b.0 }) fit.macros h.0 })

      exits_on : (o : Option (ℕ × List Item × SourceLocation)) → Each (IsOutsideFit m (n + s.expansions) s.left.room) o → IsKept (exit_result s o)
      exits_on x1 h = grind (arith, common_steps)

      local_on : (ts : List Lexeme) → AreFit m ts → IsKept (local_line s ts)
      local_on ts h = grind (arith, common_steps, localised_tokens, (localised_fit m), (new_names_fit m ts h))

      -- ---- Repetitions and included files.

      repeats_on : (count : ℕ) (variable : List (List ℕ)) → Keeps (iterations_step s count variable)
      repeats_on count variable = λ b x p. (let h = block kind.Repeat b x p in enters (with_remaining s x) (iterations (repeat_substitution variable) b.0 0 count) (new_end_mark s false None) x.place (record { left = h.1; macros = fit.macros }) (turns_lines m variable b.0 0 count h.0))

      repeat_on : (k : EnvironmentView) (ts : List Lexeme) → Keeps (repeat_line k s ts)
      repeat_on k ts = λ q. unless s (repeat_of k ts q) _ (λ h e. repeats_on h.0 h.1)

      include_on : (file : List ℕ) → Keeps (include_file s file)
      include_on file = λ q. unless s q _ (λ f e. enters s (file_lines_after 0 (lines_of f.1)) (new_end_mark s false (Some s.left.place)) (record { file = f.0; line = 0 }) fit (written_lines m 0 (lines_of f.1)))

      directed_on : (k : EnvironmentView) (d : Directive) (ts : List Lexeme) → AreFit m ts → Keeps (directive_step k s d ts)
      directed_on k Macro ts h = unless s (ok_or_not_understood (header_of ts)) _ (λ x e. defines_on x.0 x.1 (macro_of s.macros x.0))
      directed_on k EndMacro ts h = alone s ts (finishes (not_opened s)) tt
      directed_on k ExitMacro ts h = alone s ts (finishes (exit_macro s)) (exits_on (after_innermost_macro s.left.items s.left.place) (outside_fit m (n + s.expansions) s.left.items s.left.room s.left.place fit.left))
      directed_on k Local ts h = local_on ts h
      directed_on k Repeat ts h = repeat_on k ts
      directed_on k EndRepeat ts h = alone s ts (finishes (not_opened s)) tt
      directed_on k (If test) ts h = if_on k test ts
      directed_on k ElseIf ts h = else_on (last_condition s)
      directed_on k Else ts h = alone s ts (else_line s (last_condition s)) (else_on (last_condition s))
      directed_on k EndIf ts h = alone s ts (finishes (endif_result s (last_condition s))) (end_if_on (last_condition s))
      directed_on k Include ts h = unless s (ok_or_not_understood (string_of ts)) (include_file s) (λ file e. include_on file)
      directed_on k Error ts h = unless s (ok_or_not_understood (string_of ts)) (λ text. finishes (raises (faults.Error text, s.left.place))) (λ text e. tt)
      directed_on k End ts h = alone s ts (finishes (continues (with_items s []))) (let few = fit.left.few in record { left = record { items = tt; few = omega (arith, few) }; macros = fit.macros })

    -- ---- Macro calls and other lines.

    calls_on : (s : State) (ts : List Lexeme) → IsStateFit (n + suc (length ts)) s → AreFit m ts → (d : Definition) → AreAllFit m d.body → IsKept (call_result s d (arguments_of ts))
    calls_on s ts fit h d body =
        let few = fit.left.few in
        let less = arguments_few ts in
        let inner : IsStateFit n (with_one_more_call s) = record { left = fewer m (n + (s.expansions + 1)) ((n + suc (length ts)) + s.expansions) s.left (omega arith) fit.left; macros = fit.macros } in
        let yielded : Substitution = call_substitution d (arguments_of ts) (s.expansions + 1) in
        let lines = played_lines m yielded d.body (record { arguments = arguments_fit m ts h; count = (omega (arith, few, less), tt); locals = tt; number = omega (arith, few) }) body in
        grind (arith, common_steps, (enters (with_one_more_call s) (map (body_line yielded) d.body) (new_end_mark s true None) s.left.place inner lines))

    ordinary_on : (s : State) (ts : List Lexeme) → IsStateFit (n + length ts) s → AreFit m ts → IsKept (plain_line_result s ts)
    ordinary_on s [] fit h = fewer_given n 0 s fit
    ordinary_on s (t ∷ ts) fit h = grind (arith, common_steps, (macro_fit s.macros t.0 t.1 fit.macros), (calls_on s ts fit h.1))

    acted_on : (k : EnvironmentView) (s : State) (ts : List Lexeme) (o : Option Directive) → IsStateFit (n + length ts) s → AreFit m ts → Keeps (line_step k s ts o)
    acted_on k s ts (Some d) fit h = directed_on s (fewer_given n (length ts) s fit) k d (drop 1 ts) (all_drop (IsTokenFit m) 1 ts h)
    acted_on k s ts None fit h = ordinary_on s ts fit h

    split_on : (k : EnvironmentView) (s : State) (ts : List Lexeme) (d : Option Directive) (len : ℕ) → IsStateFit (n + length ts) s → AreFit m ts → Keeps (label_step k s ts d len)
    split_on k s ts d zero fit h = acted_on k s ts d fit h
    split_on k s ts d (suc len) fit h =
        let few = fit.left.few in
        let front = length-take (suc len) ts in
        let rest = length-drop (suc len) ts in
        (all_take (IsTokenFit m) (suc len) ts h, record { left = record { items = (all_drop (IsTokenFit m) (suc len) ts h, fit.left.items); few = omega (arith, few, front, rest) }; macros = fit.macros })

    line_on : (k : EnvironmentView) (s : State) (ts : List Lexeme) (b : Bool) → IsStateFit (n + length ts) s → AreFit m ts → Keeps (unless_mislabelled k s ts b)
    line_on k s ts true fit h = tt
    line_on k s ts false fit h = split_on k s ts (line_directive ts) (label_len ts) fit h

    -- ---- A step.

    mark_on : (s : State) (is : List Item) → IsStateFit n s → IsLeftFit m (n + s.expansions) (remaining_input is s.left.room s.left.place) → IsKept (end_mark_step s is)
    mark_on s x1 fit h = grind (arith, common_steps, after_mark)

    after_on : (k : EnvironmentView) (s : State) → IsStateFit n s → (t : LineAndRest) → IsTakenFit m (n + s.expansions) t → Keeps (step_after k s t)
    after_on k s fit (Ok (Some ts, x)) h = line_on k (with_remaining s x) ts (is_mislabelled ts) (record { left = fewer m ((n + length ts) + s.expansions) ((n + s.expansions) + length ts) x (omega arith) h.1; macros = fit.macros }) h.0
    after_on k s fit (Ok (None, x)) h = mark_on (with_remaining s x) x.items (record { left = h; macros = fit.macros }) h
    after_on k s fit (Err e) h = tt

    -- the step that the first item of the input selects
    from_on : (k : EnvironmentView) (s : State) (is : List Item) → IsStateFit n s → IsLeftFit m (n + s.expansions) (remaining_input is s.left.room s.left.place) → Keeps (step_from k s is)
    from_on k s (label_rest ts ∷ is) fit h = let few = h.few in acted_on k (with_items s is) ts (first_directive ts) (record { left = record { items = h.items.1; few = omega (arith, few) }; macros = fit.macros }) h.items.0
    from_on k s (elseif_rest ts ∷ is) fit h = if_on (with_items s is) (record { left = record { items = h.items.1; few = h.few }; macros = fit.macros }) k True ts
    from_on k s _ fit h = λ t reads_line. after_on k s fit t (taken_fit m (n + s.expansions) s.left t fit.left reads_line)

  step_fit : (n : ℕ) (k : EnvironmentView) (s : State) (r : StepResult) → IsStateFit n s → IsStep m k s r → IsKept n r
  unfolding IsStep
  step_fit n k s r fit step = led_fit n (step_from k s s.left.items) r (from_on n k s s.left.items fit fit.left) step

  -- ---- The next result.

  abbrev pub IsNextFit : ℕ → Next → Type 0
  IsNextFit n (statement x t) = AreFit m (tokens_of x) × IsStateFit (n + length (tokens_of x)) t
  IsNextFit n (nothing t) = ⊤
  IsNextFit n (fault e) = ⊤

  pub next_fit : (n : ℕ) (k : EnvironmentView) (s : State) (x : Next) → IsStateFit n s → ReachesNext m k s x → IsNextFit n x
  next_fit n k s x fit (further _ t _ step more) = next_fit n k t x (step_fit n k s (continues t) fit step) more
  next_fit n k s x fit (yielded _ t y step) = step_fit n k s (yields y t) fit step
  next_fit n k s x fit _ = tt

  -- ---- The first state of a source.

  first_fit : (file : List ℕ) (folders : List (List ℕ)) (bytes : List ℕ) → IsStateFit 0 (first_state file folders bytes)
  first_fit file folders bytes =
      let none : IsLeftFit m 0 (remaining_input [] line_limit (line_location file 0)) = record { items = tt; few = omega arith } in
      record { left = pushed_fit m 0 (file_lines_after 0 (lines_of bytes)) (record { is_macro = false; conditions = 0; return_location = None }) (remaining_input [] line_limit (line_location file 0)) (line_location file 0) none (written_lines m 0 (lines_of bytes)); macros = tt }

  pub opened_fit : (file : List ℕ) (folders : List (List ℕ)) (s : State) → first_state_in m file folders ≡ Ok s → IsStateFit 0 s
  opened_fit file folders s h = by (bytes_in (file_named m file)) h
    where
      by : (q : Result (List ℕ) ExpandFault) → (q >>= (λ bytes. Ok (first_state file folders bytes))) ≡ Ok s → IsStateFit 0 s
      by (Ok bytes) e = let same : first_state file folders bytes ≡ s = cc in subst (IsStateFit 0) same (first_fit file folders bytes)
      by (Err f) e = absurd cc
